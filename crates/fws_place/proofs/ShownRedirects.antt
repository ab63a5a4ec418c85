-- The redirects of rows are those that packets show.
use Rattle.std.proofs.Common.{◌≡◌, ◌≢◌, ℕ, zero, suc, ◌+◌, ◌-◌, ◌^◌, ◌<◌, ◌≤◌, true, Option, Some, None, List, [], ◌∷◌, ◌++◌, ◌⊎◌, inl, inr, refl, sym, ◌∙◌, ap, subst, arith, length, get_or, take, append_assoc, All, IsTrue}
use Rattle.std.proofs.lemmas.Bool.{and_parts, and_from, false≢true}
use Rattle.std.proofs.lemmas.List.{get_or-take, length-take-le}
use Rattle.std.proofs.lemmas.List.Elements.{All-take, All-weaker, Contains-append_left}
use Rattle.std.specs.Prelude.{Contains, slice_set, unwrap_or}
use Rattle.fws_iv.specs.declared.iv.Iv.{Iv}
use Rattle.fws_iv.specs.Ivs.{has}
use Rattle.fws_box.specs.Sides.{IsWithin, sides_have}
use Rattle.fws_net.specs.declared.outcome.End.{End}
use Rattle.fws_net.specs.declared.outcome.Outcome.{Outcome}
use Rattle.fws_net.specs.declared.outcome.Outcome.TheVariants.{Drop, Accept}
use Rattle.fws_net.specs.declared.outcome.Rewrite.{Rewrite}
use Rattle.fws_net.specs.declared.packet.Packet.{Packet}
use Rattle.fws_net.specs.declared.site.Site.{Site}
use Rattle.fws_net.specs.Points.{tops_of, packet_of}
use Rattle.fws_tree.specs.declared.row.Row.{Row}
use Rattle.fws_tree.specs.declared.tables.Tables.{Tables}
use Rattle.fws_tree.specs.Plain.{value, IsReduced}
use Rattle.fws_tree.specs.Regular.{AreRegular}
use Rattle.fws_tree.specs.Rows.{row_hits}
use Rattle.fws_place.specs.declared.clause.Clause.TheVariants.{FewRedirects}
use Rattle.fws_place.specs.Clauses.{Breaks}
use Rattle.fws_place.specs.Fits.{Meets}
use Rattle.fws_place.specs.declared.redirect.Redirect.{Redirect}
use Rattle.fws_place.specs.Counts.{AreDifferent, IsIn, IsShown, new_rows, public_service, redirect_of, ShowTooManyRedirects}
use Rattle.fws_place.specs.Gathered.{IsOfAddress, IsOfEnd, plain_redirect, served_redirect}
use Rattle.fws_place.specs.Meaning.{IsPacketOf, new_of, no_ends, point_of}
use Rattle.fws_place.specs.RowRedirects.{AreAllOf, destination_of, HasNowhere, HaveMany, IsFirstMany, IsOfDestination, IsOfRows, IsServed}
use Rattle.fws_place.specs.Sides.{AreSidesOf, least_of, leasts}
use Rattle.fws_place.proofs.Counting.{pigeons}
use Rattle.fws_place.proofs.Finding.{hit}
use Rattle.fws_place.proofs.NewRows.{first_in, firsts, lasts, open_sides, row_packet, rows_open, set_within}
use Rattle.fws_place.proofs.OpenRows.{IsOpen}

-- Sides

pub sides_length : (tops : List ℕ) (sides : List (List Iv)) → AreSidesOf tops sides → length sides ≡ length tops
sides_length [] [] a = refl
sides_length [] (s ∷ sides) a = absurd a
sides_length (top ∷ tops) [] a = absurd a
sides_length (top ∷ tops) (s ∷ sides) a = ap suc (sides_length tops sides a.2)

-- the least value of a side
side_least : (tops : List ℕ) (sides : List (List Iv)) (k : ℕ) → AreSidesOf tops sides → k < length tops
    → (has (get_or sides k []) (least_of (get_or sides k [])) ≡ true) × (least_of (get_or sides k []) ≤ get_or tops k 0)
side_least [] [] k a lt = absurd (omega arith)
side_least [] (s ∷ sides) k a lt = absurd a
side_least (top ∷ tops) [] k a lt = absurd a
side_least (top ∷ tops) (s ∷ sides) zero a lt = (a.0, a.1)
side_least (top ∷ tops) (s ∷ sides) (suc k) a lt = side_least tops sides k a.2 (omega arith)

-- a value of a point that lies in the sides is a member of its side
pub side_has : (sides : List (List Iv)) (p : List ℕ) (k : ℕ) → sides_have sides p ≡ true → k < length sides → has (get_or sides k []) (get_or p k 0) ≡ true
side_has [] p k h lt = absurd (omega arith)
side_has (s ∷ sides) [] k h lt = absurd (false≢true h)
side_has (s ∷ sides) (x ∷ p) zero h lt = (and_parts (has s x) (sides_have sides p) h).0
side_has (s ∷ sides) (x ∷ p) (suc k) h lt = side_has sides p k (and_parts (has s x) (sides_have sides p) h).1 (omega arith)

-- another member in its place
pub have_set : (sides : List (List Iv)) (p : List ℕ) (k x : ℕ) → sides_have sides p ≡ true → has (get_or sides k []) x ≡ true → sides_have sides (slice_set p k x) ≡ true
have_set [] p k x h there = refl
have_set (s ∷ sides) [] k x h there = h
have_set (s ∷ sides) (y ∷ p) zero x h there = and_from (has s x) (sides_have sides p) there (and_parts (has s y) (sides_have sides p) h).1
have_set (s ∷ sides) (y ∷ p) (suc k) x h there =
    let both = and_parts (has s y) (sides_have sides p) h in
    and_from (has s y) (sides_have sides (slice_set p k x)) both.0 (have_set sides p k x both.1 there)

-- Rows of the table

-- what is known of each row of the table
pub record IsGood (site : Site) (tables : Tables) (row : Row Outcome) : Type 0 where
  pub spread : IsOpen (firsts site) lasts row
  pub right : (q : List ℕ) → IsWithin (tops_of site) q → IsTrue (sides_have row.sides q) → value tables.fresh.1 q ≡ Some row.leaf

twelve : (site : Site) (tables : Tables) (row : Row Outcome) → IsGood site tables row → length row.sides ≡ 12
twelve site tables row good = sides_length (tops_of site) row.sides (open_sides site row good.spread)

pub good_served : (site : Site) (tables : Tables) (row : Row Outcome) → IsGood site tables row → IsServed row
good_served site tables row good =
    let sides : AreSidesOf (tops_of site) row.sides = open_sides site row good.spread in
    let proto = side_least (tops_of site) row.sides 1 sides (omega arith) in
    let port = side_least (tops_of site) row.sides 3 sides (omega arith) in
    record {
      proto = least_of (get_or row.sides 1 []);
      proto_there = proto.0;
      proto_low = proto.1;
      port = least_of (get_or row.sides 3 []);
      port_there = port.0;
      port_low = port.1;
    }

-- what becomes of the packets of a row
row_leaf : (site : Site) (tables : Tables) (row : Row Outcome) (p : Packet) → IsGood site tables row → IsPacketOf site p → IsIn row p → new_of tables p ≡ row.leaf
row_leaf site tables row p good w in_row = ap (λ v. unwrap_or v Drop) (good.right (point_of p no_ends) w in_row)

-- From packets to rows

of_packet : (port : Option ℕ) (e : End) (protos ports : List Iv) (p : Packet) → (has protos p.proto ≡ true) × (p.proto ≤ 255) → (has ports p.dport ≡ true) × (p.dport ≤ 65535)
    → IsOfAddress port e protos ports p.dst (record { local = e; public = record { addr = p.dst; service = public_service port p } })
of_packet None e protos ports p proto dport = refl
of_packet (Some port) e protos ports p proto dport = (p.proto, proto.0, proto.1, (p.dport, dport.0, dport.1, refl))

pub shown_of : (site : Site) (tables : Tables) (rows : List (Row Outcome)) → All (IsGood site tables) rows → (r : Redirect) → IsShown site tables rows r → IsOfRows rows r
shown_of site tables rows all r shown =
    let k : ℕ = shown.within.0 in
    let row : Row Outcome = shown.within.1 in
    let good : IsGood site tables row = subst (IsGood site tables) shown.within.3 (all k row shown.within.2) in
    let p : Packet = shown.packet in
    let w = shown.of_site in
    let in_row : IsIn row p = shown.within.4 in
    let many : length row.sides ≡ 12 = twelve site tables row good in
    let leaf : Accept shown.rewriting ≡ row.leaf = sym shown.accepted ∙ row_leaf site tables row p good w in_row in
    let writes : Some r.local ≡ destination_of row.leaf = sym shown.written ∙ ap destination_of leaf in
    let e : End = r.local in
    let of : IsOfEnd e (get_or row.sides 2 []) (get_or row.sides 1 []) (get_or row.sides 3 []) (redirect_of e p)
    = (
      p.dst,
      side_has row.sides (point_of p no_ends) 2 in_row (omega arith),
      w.1.1.0,
      of_packet e.port e (get_or row.sides 1 []) (get_or row.sides 3 []) p
          (side_has row.sides (point_of p no_ends) 1 in_row (omega arith), w.1.0) (side_has row.sides (point_of p no_ends) 3 in_row (omega arith), w.1.1.1.0),
    ) in (
      k,
      row,
      shown.within.2,
      shown.within.3,
      subst (λ d. IsOfDestination row.sides d r) writes (subst (λ s. IsOfEnd e (get_or row.sides 2 []) (get_or row.sides 1 []) (get_or row.sides 3 []) s) shown.same of),
    )

-- From rows to packets

-- a packet of the row with this protocol, destination and port
placed : (site : Site) (tables : Tables) (row : Row Outcome) → IsGood site tables row → (proto dst dport : ℕ) → (has (get_or row.sides 1 []) proto ≡ true) × (proto ≤ 255)
    → (has (get_or row.sides 2 []) dst ≡ true) × (dst ≤ 2 ^ 32 - 1) → (has (get_or row.sides 3 []) dport ≡ true) × (dport ≤ 65535)
    → (p : Packet) × IsPacketOf site p × IsIn row p × (p.proto ≡ proto) × (p.dst ≡ dst) × (p.dport ≡ dport)
placed site tables row good proto dst dport a b c =
    let first = row_packet site row good.spread in
    let q : Packet = packet_of (leasts row.sides) in
    let p1 : Packet = record q { proto = proto } in
    let p2 : Packet = record p1 { dst = dst } in
    let p3 : Packet = record p2 { dport = dport } in
    let w1 : IsPacketOf site p1 = set_within (tops_of site) (point_of q no_ends) 1 proto first.0 a.1 in
    let w2 : IsPacketOf site p2 = set_within (tops_of site) (point_of p1 no_ends) 2 dst w1 b.1 in
    let w3 : IsPacketOf site p3 = set_within (tops_of site) (point_of p2 no_ends) 3 dport w2 c.1 in
    let i1 : IsIn row p1 = have_set row.sides (point_of q no_ends) 1 proto first.1 a.0 in
    let i2 : IsIn row p2 = have_set row.sides (point_of p1 no_ends) 2 dst i1 b.0 in
    let i3 : IsIn row p3 = have_set row.sides (point_of p2 no_ends) 3 dport i2 c.0 in
    (p3, w3, i3, refl, refl, refl)

-- an outcome that writes a destination accepts
accepting : (o : Outcome) (e : End) → destination_of o ≡ Some e → (w : Rewrite) × (o ≡ Accept w) × (w.dst ≡ Some e)
accepting Drop e h = absurd (cc)
accepting (Accept w) e h = (w, refl, h)

-- the redirect of a packet of the row
packet_shows : (site : Site) (tables : Tables) (rows : List (Row Outcome)) (k : ℕ) (row : Row Outcome) (e : End) (p : Packet) → IsGood site tables row → k < length rows
    → get_or rows k row ≡ row → destination_of row.leaf ≡ Some e → IsPacketOf site p → IsIn row p → IsShown site tables rows (redirect_of e p)
packet_shows site tables rows k row e p good lt is writes w in_row =
    let accepts = accepting row.leaf e writes in
    record {
      packet = p;
      of_site = w;
      within = (k, row, lt, is, in_row);
      rewriting = accepts.0;
      accepted = row_leaf site tables row p good w in_row ∙ accepts.1;
      written = accepts.2;
      same = refl;
    }

-- the redirect of a value of the sides
row_shows : (site : Site) (tables : Tables) (rows : List (Row Outcome)) (k : ℕ) (row : Row Outcome) (e : End) (r : Redirect) → IsGood site tables row → k < length rows
    → get_or rows k row ≡ row → destination_of row.leaf ≡ Some e → IsOfEnd e (get_or row.sides 2 []) (get_or row.sides 1 []) (get_or row.sides 3 []) r → IsShown site tables rows r
row_shows site tables rows k row e r good lt is writes of = by e.port refl of.3
  where
    served : IsServed row
    served = good_served site tables row good

    protos : List Iv
    protos = get_or row.sides 1 []

    ports : List Iv
    ports = get_or row.sides 3 []

    by : (port : Option ℕ) → e.port ≡ port → IsOfAddress port e (get_or row.sides 1 []) (get_or row.sides 3 []) of.0 r → IsShown site tables rows r
    by None written plain =
        let found = placed site tables row good served.proto of.0 served.port (served.proto_there, served.proto_low) (of.1, of.2) (served.port_there, served.port_low) in
        let p : Packet = found.0 in
        let e1 : redirect_of e p ≡ record { local = e; public = record { addr = p.dst; service = None } }
        = ap (λ (o : Option ℕ). record { local = e; public = record { addr = p.dst; service = public_service o p } }) written in
        let e2 : record { local = e; public = record { addr = p.dst; service = None } } ≡ plain_redirect e of.0 = ap (λ (x : ℕ). plain_redirect e x) found.4 in
        subst (λ s. IsShown site tables rows s) (e1 ∙ e2 ∙ sym plain) (packet_shows site tables rows k row e p good lt is writes found.1 found.2)
    by (Some port) written serves =
        let found = placed site tables row good serves.0 of.0 serves.3.0 (serves.1, serves.2) (of.1, of.2) (serves.3.1, serves.3.2) in
        let p : Packet = found.0 in
        let e1 : redirect_of e p ≡ served_redirect e p.dst p.proto p.dport
        = ap (λ (o : Option ℕ). record { local = e; public = record { addr = p.dst; service = public_service o p } }) written in
        let e2 : served_redirect e p.dst p.proto p.dport ≡ served_redirect e of.0 p.proto p.dport = ap (λ (x : ℕ). served_redirect e x p.proto p.dport) found.4 in
        let e3 : served_redirect e of.0 p.proto p.dport ≡ served_redirect e of.0 serves.0 p.dport = ap (λ (x : ℕ). served_redirect e of.0 x p.dport) found.3 in
        let e4 : served_redirect e of.0 serves.0 p.dport ≡ served_redirect e of.0 serves.0 serves.3.0 = ap (λ (x : ℕ). served_redirect e of.0 serves.0 x) found.5 in
        subst (λ s. IsShown site tables rows s) (e1 ∙ e2 ∙ e3 ∙ e4 ∙ sym serves.3.3) (packet_shows site tables rows k row e p good lt is writes found.1 found.2)

pub of_shown : (site : Site) (tables : Tables) (rows : List (Row Outcome)) → All (IsGood site tables) rows → (r : Redirect) → IsOfRows rows r → IsShown site tables rows r
of_shown site tables rows all r any = by (destination_of any.1.leaf) refl any.4
  where
    by : (d : Option End) → destination_of any.1.leaf ≡ d → IsOfDestination any.1.sides d r → IsShown site tables rows r
    by None writes of = absurd of
    by (Some e) writes of =
        row_shows site tables rows any.0 any.1 e r (subst (IsGood site tables) any.3 (all any.0 any.1 any.2)) any.2 any.3 writes of

-- Limits

-- few redirects pass no limit
pub all_few : (site : Site) (tables : Tables) (rows : List (Row Outcome)) (keys : List Redirect) → All (IsGood site tables) rows → AreAllOf rows keys → ShowTooManyRedirects site tables rows → ⊥
all_few site tables rows keys good all too_many = elim too_many [
  | inl nowhere ↦ all.somewhere (nowhere.redirect, shown_of site tables rows good nowhere.redirect nowhere.shown, nowhere.nowhere)
  | inr above ↦
      let le : length above.redirects ≤ length keys = pigeons above.redirects keys above.different
      (All-weaker (IsShown site tables rows) (Contains keys) (λ r h. all.covered r (shown_of site tables rows good r h)) above.redirects above.shown) in
      let many : length above.redirects ≡ 4096 + 1 = above.many in
      let few : length keys ≤ 4096 = all.few in
      omega arith
]

take_different : (n : ℕ) (xs : List Redirect) → n ≤ length xs → AreDifferent xs → AreDifferent (take n xs)
take_different n xs le different i j d lt low same =
    let many : length (take n xs) ≡ n = length-take-le n xs le in
    let below : j < n = omega arith in
    different i j d lt (omega arith) (sym (get_or-take n xs i d (omega arith)) ∙ same ∙ get_or-take n xs j d below)

-- too many redirects do
pub many_pass : (site : Site) (tables : Tables) (rows : List (Row Outcome)) → All (IsGood site tables) rows → HasNowhere (λ r. IsOfRows rows r) ⊎ HaveMany rows → ShowTooManyRedirects site tables rows
many_pass site tables rows good either = elim either [
  | inl nowhere ↦ inl (record { redirect = nowhere.0; shown = of_shown site tables rows good nowhere.0 nowhere.1; nowhere = nowhere.2 })
  | inr above ↦
      let lt : 4096 < length above.redirects = above.many in
      inr (record {
        redirects = take 4097 above.redirects;
        many = length-take-le 4097 above.redirects (omega arith);
        different = take_different 4097 above.redirects (omega arith) above.different;
        shown = All-take (IsShown site tables rows) 4097 above.redirects
            (All-weaker (λ r. IsOfRows rows r) (IsShown site tables rows) (λ r h. of_shown site tables rows good r h) above.redirects above.shown);
      })
]

-- The table

-- what a list of the table's rows says of each
pub rows_good : (site : Site) (tables : Tables) → AreRegular site tables → IsReduced tables.fresh.0 tables.fresh.1 → (rows : List (Row Outcome)) → rows ≡ new_rows tables
    → ((q : List ℕ) → IsWithin tables.fresh.0 q → All (λ row. IsTrue (sides_have row.sides q) → value tables.fresh.1 q ≡ Some row.leaf) rows) → All (IsGood site tables) rows
rows_good site tables regular reduced rows e right k d lt =
    let spread : All (IsOpen (firsts site) lasts) rows = subst (λ l. All (IsOpen (firsts site) lasts) l) (sym e) (rows_open site tables regular reduced) in
    record { spread = spread k d lt; right = λ q w. right q (subst (λ ts. IsWithin ts q) (sym regular.fresh_tops) w) k d lt }

more_shown : (site : Site) (tables : Tables) (rows more : List (Row Outcome)) (r : Redirect) → IsShown site tables rows r → IsShown site tables (rows ++ more) r
more_shown site tables rows more r shown =
    let there = Contains-append_left rows more shown.within.1 (shown.within.0, shown.within.2, shown.within.3) in
    record {
      packet = shown.packet;
      of_site = shown.of_site;
      within = (there.0, shown.within.1, there.1, there.2, shown.within.4);
      rewriting = shown.rewriting;
      accepted = shown.accepted;
      written = shown.written;
      same = shown.same;
    }

-- what rows show, more rows show
more_pass : (site : Site) (tables : Tables) (rows more : List (Row Outcome)) → ShowTooManyRedirects site tables rows → ShowTooManyRedirects site tables (rows ++ more)
more_pass site tables rows more either = elim either [
  | inl nowhere ↦ inl (record { redirect = nowhere.redirect; shown = more_shown site tables rows more nowhere.redirect nowhere.shown; nowhere = nowhere.nowhere })
  | inr above ↦ inr (record {
    redirects = above.redirects;
    many = above.many;
    different = above.different;
    shown = All-weaker (IsShown site tables rows) (IsShown site tables (rows ++ more)) (λ r h. more_shown site tables rows more r h) above.redirects above.shown;
  })
]

-- where all redirects are few the clause is met
pub few_meet : (site : Site) (tables : Tables) (keys : List Redirect) → All (IsGood site tables) (new_rows tables) → AreAllOf (new_rows tables) keys → Meets site tables FewRedirects
few_meet site tables keys good all first second named =
    let such = named.such in
    all_few site tables (new_rows tables) keys good all
    (subst (ShowTooManyRedirects site tables) (append_assoc such.front (such.row ∷ []) such.back ∙ sym such.rows)
    (more_pass site tables (such.front ++ such.row ∷ []) such.back such.here))

-- else a packet of the first row with too many breaks it
pub many_break : (site : Site) (tables : Tables) → AreRegular site tables → IsReduced tables.fresh.0 tables.fresh.1 → (at : ℕ) (row : Row Outcome) (p : List ℕ)
    → All (IsGood site tables) (new_rows tables) → IsFirstMany (new_rows tables) at → row ≡ get_or (new_rows tables) at row → p ≡ leasts row.sides
    → Breaks site tables FewRedirects (record { packet = packet_of p; rec = None }) None
many_break site tables regular reduced at row p good many is e =
    first_in site tables regular reduced (ShowTooManyRedirects site tables) at row p many.within is e
    (all_few site tables (take at (new_rows tables)) many.keys (All-take (IsGood site tables) at (new_rows tables) good) many.before)
    (many_pass site tables (take (at + 1) (new_rows tables)) (All-take (IsGood site tables) (at + 1) (new_rows tables) good) many.here)

-- the redirect of each accepted packet is among all
pub all_shown : (site : Site) (tables : Tables) (keys : List Redirect) → All (IsGood site tables) (new_rows tables) → ((q : List ℕ) → IsWithin (tops_of site) q → row_hits (new_rows tables) q ≡ 1)
    → AreAllOf (new_rows tables) keys → (p : Packet) (w : Rewrite) (e : End) → IsPacketOf site p → new_of tables p ≡ Accept w → w.dst ≡ Some e → Contains keys (redirect_of e p)
all_shown site tables keys good once all p w e of_site accepted written =
    let one : row_hits (new_rows tables) (point_of p no_ends) ≡ 1 = once (point_of p no_ends) of_site in
    let at = hit (new_rows tables) (point_of p no_ends) (omega arith) in
    all.covered (redirect_of e p) (shown_of site tables (new_rows tables) good (redirect_of e p) (record {
      packet = p;
      of_site = of_site;
      within = (at.1.0, at.0, at.1.1, at.1.2, at.2);
      rewriting = w;
      accepted = accepted;
      written = written;
      same = refl;
    }))

pub all_sound : (site : Site) (tables : Tables) (keys : List Redirect) → All (IsGood site tables) (new_rows tables) → AreAllOf (new_rows tables) keys → All (IsShown site tables (new_rows tables)) keys
all_sound site tables keys good all =
    All-weaker (λ r. IsOfRows (new_rows tables) r) (IsShown site tables (new_rows tables)) (λ r h. of_shown site tables (new_rows tables) good r h) keys all.shown

pub all_somewhere : (rows : List (Row Outcome)) (keys : List Redirect) → AreAllOf rows keys → All (λ r. r.public.addr ≢ 0) keys
all_somewhere rows keys all k d lt nowhere = all.somewhere (get_or keys k d, all.shown k d lt, nowhere)

item : {X : Type 0} (xs : List X) (k : ℕ) → k < length xs → (x : X) × (x ≡ get_or xs k x)
item [] k lt = absurd (omega arith)
item (x ∷ xs) zero lt = (x, refl)
item (x ∷ xs) (suc k) lt = item xs k (omega arith)

-- so that there is no such row where the clause is met
pub many_unmet : (site : Site) (tables : Tables) → AreRegular site tables → IsReduced tables.fresh.0 tables.fresh.1 → (at : ℕ) → All (IsGood site tables) (new_rows tables)
    → IsFirstMany (new_rows tables) at → Meets site tables FewRedirects → ⊥
many_unmet site tables regular reduced at good many meets =
    let row = item (new_rows tables) at many.within in
    meets (record { packet = packet_of (leasts row.0.sides); rec = None }) None
    (many_break site tables regular reduced at row.0 (leasts row.0.sides) good many row.1 refl)
