-- What becomes of new packets that cross, where tables fit Cisco IOS.
use Rattle.std.proofs.Common.{◌≡◌, ℕ, zero, suc, ◌-◌, ◌≤◌, ◌^◌, Bool, true, false, ◌&&◌, nat_eq, cond, Option, Some, None, List, [], ◌∷◌, refl, sym, ◌∙◌, ap, subst, arith, get_or}
use Rattle.std.proofs.lemmas.Bool.{eqb-true, eq-eqb, false≢true}
use Rattle.std.specs.Option.{option_map_or}
use Rattle.std.specs.Prelude.{is_some, slice_index, slice_set, unwrap_or}
use Rattle.fws_box.specs.Sides.{IsWithin}
use Rattle.fws_ios_put_entries.specs.Seen.{IsSeenAt, LookSame}
use Rattle.fws_ios_put_sources.specs.declared.translations.Sources.{Sources}
use Rattle.fws_ios_put_sources.specs.Crossing.{AreTold, IsCrossing}
use Rattle.fws_ios_put_sources.specs.Lists.{AreTranslations, WritesHost}
use Rattle.fws_ios_put_sources.specs.Sources.{crosses, IsSources}
use Rattle.fws_net.specs.declared.outcome.End.{End}
use Rattle.fws_net.specs.declared.outcome.Outcome.{Outcome}
use Rattle.fws_net.specs.declared.outcome.Outcome.TheVariants.{Drop, Accept}
use Rattle.fws_net.specs.declared.outcome.Rewrite.{Rewrite}
use Rattle.fws_net.specs.declared.packet.Lang.TheVariants.{Ios}
use Rattle.fws_net.specs.declared.packet.Packet.{Packet}
use Rattle.fws_net.specs.declared.site.Site.{Site}
use Rattle.fws_net.specs.declared.transit.Transit.{Transit}
use Rattle.fws_net.specs.Ends.{host_end}
use Rattle.fws_net.specs.Fates.{has_ports, written_addr}
use Rattle.fws_net.specs.Points.{packet_of, tops_of}
use Rattle.fws_net.specs.Routes.{exit_at}
use Rattle.fws_place.specs.Clauses.{AgreeButEntryAndFlags}
use Rattle.fws_place.specs.Fits.{Fits}
use Rattle.fws_place.specs.IosLaws.{IosKeepsNewPackets, IosSourcesAgree, IsKeptByIos}
use Rattle.fws_place.specs.Meaning.{new_of, no_ends, point_of, rec_of, IsPacketOf}
use Rattle.fws_place.specs.Rewritings.{goes_outside, is_inside, leaves_outside, side_of}
use Rattle.fws_tree.specs.declared.tables.Tables.{Tables}
use Rattle.fws_tree.specs.Changed.{Agree}
use Rattle.fws_tree.specs.OutcomeEquality.{end_same}
use Rattle.fws_tree.specs.Plain.{Plain, value}
use Rattle.fws_tree.specs.Regular.{AreRegular, IsFreeOf}
use Rattle.fws_ios_put_sources.proofs.Boxes.{point_back}

-- ---- points that look the same

set_within : (tops x : List ℕ) (f v : ℕ) → IsWithin tops x → v ≤ slice_index tops f → IsWithin tops (slice_set x f v)
set_within [] [] f v within le = within
set_within [] (a ∷ x) f v within le = absurd within
set_within (top ∷ tops) [] f v within le = absurd within
set_within (top ∷ tops) (a ∷ x) zero v within le = (le, within.1)
set_within (top ∷ tops) (a ∷ x) (suc f) v within le = (within.0, set_within tops x f v within.1 le)

-- twelve values
abbrev spread : (ℕ → ℕ) → List ℕ
spread a = a 0 ∷ a 1 ∷ a 2 ∷ a 3 ∷ a 4 ∷ a 5 ∷ a 6 ∷ a 7 ∷ a 8 ∷ a 9 ∷ a 10 ∷ a 11 ∷ []

-- a field with which no value changes, or which stays
moved : (tops : List ℕ) (t : Plain Outcome) (l : List ℕ) (f v : ℕ) → v ≤ slice_index tops f → (c : Bool) → (c ≡ true → slice_set l f v ≡ l) → (c ≡ false → IsFreeOf tops t f l)
    → value t l ≡ value t (slice_set l f v)
moved tops t l f v le true stays free = ap (value t) (sym (stays refl))
moved tops t l f v le false stays free = sym (free refl v le)

steady_by : (site : Site) (tables : Tables) → AreRegular site tables → (a b : ℕ → ℕ) → IsWithin (tops_of site) (spread a) → IsWithin (tops_of site) (spread b)
    → a 0 ≡ b 0 → a 6 ≡ b 6 → LookSame (spread a) (spread b) → value tables.fresh.1 (spread a) ≡ value tables.fresh.1 (spread b)
steady_by site tables regular a b w v entry flags look =
    let tops : List ℕ = tops_of site in
    let t : Plain Outcome = tables.fresh.1 in
    let l0 : List ℕ = spread a in
    let l1 : List ℕ = slice_set l0 3 (b 3) in
    let l2 : List ℕ = slice_set l1 5 (b 5) in
    let l3 : List ℕ = slice_set l2 7 (b 7) in
    let l4 : List ℕ = slice_set l3 8 (b 8) in
    let l5 : List ℕ = slice_set l4 9 (b 9) in
    let l6 : List ℕ = slice_set l5 10 (b 10) in
    let v3 = v.1.1.1 in
    let v5 = v3.1.1 in
    let v7 = v5.1.1 in
    let v8 = v7.1 in
    let v9 = v8.1 in
    let v10 = v9.1 in
    let v11 = v10.1 in
    let w1 : IsWithin tops l1 = set_within tops l0 3 (b 3) w v3.0 in
    let w2 : IsWithin tops l2 = set_within tops l1 5 (b 5) w1 v5.0 in
    let w3 : IsWithin tops l3 = set_within tops l2 7 (b 7) w2 v7.0 in
    let w4 : IsWithin tops l4 = set_within tops l3 8 (b 8) w3 v8.0 in
    let w5 : IsWithin tops l5 = set_within tops l4 9 (b 9) w4 v9.0 in
    let w6 : IsWithin tops l6 = set_within tops l5 10 (b 10) w5 v10.0 in
    let no : false ≡ true → ⊥ = false≢true in
    moved tops t l0 3 (b 3) v3.0 (has_ports (a 1)) (λ e. let is = look.dport e in λ i. a 0 ∷ a 1 ∷ a 2 ∷ sym is i ∷ a 4 ∷ a 5 ∷ a 6 ∷ a 7 ∷ a 8 ∷ a 9 ∷ a 10 ∷ a 11 ∷ [])
    (λ e. regular.fresh_ports 3 l0 refl w e)
    ∙ moved tops t l1 5 (b 5) v5.0 (has_ports (a 1)) (λ e. let is = look.sport e in λ i. a 0 ∷ a 1 ∷ a 2 ∷ b 3 ∷ a 4 ∷ sym is i ∷ a 6 ∷ a 7 ∷ a 8 ∷ a 9 ∷ a 10 ∷ a 11 ∷ [])
    (λ e. regular.fresh_ports 5 l1 refl w1 e)
    ∙ moved tops t l2 7 (b 7) v7.0 (nat_eq (a 1) 1)
    (λ e. let is = look.icmp (eqb-true (a 1) 1 e) in λ i. a 0 ∷ a 1 ∷ a 2 ∷ b 3 ∷ a 4 ∷ b 5 ∷ a 6 ∷ sym is i ∷ a 8 ∷ a 9 ∷ a 10 ∷ a 11 ∷ [])
    (λ e. regular.fresh_icmp l2 w2 (λ is. false≢true (sym e ∙ eq-eqb (a 1) 1 is)))
    ∙ moved tops t l3 8 (b 8) v8.0 false (λ e. absurd (no e)) (λ e. regular.fresh_alone 8 l3 (omega arith) (omega arith) w3)
    ∙ moved tops t l4 9 (b 9) v9.0 false (λ e. absurd (no e)) (λ e. regular.fresh_alone 9 l4 (omega arith) (omega arith) w4)
    ∙ moved tops t l5 10 (b 10) v10.0 false (λ e. absurd (no e)) (λ e. regular.fresh_alone 10 l5 (omega arith) (omega arith) w5)
    ∙ moved tops t l6 11 (b 11) v11.0 false (λ e. absurd (no e)) (λ e. regular.fresh_alone 11 l6 (omega arith) (omega arith) w6)
    ∙ (let e1 : a 1 ≡ b 1 = look.proto in
    let e2 : a 2 ≡ b 2 = look.dst in
    let e4 : a 4 ≡ b 4 = look.src in
    λ i. value t (entry i ∷ e1 i ∷ e2 i ∷ b 3 ∷ e4 i ∷ b 5 ∷ flags i ∷ b 7 ∷ b 8 ∷ b 9 ∷ b 10 ∷ b 11 ∷ []))

-- what becomes of new packets is told by the entry, the flags and what lists see
pub steady : (site : Site) (tables : Tables) → AreRegular site tables → (x y : List ℕ) → IsWithin (tops_of site) x → IsWithin (tops_of site) y
    → get_or x 0 0 ≡ get_or y 0 0 → get_or x 6 0 ≡ get_or y 6 0 → LookSame x y → value tables.fresh.1 x ≡ value tables.fresh.1 y
steady site tables regular x y w v entry flags look =
    let bx : point_of (packet_of x) (rec_of x) ≡ x = point_back site x w in
    let byy : point_of (packet_of y) (rec_of y) ≡ y = point_back site y v in
    ap (value tables.fresh.1) (sym bx)
    ∙ steady_by site tables regular (λ k. get_or x k 0) (λ k. get_or y k 0) (subst (λ l. IsWithin (tops_of site) l) (sym bx) w)
    (subst (λ l. IsWithin (tops_of site) l) (sym byy) v) entry flags
    (record { proto = look.proto; dst = look.dst; src = look.src; dport = look.dport; sport = look.sport; icmp = look.icmp })
    ∙ ap (value tables.fresh.1) byy

-- ---- packets

-- the packet of a point is one of the site
pub packet_within : (site : Site) (x : List ℕ) → IsWithin (tops_of site) x → IsPacketOf site (packet_of x)
packet_within site x w =
    let v : IsWithin (tops_of site) (point_of (packet_of x) (rec_of x)) = subst (λ l. IsWithin (tops_of site) l) (sym (point_back site x w)) w in
    let low : (n : ℕ) → 0 ≤ n = zero_low in
    (v.0, (v.1.0, (v.1.1.0, (v.1.1.1.0, (v.1.1.1.1.0, (v.1.1.1.1.1.0, (v.1.1.1.1.1.1.0, (v.1.1.1.1.1.1.1.0, (low (2 ^ 32 - 1), (low 65535, (low (2 ^ 32 - 1), (low 65535, tt))))))))))))
  where
    zero_low : (n : ℕ) → 0 ≤ n
    zero_low n = omega arith

same_look : (x : List ℕ) → LookSame (point_of (packet_of x) no_ends) x
same_look x = record { proto = refl; dst = refl; src = refl; dport = λ e. refl; sport = λ e. refl; icmp = λ e. refl }

-- and it gets the outcome of the point
pub outcome_of_packet : (site : Site) (tables : Tables) → AreRegular site tables → (x : List ℕ) (o : Outcome) → IsWithin (tops_of site) x → value tables.fresh.1 x ≡ Some o
    → new_of tables (packet_of x) ≡ o
outcome_of_packet site tables regular x o w e =
    ap (λ v. unwrap_or v Drop) (steady site tables regular (point_of (packet_of x) no_ends) x (packet_within site x w) w refl refl (same_look x) ∙ e)

-- ---- the tree of packets that cross

-- a packet that is accepted there crosses
crossed_there : (c : Bool) (v : Option Outcome) (w : Rewrite) → cond c v (Some Drop) ≡ Some (Accept w) → (c ≡ true) × (v ≡ Some (Accept w))
crossed_there true v w e = (refl, e)
crossed_there false v w e = absurd (cc)

crosses_by : (site : Site) (x y : List ℕ) → get_or x 0 0 ≡ get_or y 0 0 → get_or x 2 0 ≡ get_or y 2 0 → crosses site (packet_of x) ≡ crosses site (packet_of y)
crosses_by site x y entry dst = λ i. is_inside (side_of site (entry i)) && leaves_outside site (exit_at site (entry i) (dst i))

-- where no destination is written a packet goes where it is sent
outside_by : (site : Site) (p : Packet) (w : Rewrite) → w.dst ≡ None → goes_outside site p w ≡ crosses site p
outside_by site p w none = ap (λ d. is_inside (side_of site p.entry) && leaves_outside site (exit_at site p.entry (written_addr d p.dst))) none

agree_packets : (x y z : List ℕ) → Agree 65 x y → Agree 65 x z → AgreeButEntryAndFlags (packet_of y) (packet_of z)
agree_packets x y z first second = record {
  proto = sym (first 1 refl) ∙ second 1 refl;
  dst = sym (first 2 refl) ∙ second 2 refl;
  dport = sym (first 3 refl) ∙ second 3 refl;
  src = sym (first 4 refl) ∙ second 4 refl;
  sport = sym (first 5 refl) ∙ second 5 refl;
  icmp = sym (first 7 refl) ∙ second 7 refl;
}

pub crossing_told : IosKeepsNewPackets → IosSourcesAgree → (site : Site) (tables : Tables) → AreRegular site tables → Fits Ios site tables → (t : List ℕ × Plain Outcome)
    → t.0 ≡ tops_of site → IsCrossing site tables t.1 → AreTold t.0 t.1
crossing_told keeps agrees site tables regular fits t tops crossing =
    subst (λ ts. AreTold ts t.1) (sym tops) (record {
      steady = λ x y w v entry flags look.
          crossing x w
          ∙ ap (λ b. cond b (value tables.fresh.1 x) (Some Drop)) (crosses_by site x y entry look.dst)
          ∙ ap (λ o. cond (crosses site (packet_of y)) o (Some Drop)) (steady site tables regular x y w v entry flags look)
          ∙ sym (crossing y v);
      agree = λ x y z v w inside within first second here there.
          let a = crossed_there (crosses site (packet_of y)) (value tables.fresh.1 y) v (sym (crossing y inside) ∙ here) in
          let b = crossed_there (crosses site (packet_of z)) (value tables.fresh.1 z) w (sym (crossing z within) ∙ there) in
          let p : Packet = packet_of y in
          let q : Packet = packet_of z in
          let pin = packet_within site y inside in
          let qin = packet_within site z within in
          let pnew = outcome_of_packet site tables regular y (Accept v) inside a.1 in
          let qnew = outcome_of_packet site tables regular z (Accept w) within b.1 in
          let pkept = keeps site tables regular fits p v pin pnew in
          let qkept = keeps site tables regular fits q w qin qnew in
          agrees site tables regular fits p q v w pin qin (agree_packets x y z first second) pnew qnew
          (outside_by site p v pkept.dst ∙ a.0) (outside_by site q w qkept.dst ∙ b.0);
    })

-- ---- sources

no_port : (port : Option ℕ) → is_some port ≡ false → port ≡ None
no_port None off = refl
no_port (Some n) off = absurd (false≢true (sym off))

-- a source that is written is a whole address
writes_host : (site : Site) (p : Packet) (w : Rewrite) → IsKeptByIos site p w → WritesHost w
writes_host site p w kept e is = end_same e (host_end e.addr None) refl (kept.whole e is) (no_port e.port (sym (ap (λ s. option_map_or (λ (x : End). is_some x.port) s false) is) ∙ kept.port))

seen_at : (m : Transit) (p : Packet) → m.packet ≡ p → IsSeenAt m.packet (point_of p no_ends)
seen_at m p is = record {
  proto = ap (λ (q : Packet). q.proto) (sym is);
  dst = ap (λ (q : Packet). q.dst) (sym is);
  dport = ap (λ (q : Packet). q.dport) (sym is);
  src = ap (λ (q : Packet). q.src) (sym is);
  sport = ap (λ (q : Packet). q.sport) (sym is);
  icmp = ap (λ (q : Packet). q.icmp) (sym is);
}

accepted_value : (v : Option Outcome) (w : Rewrite) → unwrap_or v Drop ≡ Accept w → v ≡ Some (Accept w)
accepted_value None w e = absurd (cc)
accepted_value (Some o) w e = ap Some e

-- the lists give the sources of the tables
pub sources_given : IosKeepsNewPackets → (site : Site) (tables : Tables) → AreRegular site tables → Fits Ios site tables → (t : Plain Outcome) → IsCrossing site tables t
    → (s : Sources) → AreTranslations site t s → IsSources site tables s
sources_given keeps site tables regular fits t crossing s told = record {
  printed_lists = told.printed_lists;
  printed_nats = told.printed_nats;
  few = told.few;
  apart = told.apart;
  marked = told.marked;
  translated = λ p w inside new across c nats same m is.
      told.give m (point_of p no_ends) w inside (seen_at m p is)
      (crossing (point_of p no_ends) inside ∙ ap (λ b. cond b (value tables.fresh.1 (point_of p no_ends)) (Some Drop)) across ∙ accepted_value (value tables.fresh.1 (point_of p no_ends)) w new)
      (writes_host site p w (keeps site tables regular fits p w inside new)) c nats same;
}
