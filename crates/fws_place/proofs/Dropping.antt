-- Trees that tell which dropped pairs ipfw can't drop ahead of the look-up of connections.
use Rattle.std.proofs.Common.{◌≡◌, ℕ, Bool, true, false, ◌&&◌, ◌||◌, not, Option, Some, None, List, [], ◌∷◌, ◌⊎◌, inl, inr, refl, sym, ◌∙◌, ap, arith, MatchOption}
use Rattle.std.proofs.lemmas.Bool.{and_parts, and_from, both_ways, cases_Bool, false_from_ne_true, not-true, not_from_false, or_left, or_right}
use Rattle.std.specs.Prelude.{◌↔◌, unwrap_or, if◌then◌else◌}
use Rattle.fws_box.specs.Sides.{IsWithin}
use Rattle.fws_net.specs.declared.connection.Rec.{Rec}
use Rattle.fws_net.specs.declared.outcome.Outcome.{Outcome}
use Rattle.fws_net.specs.declared.outcome.Outcome.TheVariants.{Drop}
use Rattle.fws_net.specs.declared.packet.Packet.{Packet}
use Rattle.fws_net.specs.declared.site.Site.{Site}
use Rattle.fws_net.specs.Points.{tops_of}
use Rattle.fws_net.specs.Routes.{is_local}
use Rattle.fws_tree.specs.declared.tables.Tables.{Tables}
use Rattle.fws_tree.specs.Plain.{Plain, value}
use Rattle.fws_tree.specs.Regular.{AreRegular}
use Rattle.fws_place.specs.declared.breach.Pair.{Pair}
use Rattle.fws_place.specs.declared.clause.Clause.TheVariants.{DropsAheadOfLookup}
use Rattle.fws_place.specs.AheadOfLookup.{exchanged, passes, stays, IsAcceptedNew, IsAcceptedNewAlike, IsDroppedOfAlike, IsDroppedOfPacket, IsSoughtAmong}
use Rattle.fws_place.specs.Clauses.{BreaksAheadOfLookup}
use Rattle.fws_place.specs.Fits.{Meets}
use Rattle.fws_place.specs.Found.{IsNamedPair, IsSought, IsTrueAtNoPair}
use Rattle.fws_place.specs.Meaning.{IsPairOf, est_of, new_of, no_ends, point_of}
use Rattle.fws_place.specs.Pairs.{is_host, with_destination}
use Rattle.fws_place.specs.Rewritings.{is_accepted}
use Rattle.fws_place.specs.Seen.{IsAcceptedPair, IsAcceptedAlike, Tells}
use Rattle.fws_place.proofs.CanDrop.{forwarded_found, host_breaks, host_shown, passing_breaks, passing_shown, staying_breaks, staying_shown}
use Rattle.fws_place.proofs.NewRows.{lasts, other_ends}
use Rattle.fws_place.proofs.Viewing.{accepts, lost_is, not_accepted, same_told, some_once, told_by}

-- New packets

-- a tree with whether outcomes of new packets accept
pub new_told : (site : Site) (tables : Tables) (t : Plain Bool) → AreRegular site tables
    → ((q : List ℕ) → IsWithin (tops_of site) q → (o : Outcome) × (value tables.fresh.1 q ≡ Some o) × (value t q ≡ Some (is_accepted o)))
    → Tells site (λ p r. IsAcceptedNew tables p) t
new_told site tables t regular at = record {
  tells = λ p r w.
      let here = at (point_of p r) w in
      let zeros : IsWithin lasts (0 ∷ 0 ∷ 0 ∷ 0 ∷ []) = (omega arith, (omega arith, (omega arith, (omega arith, tt)))) in
      let alone : value tables.fresh.1 (point_of p no_ends) ≡ value tables.fresh.1 (point_of p r) = other_ends site tables regular (point_of p r) 0 0 0 0 w zeros in
      let same : new_of tables p ≡ here.0 = ap (λ v. unwrap_or v Drop) (alone ∙ here.1) in
      let both = accepts here.0 in
      (is_accepted here.0, here.2, ((λ e drop. both.0 e (sym same ∙ drop)), λ n. both.1 (λ drop. n (same ∙ drop))));
}

-- a tree that is false but at some pairs
pub among_told : (site : Site) (P : Packet → Rec → Type 0) (among : Packet → Rec → Bool) (t u : Plain Bool) → Tells site P t
    → ((p : Packet) (r : Rec) → IsPairOf site p r → value u (point_of p r) ≡ (if among p r then value t (point_of p r) else Some false))
    → Tells site (λ p r. (among p r ≡ true) × P p r) u
among_told site P among t u told at = record {
  tells = λ p r w.
      let here = told.tells p r w in
      let a : Bool = among p r in (
        a && here.0,
        at p r w ∙ ap (λ v. if a then v else Some false) here.1 ∙ inside a here.0,
        ((λ e. let both = and_parts a here.0 e in (both.0, here.2.0 both.1)), λ h. and_from a here.0 h.0 (here.2.1 h.1)),
      );
}
  where
    inside : (a b : Bool) → (if a then Some b else Some false) ≡ Some (a && b)
    inside true b = refl
    inside false b = refl

-- a tree whose values are those with destinations exchanged
pub alike_new_told : (site : Site) (tables : Tables) (host t : Plain Bool) → Tells site (λ p r. (is_host p ≡ true) × IsAcceptedNew tables p) host
    → ((q : List ℕ) → IsWithin (tops_of site) q → IsWithin (tops_of site) (exchanged q) → value t q ≡ value host (exchanged q))
    → Tells site (IsAcceptedNewAlike tables) t
alike_new_told site tables host t told at = record {
  tells = λ p r w.
      let q : Packet = with_destination r p in
      let s : Rec = record r { rdst = p.dst; rdport = p.dport } in
      let d : IsWithin lasts (r.rdst ∷ r.rdport ∷ r.rsrc ∷ r.rsport ∷ []) = w.1.1.1.1.1.1.1.1 in
      let v : IsPairOf site q s = (w.0, (w.1.0, (d.0, (d.1.0, (w.1.1.1.1.0, (w.1.1.1.1.1.0, (w.1.1.1.1.1.1.0, (w.1.1.1.1.1.1.1.0, (w.1.1.0, (w.1.1.1.0, d.1.1)))))))))) in
      let here = told.tells q s v in
      (here.0, at (point_of p r) w v ∙ here.1, here.2);
}

-- Dropped pairs

-- a tree that is true where a pair is dropped and has one of two properties
pub dropped_told : (site : Site) (tables : Tables) (B C : Packet → Rec → Type 0) (accepted first second t : Plain Bool) → Tells site (IsAcceptedPair tables) accepted
    → Tells site B first → Tells site C second
    → ((q : List ℕ) → IsWithin (tops_of site) q → (a : Bool) × (b : Bool) × (c : Bool) × (value accepted q ≡ Some a) × (value first q ≡ Some b) × (value second q ≡ Some c)
    × (value t q ≡ Some (not a && (b || c))))
    → Tells site (λ p r. (est_of tables p r ≡ Drop) × (B p r ⊎ C p r)) t
dropped_told site tables B C accepted first second t told_a told_b told_c at = record {
  tells = λ p r w.
      let here = at (point_of p r) w in
      let a : Bool = here.0 in
      let b : Bool = here.1 in
      let c : Bool = here.2 in
      let is_a = told_by site (IsAcceptedPair tables) accepted told_a p r w a here.3 in
      let is_b = told_by site B first told_b p r w b here.4 in
      let is_c = told_by site C second told_c p r w c here.5 in (
        not a && (b || c),
        here.6,
        (
          (λ e. let both = and_parts (not a) (b || c) e in (
            not_accepted (est_of tables p r) (λ n. both_ways a (not-true a both.0) (is_a.1 n)),
            either (B p r) (C p r) b c is_b.0 is_c.0 both.1,
          )),
          λ d. and_from (not a) (b || c) (not_from_false a (false_from_ne_true a (λ e. is_a.0 e d.0))) (some (B p r) (C p r) b c is_b.1 is_c.1 d.1),
        ),
      );
}
  where
    either : (X Y : Type 0) (b c : Bool) → (b ≡ true → X) → (c ≡ true → Y) → (b || c) ≡ true → X ⊎ Y
    either X Y true c f g e = inl (f refl)
    either X Y false c f g e = inr (g e)

    some : (X Y : Type 0) (b c : Bool) → (X → b ≡ true) → (Y → c ≡ true) → X ⊎ Y → (b || c) ≡ true
    some X Y b c f g (inl x) = or_left b c (f x)
    some X Y b c f g (inr y) = or_right b c (g y)

-- a tree that is true where two are
pub both_told : (site : Site) (B C : Packet → Rec → Type 0) (first second t : Plain Bool) → Tells site B first → Tells site C second
    → ((q : List ℕ) → IsWithin (tops_of site) q → (a : Bool) × (b : Bool) × (value first q ≡ Some a) × (value second q ≡ Some b) × (value t q ≡ Some (a && b)))
    → Tells site (λ p r. B p r × C p r) t
both_told site B C first second t told_b told_c at = record {
  tells = λ p r w.
      let here = at (point_of p r) w in
      let a : Bool = here.0 in
      let b : Bool = here.1 in
      let is_a = told_by site B first told_b p r w a here.2 in
      let is_b = told_by site C second told_c p r w b here.3 in (
        a && b,
        here.4,
        ((λ e. let both = and_parts a b e in (is_a.0 both.0, is_b.0 both.1)), λ h. and_from a b (is_a.1 h.0) (is_b.1 h.1)),
      );
}

-- the value of a tree that was made of three
pub together_at : (va vb vc : Option Bool) (both : Option (Bool × Bool)) (all : Option (Bool × (Bool × Bool)))
    → ((b : Bool) × (c : Bool) × (vb ≡ Some b) × (vc ≡ Some c) × (both ≡ Some (b, c)))
    → ((a : Bool) × (bc : Bool × Bool) × (va ≡ Some a) × (both ≡ Some bc) × (all ≡ Some (a, bc)))
    → (a : Bool) × (b : Bool) × (c : Bool) × (va ≡ Some a) × (vb ≡ Some b) × (vc ≡ Some c) × (all ≡ Some (a, (b, c)))
together_at va vb vc both all two three =
    let a : Bool = three.0 in
    let bc : Bool × Bool = (two.0, two.1) in
    let pairs : three.1 ≡ bc = some_once three.1 bc (sym three.3 ∙ two.4) in
    let there : Bool × Bool → Bool × (Bool × Bool) = λ y. (a, y) in
    (a, two.0, two.1, three.2, two.2, two.3, three.4 ∙ ap (λ y. Some (there y)) pairs)

-- and of one whose leaves are made of such ones
pub either_at : (va vb vc vt : Option Bool) (all : Option (Bool × (Bool × Bool)))
    → ((a : Bool) × (b : Bool) × (c : Bool) × (va ≡ Some a) × (vb ≡ Some b) × (vc ≡ Some c) × (all ≡ Some (a, (b, c))))
    → ((x : Bool × (Bool × Bool)) × (all ≡ Some x) × (vt ≡ Some (not x.0 && (x.1.0 || x.1.1))))
    → (a : Bool) × (b : Bool) × (c : Bool) × (va ≡ Some a) × (vb ≡ Some b) × (vc ≡ Some c) × (vt ≡ Some (not a && (b || c)))
either_at va vb vc vt all three mixed =
    let whole : Bool × (Bool × Bool) = (three.0, (three.1, three.2)) in
    let same : mixed.0 ≡ whole = some_once mixed.0 whole (sym mixed.1 ∙ three.6) in
    let seen : Bool × (Bool × Bool) → Option Bool = λ x. Some (not x.0 && (x.1.0 || x.1.1)) in
    (three.0, three.1, three.2, three.3, three.4, three.5, mixed.2 ∙ ap seen same)

-- Naming

-- a tree that tells which of some pairs break the clause
abbrev pub TellsBreaking : Site → Tables → (Packet → Rec → Bool) → Plain Bool → Type 0
TellsBreaking site tables among t = Tells site (λ p r. (among p r ≡ true) × BreaksAheadOfLookup site tables p r) t

-- a pair at which such a tree is true is what was looked for
pub sought_among : (site : Site) (tables : Tables) (among : Packet → Rec → Bool) (t : Plain Bool) → TellsBreaking site tables among t
    → (found : Option (Pair × Option Pair)) → MatchOption found (IsTrueAtNoPair site t) (IsNamedPair site t) → IsSoughtAmong site tables among found
sought_among site tables among t told None none = λ p r a breaks.
    let here = told.tells p r breaks.dropped.of_site in
    none p r breaks.dropped.of_site (here.1 ∙ ap Some (here.2.1 (a, breaks)))
sought_among site tables among t told (Some pair) named =
    let here = told.tells pair.0.packet named.ends named.of_site in
    record {
      ends = named.ends;
      of_site = named.of_site;
      established = named.established;
      alone = named.alone;
      such = (here.2.0 (same_told _ here.0 true here.1 named.such)).1;
    }

-- two properties of some pairs that are one, as far as a tree tells
told_as : (site : Site) (among : Packet → Rec → Bool) (D E : Packet → Rec → Type 0) (t : Plain Bool)
    → ((p : Packet) (r : Rec) → IsPairOf site p r → among p r ≡ true → D p r → E p r)
    → ((p : Packet) (r : Rec) (x : Bool) → IsPairOf site p r → among p r ≡ true → ((x ≡ true) ↔ D p r) → E p r → D p r)
    → (all : Plain Bool) → Tells site D all
    → ((p : Packet) (r : Rec) → IsPairOf site p r → value t (point_of p r) ≡ (if among p r then value all (point_of p r) else Some false))
    → Tells site (λ p r. (among p r ≡ true) × E p r) t
told_as site among D E t there back all told at =
    let some : Tells site (λ p r. (among p r ≡ true) × D p r) t = among_told site D among all t told at in
    record {
      tells = λ p r w.
          let here = some.tells p r w in
          let whole = told.tells p r w in (
            here.0,
            here.1,
            ((λ e. let h = here.2.0 e in (h.0, there p r w h.0 h.1)), λ h. here.2.1 (h.0, back p r whole.0 w h.0 whole.2 h.1)),
          );
    }

-- pairs of the host
pub host_told : (site : Site) (tables : Tables) → AreRegular site tables → (all t : Plain Bool) → Tells site (IsDroppedOfAlike site tables) all
    → ((p : Packet) (r : Rec) → IsPairOf site p r → value t (point_of p r) ≡ (if is_host p then value all (point_of p r) else Some false))
    → TellsBreaking site tables (λ p r. is_host p) t
host_told site tables regular all t told at =
    told_as site (λ p r. is_host p) (IsDroppedOfAlike site tables) (BreaksAheadOfLookup site tables) t
    (λ p r w host d. host_breaks site tables regular p r w host d)
    (λ p r x w host is breaks. host_shown site tables p r x host is breaks) all told at

-- pairs that are delivered
pub staying_told : (site : Site) (tables : Tables) → AreRegular site tables → (all t : Plain Bool) → Tells site (IsDroppedOfPacket site tables) all
    → ((p : Packet) (r : Rec) → IsPairOf site p r → value t (point_of p r) ≡ (if stays site p r then value all (point_of p r) else Some false))
    → TellsBreaking site tables (stays site) t
staying_told site tables regular all t told at =
    told_as site (stays site) (IsDroppedOfPacket site tables) (BreaksAheadOfLookup site tables) t
    (λ p r w here d. staying_breaks site tables regular p r w here d)
    (λ p r x w here is breaks. staying_shown site tables p r x here is breaks) all told at

-- pairs that are forwarded
pub passing_told : (site : Site) (tables : Tables) → AreRegular site tables → site.forwarding ≡ true → (all t : Plain Bool)
    → Tells site (λ p r. IsDroppedOfPacket site tables p r × IsAcceptedAlike site tables p r) all
    → ((p : Packet) (r : Rec) → IsPairOf site p r → value t (point_of p r) ≡ (if passes site p r then value all (point_of p r) else Some false))
    → TellsBreaking site tables (passes site) t
passing_told site tables regular forwarding all t told at =
    told_as site (passes site) (λ p r. IsDroppedOfPacket site tables p r × IsAcceptedAlike site tables p r) (BreaksAheadOfLookup site tables) t
    (λ p r w here d. passing_breaks site tables regular p r w (forwarded_found site p r forwarding) here d.0 d.1)
    (λ p r x w here is breaks. passing_shown site tables p r x here is breaks) all told at

-- where the site doesn't forward, what arrives for another host is lost
pub none_passing : (site : Site) (tables : Tables) → site.forwarding ≡ false → IsSoughtAmong site tables (passes site) None
none_passing site tables off = λ p r here breaks.
    breaks.dropped.found (lost_is site p r (and_from (not site.forwarding) (passes site p r) (not_from_false site.forwarding off) here))

-- where neither a pair of the host nor one that arrives breaks the clause, it is met
pub none_at_all : (site : Site) (tables : Tables) → IsSoughtAmong site tables (λ p r. is_host p) None → IsSoughtAmong site tables (λ p r. not (is_host p)) None
    → Meets site tables DropsAheadOfLookup
none_at_all site tables host arriving first second named =
    let p : Packet = first.packet in
    let r : Rec = named.ends in
    elim (cases_Bool (is_host p)) [
      | inl h ↦ host p r h named.such
      | inr arrives ↦ arriving p r (not_from_false (is_host p) arrives) named.such
    ]

-- where nothing was found, there is none
pub none_found : (site : Site) (tables : Tables) (among : Packet → Rec → Bool) (found : Option (Pair × Option Pair)) → ((x : Pair × Option Pair) → found ≡ Some x → ⊥)
    → IsSoughtAmong site tables among found → IsSoughtAmong site tables among None
none_found site tables among None n h = h
none_found site tables among (Some x) n h = absurd (n x refl)

-- what is found among the pairs that pass, where none that is delivered breaks the clause, is what was looked for among those
-- that arrive
pub found_arriving : (site : Site) (tables : Tables) → IsSoughtAmong site tables (stays site) None → (found : Option (Pair × Option Pair))
    → IsSoughtAmong site tables (passes site) found → IsSoughtAmong site tables (λ p r. not (is_host p)) found
found_arriving site tables staying None passing = λ p r arrives breaks. elim (cases_Bool (is_local site r.rdst)) [
  | inl here ↦ staying p r (and_from (not (is_host p)) (is_local site r.rdst) arrives here) breaks
  | inr elsewhere ↦ passing p r (and_from (not (is_host p)) (not (is_local site r.rdst)) arrives (not_from_false (is_local site r.rdst) elsewhere)) breaks
]
found_arriving site tables staying (Some x) h = h

-- what is found among these, where no pair of the host breaks the clause, is what was looked for
pub found_last : (site : Site) (tables : Tables) → IsSoughtAmong site tables (λ p r. is_host p) None → (found : Option (Pair × Option Pair))
    → IsSoughtAmong site tables (λ p r. not (is_host p)) found → IsSought site tables DropsAheadOfLookup found
found_last site tables host None h = none_at_all site tables host h
found_last site tables host (Some x) h = h
