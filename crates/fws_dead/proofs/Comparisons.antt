-- From the points of two tables to packets and their classes.
use Rattle.std.proofs.Common.{◌≡◌, ℕ, ◌≤◌, Option, Some, None, MatchOption, List, [], ◌∷◌, length, get_or, inl, inr, refl, sym, ◌∙◌, ap, subst, arith, unwrap_or}
use Rattle.std.proofs.lemmas.List.FromFn.{fill_by_all}
use Rattle.std.proofs.lemmas.Option.{same_Some}
use Rattle.std.specs.Prelude.{slice_index}
use Rattle.fws_box.specs.Sides.{IsWithin}
use Rattle.fws_net.specs.declared.connection.Kind.{Kind}
use Rattle.fws_net.specs.declared.connection.Kind.TheVariants as kinds
use Rattle.fws_net.specs.declared.outcome.Fate.{Fate}
use Rattle.fws_net.specs.declared.outcome.Outcome.{Outcome}
use Rattle.fws_net.specs.declared.outcome.Outcome.TheVariants.{Drop}
use Rattle.fws_net.specs.declared.packet.Packet.{Packet}
use Rattle.fws_net.specs.declared.packet.State.{State}
use Rattle.fws_net.specs.declared.packet.State.TheVariants.{Fresh, Est}
use Rattle.fws_net.specs.declared.site.Site.{Site}
use Rattle.fws_net.specs.Connections.{fate_in}
use Rattle.fws_net.specs.Points.{tops_of, packet_of}
use Rattle.fws_tree.specs.declared.tables.Tables.{Tables}
use Rattle.fws_tree.specs.Plain.{Plain, value}
use Rattle.fws_trace.specs.Outcomes.{kind_of, no_ends, point_with, point_of, outcome_by, IsWalked}
use Rattle.fws_dead.specs.declared.compare.Compare.{Compare}
use Rattle.fws_dead.specs.declared.compare.Compare.TheVariants.{Same, Differ}
use Rattle.fws_dead.specs.declared.compare.Pair.{Pair}
use Rattle.fws_dead.specs.Compared.{class_of, IsOfSite, fate_by, AreSame, AreApart, IsComparison}
use Rattle.fws_dead.specs.Points.{bounds}
use Rattle.fws_dead.specs.Searched.{DifferFor, AreAlikeWithin, IsApartWithin, AreValuesAlike, AreValuesApart, IsDiffering, IsComparedIn}
use Rattle.fws_dead.specs.Unequal.{IsUnequal}
use Rattle.fws_dead.proofs.Sides.{bounds_within, within_length, within_at}

-- ---- values

-- what is found in the tree of pairs, as of the two trees
pub values_found : (state : State) (tops : List ℕ) (first second : Plain Outcome) (t : Plain (Option (Outcome × Outcome))) (found : Option (List ℕ))
    → ((p : List ℕ) → IsWithin tops p → IsUnequal (value first p) (value second p) (value t p))
    → MatchOption found (AreAlikeWithin state tops t) (IsApartWithin state tops t) → MatchOption found (AreValuesAlike state tops first second) (AreValuesApart state tops first second)
values_found state tops first second t None pairs alike = λ p within.
    let u = pairs p (bounds_within state tops p within) in
    record {
      one = u.one;
      two = u.two;
      first_is = u.first_is;
      second_is = u.second_is;
      alike = elim u.both_is [
        | inl e ↦ ap (λ (x : Outcome). fate_in x (packet_of p) (kind_of state p)) e.1
        | inr e ↦ alike p (Some (u.one, u.two)) within e
      ];
    }
values_found state tops first second t (Some q) pairs apart =
    let u = pairs q (bounds_within state tops q apart.inside) in
    record {
      inside = apart.inside;
      one = u.one;
      two = u.two;
      first_is = u.first_is;
      second_is = u.second_is;
      differ = elim u.both_is [
        | inl e ↦ absurd (subst (λ (x : Option (Outcome × Outcome)). DifferFor state x q) (same_Some apart.found None (sym apart.found_is ∙ e.0)) apart.differ)
        | inr e ↦ subst (λ (x : Option (Outcome × Outcome)). DifferFor state x q) (same_Some apart.found (Some (u.one, u.two)) (sym apart.found_is ∙ e)) apart.differ
      ];
    }

-- what is told of a point with these outcomes
pub told_so : (site : Site) (state : State) (first second : Plain Outcome) (q : List ℕ) (x y : Outcome) (p : Packet) (k : Kind) (comparison : Compare) → AreValuesApart state (tops_of site) first second q
    → value first q ≡ Some x → value second q ≡ Some y → p ≡ packet_of q → k ≡ kind_of state q → IsDiffering p k x y comparison → IsComparedIn site state first second comparison
told_so site state first second q x y p k Same apart xs ys is-packet is-kind told = absurd told
told_so site state first second q x y p k (Differ at one two) apart xs ys is-packet is-kind told =
    let same : x ≡ apart.one = same_Some x apart.one (sym xs ∙ apart.first_is) in
    let other : y ≡ apart.two = same_Some y apart.two (sym ys ∙ apart.second_is) in
    record {
      point = q;
      apart = apart;
      told = subst (λ (v : Outcome). IsDiffering (packet_of q) (kind_of state q) apart.one v (Differ at one two)) other
          (subst (λ (v : Outcome). IsDiffering (packet_of q) (kind_of state q) v y (Differ at one two)) same
          (subst (λ (l : Kind). IsDiffering (packet_of q) l x y (Differ at one two)) is-kind
          (subst (λ (r : Packet). IsDiffering r k x y (Differ at one two)) is-packet told)));
    }

-- ---- points and packets

-- the table of the packets of a kind
abbrev table : State → Tables → Plain Outcome
table Fresh t = t.fresh.1
table Est t = t.est.1

twelve : (q : List ℕ) → length q ≡ 12
    → slice_index q 0 ∷ slice_index q 1 ∷ slice_index q 2 ∷ slice_index q 3 ∷ slice_index q 4 ∷ slice_index q 5 ∷ slice_index q 6 ∷ slice_index q 7 ∷ slice_index q 8 ∷ slice_index q 9
    ∷ slice_index q 10 ∷ slice_index q 11 ∷ [] ≡ q
twelve q n = sym (fill_by_all (λ k. get_or q k 0) q 12 0 n (λ k lt. refl))

no_more : (a b c d : ℕ) (front : List ℕ → List ℕ) → a ≤ 0 → b ≤ 0 → c ≤ 0 → d ≤ 0 → front (0 ∷ 0 ∷ 0 ∷ 0 ∷ []) ≡ front (a ∷ b ∷ c ∷ d ∷ [])
no_more a b c d front p q r s =
    let e : 0 ≡ a = omega arith in
    let f : 0 ≡ b = omega arith in
    let g : 0 ≡ c = omega arith in
    let h : 0 ≡ d = omega arith in
    ap (λ n. front (n ∷ 0 ∷ 0 ∷ 0 ∷ [])) e ∙ ap (λ n. front (a ∷ n ∷ 0 ∷ 0 ∷ [])) f ∙ ap (λ n. front (a ∷ b ∷ n ∷ 0 ∷ [])) g ∙ ap (λ n. front (a ∷ b ∷ c ∷ n ∷ [])) h

-- the point of the packet of a point, and of its class
point_again : (site : Site) (state : State) (q : List ℕ) → IsWithin (bounds state (tops_of site)) q → point_of (packet_of q) (kind_of state q) ≡ q
point_again site Fresh q within =
    let n : length q ≡ 12 = sym (within_length (bounds Fresh (tops_of site)) q within) in
    no_more (slice_index q 8) (slice_index q 9) (slice_index q 10) (slice_index q 11)
    (λ l. slice_index q 0 ∷ slice_index q 1 ∷ slice_index q 2 ∷ slice_index q 3 ∷ slice_index q 4 ∷ slice_index q 5 ∷ slice_index q 6 ∷ slice_index q 7 ∷ l)
    (within_at (bounds Fresh (tops_of site)) q 8 within) (within_at (bounds Fresh (tops_of site)) q 9 within)
    (within_at (bounds Fresh (tops_of site)) q 10 within) (within_at (bounds Fresh (tops_of site)) q 11 within)
    ∙ twelve q n
point_again site Est q within = twelve q (sym (within_length (tops_of site) q within))

-- the outcome that the tables have for it
outcome_at : (site : Site) (state : State) (t : Tables) (q : List ℕ) (x : Outcome) → IsWithin (bounds state (tops_of site)) q → value (table state t) q ≡ Some x
    → outcome_by t (packet_of q) (kind_of state q) ≡ x
outcome_at site Fresh t q x within v = ap (λ (l : List ℕ). unwrap_or (value t.fresh.1 l) Drop) (point_again site Fresh q within) ∙ ap (λ (o : Option Outcome). unwrap_or o Drop) v
outcome_at site Est t q x within v = ap (λ (l : List ℕ). unwrap_or (value t.est.1 l) Drop) (point_again site Est q within) ∙ ap (λ (o : Option Outcome). unwrap_or o Drop) v

-- ---- comparisons

-- a meaning gives the packets of the site the outcomes that the tables have for them
abbrev pub GivesOutcomes : Site → Tables → (Packet → Kind → Outcome) → Type 0
GivesOutcomes site t means = (p : Packet) (k : Kind) → IsOfSite site p k → means p k ≡ outcome_by t p k

pub by_tables : (site : Site) (t : Tables) → GivesOutcomes site t (outcome_by t)
by_tables site t p k within = refl

pub by_walk : (site : Site) (t : Tables) (walk : Packet → Kind → Outcome) → IsWalked site Fresh walk t.fresh.1 → IsWalked site Est walk t.est.1 → GivesOutcomes site t walk
by_walk site t walk fresh est p kinds.New within = ap (λ (o : Option Outcome). unwrap_or o Drop) (sym (fresh (point_with p no_ends) within))
by_walk site t walk fresh est p (kinds.Est r) within = ap (λ (o : Option Outcome). unwrap_or o Drop) (sym (est (point_with p r) within))

-- the fate by a meaning, where the tables have the outcome
fated : (site : Site) (t : Tables) (means : Packet → Kind → Outcome) (p : Packet) (k : Kind) (x : Outcome) → GivesOutcomes site t means → IsOfSite site p k → outcome_by t p k ≡ x
    → fate_by means p k ≡ fate_in x p k
fated site t means p k x gives within is = ap (λ (o : Outcome). fate_in o p k) (gives p k within ∙ is)

new_within : (site : Site) (p : Packet) → IsOfSite site p kinds.New → IsWithin (bounds Fresh (tops_of site)) (point_of p kinds.New)
new_within site p w =
    let none : ◌≤◌ 0 0 = omega arith in
    (w.0, (w.1.0, (w.1.1.0, (w.1.1.1.0, (w.1.1.1.1.0, (w.1.1.1.1.1.0, (w.1.1.1.1.1.1.0, (w.1.1.1.1.1.1.1.0, (none, (none, (none, (none, tt))))))))))))

-- where all values come to the same fates, all packets have the same fates
pub all_same : (site : Site) (a b : Tables) (means other : Packet → Kind → Outcome) → GivesOutcomes site a means → GivesOutcomes site b other
    → AreValuesAlike Fresh (tops_of site) a.fresh.1 b.fresh.1 → AreValuesAlike Est (tops_of site) a.est.1 b.est.1 → AreSame site means other
all_same site a b means other gives others fresh est p kinds.New within =
    let v = fresh (point_of p kinds.New) (new_within site p within) in
    fated site a means p kinds.New v.one gives within (ap (λ (o : Option Outcome). unwrap_or o Drop) v.first_is)
    ∙ v.alike
    ∙ sym (fated site b other p kinds.New v.two others within (ap (λ (o : Option Outcome). unwrap_or o Drop) v.second_is))
all_same site a b means other gives others fresh est p (kinds.Est r) within =
    let v = est (point_of p (kinds.Est r)) within in
    fated site a means p (kinds.Est r) v.one gives within (ap (λ (o : Option Outcome). unwrap_or o Drop) v.first_is)
    ∙ v.alike
    ∙ sym (fated site b other p (kinds.Est r) v.two others within (ap (λ (o : Option Outcome). unwrap_or o Drop) v.second_is))

-- and where two come to different fates, so does a packet
apart_at : (site : Site) (state : State) (a b : Tables) (means other : Packet → Kind → Outcome) (p : Packet) (k : Kind) (one two : Fate) (q : List ℕ) → GivesOutcomes site a means → GivesOutcomes site b other
    → (apart : AreValuesApart state (tops_of site) (table state a) (table state b) q) → p ≡ packet_of q → k ≡ kind_of state q
    → one ≡ fate_in apart.one (packet_of q) (kind_of state q) → two ≡ fate_in apart.two (packet_of q) (kind_of state q) → AreApart site means other p k one two
apart_at site state a b means other p k one two q gives others apart is-packet is-kind first second =
    let of-site : IsOfSite site (packet_of q) (kind_of state q)
    = subst (λ (l : List ℕ). IsWithin (tops_of site) l) (sym (point_again site state q apart.inside)) (bounds_within state (tops_of site) q apart.inside) in
    let made : AreApart site means other (packet_of q) (kind_of state q) one two = record {
      of_site = of-site;
      first_is = first ∙ sym (fated site a means (packet_of q) (kind_of state q) apart.one gives of-site (outcome_at site state a q apart.one apart.inside apart.first_is));
      second_is = second ∙ sym (fated site b other (packet_of q) (kind_of state q) apart.two others of-site (outcome_at site state b q apart.two apart.inside apart.second_is));
      differ = λ same. apart.differ (sym first ∙ same ∙ second);
    } in
    subst (λ (l : Kind). AreApart site means other p l one two) (sym is-kind)
    (subst (λ (r : Packet). AreApart site means other r (kind_of state q) one two) (sym is-packet) made)

-- what is told of new packets
pub told_new : (site : Site) (a b : Tables) (means other : Packet → Kind → Outcome) (at : Pair) (one two : Fate) → GivesOutcomes site a means → GivesOutcomes site b other
    → IsComparedIn site Fresh a.fresh.1 b.fresh.1 (Differ at one two) → IsComparison site means other (Differ at one two)
told_new site a b means other at one two gives others d =
    apart_at site Fresh a b means other at.packet (class_of at.rec) one two d.point gives others d.apart d.told.0 d.told.1 d.told.2 d.told.3

-- what is told of established packets, where new ones have the same fates
pub told_established : (site : Site) (a b : Tables) (means other : Packet → Kind → Outcome) (comparison : Compare) → GivesOutcomes site a means → GivesOutcomes site b other
    → AreValuesAlike Fresh (tops_of site) a.fresh.1 b.fresh.1 → IsComparedIn site Est a.est.1 b.est.1 comparison → IsComparison site means other comparison
told_established site a b means other Same gives others fresh est = all_same site a b means other gives others fresh est
told_established site a b means other (Differ at one two) gives others fresh d =
    apart_at site Est a b means other at.packet (class_of at.rec) one two d.point gives others d.apart d.told.0 d.told.1 d.told.2 d.told.3
