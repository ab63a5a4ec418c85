-- Packets that go from the inside to the outside.
use Rattle.std.proofs.Common.{◌≡◌, ℕ, ◌+◌, ◌-◌, ◌^◌, ◌<◌, ◌≤◌, Bool, true, false, ◌&&◌, ◌||◌, not, Option, Some, List, inl, inr, refl, sym, ◌∙◌, ap, arith, length, get_or, IsTrue}
use Rattle.std.proofs.lemmas.Bool.{and_left, cases_lt, eqb-true, or_cases, or_left, or_right}
use Rattle.std.proofs.lemmas.List.{get_or_default}
use Rattle.std.specs.Prelude.{◌↔◌, nat_eq, slice_index, if◌then◌else◌}
use Rattle.fws_box.specs.Sides.{IsWithin}
use Rattle.fws_iv.specs.declared.iv.Iv.{Iv}
use Rattle.fws_iv.specs.Ivs.{has}
use Rattle.fws_net.specs.declared.outcome.Outcome.{Outcome}
use Rattle.fws_net.specs.declared.outcome.Outcome.TheVariants.{Drop, Accept}
use Rattle.fws_net.specs.declared.exit.Exit.TheVariants.{Deliver, Out, Lost}
use Rattle.fws_net.specs.declared.site.Site.{Site}
use Rattle.fws_net.specs.Fates.{written_addr}
use Rattle.fws_net.specs.Points.{tops_of}
use Rattle.fws_net.specs.Routes.{is_local, route_of}
use Rattle.fws_tree.specs.Plain.{Plain, value}
use Rattle.fws_place.specs.declared.one_end.Compared.TheVariants.{Destinations, HostSources}
use Rattle.fws_place.specs.Apart.{HasValuesAmong}
use Rattle.fws_place.specs.Crossing.{is_sent_outside}
use Rattle.fws_place.specs.OneEnd.{alone}
use Rattle.fws_place.specs.Outgoing.{ends_outside, goes_out, AreInside, IsAmongFirst}
use Rattle.fws_place.specs.Rewritings.{is_inside, is_outside, leaves_outside, side_of}
use Rattle.fws_place.proofs.PairPoints.{within_top}
use Rattle.fws_place.proofs.Viewing.{some_once}

-- what goes out comes from the inside and ends with an address that is sent to the outside
pub goes_is : (site : Site) (o : Outcome) (q : List ℕ) → goes_out site o q ≡ (is_inside (side_of site (slice_index q 0)) && ends_outside site o (slice_index q 2))
goes_is site Drop q = sym (none (is_inside (side_of site (slice_index q 0))))
  where
    none : (b : Bool) → (b && false) ≡ false
    none true = refl
    none false = refl
goes_is site (Accept w) q = by (nat_eq e 0) refl
  where
    e : ℕ
    e = slice_index q 0

    a : ℕ
    a = written_addr w.dst (slice_index q 2)

    rest : (l f o : Bool) → is_outside (side_of site (route_of site a)) ≡ o
        → leaves_outside site (if l then Deliver else if f then Out (route_of site a) else Lost) ≡ (f && (not l && o))
    rest true true o is = refl
    rest true false o is = refl
    rest false true o is = is
    rest false false o is = refl

    by : (h : Bool) → nat_eq e 0 ≡ h
        → (is_inside (side_of site e)
        && leaves_outside site (if h then (if is_local site a then Out 1 else Out (route_of site a)) else if is_local site a then Deliver else if site.forwarding then Out (route_of site a) else Lost))
        ≡ (is_inside (side_of site e) && is_sent_outside site a)
    by true is =
        let off : is_inside (side_of site e) ≡ false = ap (λ x. is_inside (side_of site x)) (eqb-true e 0 is) in
        and_left _ _ off ∙ sym (and_left _ _ off)
    by false is = ap (λ b. is_inside (side_of site e) && b) (rest (is_local site a) site.forwarding (is_outside (side_of site (route_of site a))) refl)

-- only the destination of an outcome counts
pub goes_alone : (site : Site) (o : Outcome) (q : List ℕ) → goes_out site (alone Destinations o) q ≡ goes_out site o q
goes_alone site Drop q = refl
goes_alone site (Accept w) q = refl

-- One outcome

some_true : (b : Bool) → Some b ≡ Some true → b ≡ true
some_true b e = cc

-- what one set keeps of a tree that tells of an outcome
pub coming_at : (entries : List Iv) (e : ℕ) (o : Outcome) (outcomes : Option Outcome) (u v : Option Bool) (b : Bool) → u ≡ Some b → (IsTrue b ↔ (outcomes ≡ Some o))
    → v ≡ (if has entries e then u else Some false) → (c : Bool) × ((c ≡ true) ↔ (outcomes ≡ Some o)) × (v ≡ (if has entries e then Some c else Some false))
coming_at entries e o outcomes u v b at is kept = (b, is, kept ∙ ap (λ x. if has entries e then x else Some false) at)

-- what two sets keep of a tree that tells of an outcome
pub with_one : (site : Site) (inside : List Iv) (set : List Iv) (o : Outcome) (q : List ℕ) (outcomes : Option Outcome) (u v w : Option Bool) (b : Bool) → AreInside site inside
    → IsWithin (tops_of site) q → ((d : ℕ) → d < 2 ^ 32 → has set d ≡ ends_outside site o d) → u ≡ Some b → (IsTrue b ↔ (outcomes ≡ Some o))
    → v ≡ (if has inside (slice_index q 0) then u else Some false) → w ≡ (if has set (slice_index q 2) then v else Some false)
    → (c : Bool) × (w ≡ Some c) × ((c ≡ true) ↔ ((outcomes ≡ Some o) × (goes_out site o q ≡ true)))
with_one site inside set o q outcomes u v w b entries within addrs at is kept last =
    let low : slice_index q 2 ≤ 2 ^ 32 - 1 = within_top (tops_of site) q 2 within (omega arith) in
    let go : goes_out site o q ≡ (has inside (slice_index q 0) && has set (slice_index q 2))
    = goes_is site o q ∙ ap (λ x. x && ends_outside site o (slice_index q 2)) (sym (entries (slice_index q 0)))
    ∙ ap (λ x. has inside (slice_index q 0) && x) (sym (addrs (slice_index q 2) (omega (arith, low)))) in
    by (has inside (slice_index q 0)) (has set (slice_index q 2)) (goes_out site o q) (outcomes ≡ Some o) b go is (kept ∙ ap (λ x. if has inside (slice_index q 0) then x else Some false) at) last
  where
    by : (e d g : Bool) (S : Type 0) (b : Bool) → g ≡ (e && d) → (IsTrue b ↔ S) → v ≡ (if e then Some b else Some false) → w ≡ (if d then v else Some false)
        → (c : Bool) × (w ≡ Some c) × ((c ≡ true) ↔ (S × (g ≡ true)))
    by true true g S b go is kept last = (b, last ∙ kept, ((λ x. (is.0 x, go)), λ y. is.1 y.0))
    by true false g S b go is kept last = (false, last, ((λ x. absurd (cc)), λ y. absurd (cc)))
    by false true g S b go is kept last = (false, last ∙ kept, ((λ x. absurd (cc)), λ y. absurd (cc)))
    by false false g S b go is kept last = (false, last, ((λ x. absurd (cc)), λ y. absurd (cc)))

-- One outcome after another

-- what the tree tells once the first outcomes were tried
abbrev pub IsSoFar : Site → Plain Outcome → List Outcome → ℕ → Plain Bool → Type 0
IsSoFar site outcomes leaves k all = (q : List ℕ) → IsWithin (tops_of site) q
    → (b : Bool) × (value all q ≡ Some b) × ((b ≡ true) ↔ ((o : Outcome) × IsAmongFirst k leaves o × (value outcomes q ≡ Some o) × (goes_out site o q ≡ true)))

pub none_so_far : (site : Site) (outcomes : Plain Outcome) (leaves : List Outcome) (all : Plain Bool)
    → ((q : List ℕ) → IsWithin (tops_of site) q → (o : Outcome) × (value outcomes q ≡ Some o) × (value all q ≡ Some false)) → IsSoFar site outcomes leaves 0 all
none_so_far site outcomes leaves all at q w = (false, (at q w).2, ((λ e. absurd (cc)), λ is. absurd (omega (arith, is.1.1))))

-- one more outcome beside what was tried
pub with_such : (site : Site) (o : Outcome) (q : List ℕ) (outcomes : Option Outcome) (all such v : Option Bool)
    → (b : Bool) × (such ≡ Some b) × ((b ≡ true) ↔ ((outcomes ≡ Some o) × (goes_out site o q ≡ true)))
    → (a : Bool) × (b : Bool) × (all ≡ Some a) × (such ≡ Some b) × (v ≡ Some (a || b))
    → (a : Bool) × (b : Bool) × (all ≡ Some a) × ((b ≡ true) ↔ ((outcomes ≡ Some o) × (goes_out site o q ≡ true))) × (v ≡ Some (a || b))
with_such site o q outcomes all such v new two =
    let second : two.1 ≡ new.0 = some_once two.1 new.0 (sym two.3 ∙ new.1) in
    (two.0, new.0, two.2, new.2, two.4 ∙ ap (λ b. Some (two.0 || b)) second)

-- the tree tells of one more
pub more_so_far : (site : Site) (outcomes : Plain Outcome) (leaves : List Outcome) (k : ℕ) (item : Outcome) (all both : Plain Bool) → k < length leaves → get_or leaves k Drop ≡ item
    → IsSoFar site outcomes leaves k all
    → ((q : List ℕ) → IsWithin (tops_of site) q
    → (a : Bool) × (b : Bool) × (value all q ≡ Some a) × ((b ≡ true) ↔ ((value outcomes q ≡ Some item) × (goes_out site item q ≡ true))) × (value both q ≡ Some (a || b)))
    → IsSoFar site outcomes leaves (k + 1) both
more_so_far site outcomes leaves k item all both lt stands before either q w =
    let old = before q w in
    let two = either q w in
    let first : old.0 ≡ two.0 = some_once old.0 two.0 (sym old.1 ∙ two.2) in (
      old.0 || two.1,
      two.4 ∙ ap (λ a. Some (a || two.1)) (sym first),
      (
        (λ e. elim (or_cases old.0 two.1 e) [
          | inl on ↦ let is = old.2.0 on in (is.0, (is.1.0, (let below : is.1.0 < k = is.1.1 in omega arith), is.1.2), is.2, is.3)
          | inr on ↦ let is = two.3.0 on in (item, (k, omega arith, stands), is.0, is.1)
        ]),
        λ is. elim (cases_lt is.1.0 k) [
          | inl less ↦ or_left old.0 two.1 (old.2.1 (is.0, (is.1.0, less, is.1.2), is.2, is.3))
          | inr late ↦
              let below : is.1.0 < k + 1 = is.1.1 in
              let last : is.1.0 ≡ k = omega arith in
              let same : item ≡ is.0 = sym stands ∙ ap (λ i. get_or leaves i Drop) (sym last) ∙ is.1.2 in
              or_right old.0 two.1 (two.3.1 (is.2 ∙ ap Some (sym same), ap (λ o. goes_out site o q) same ∙ is.3))
        ],
      ),
    )

-- once all were tried
pub all_so_far : (site : Site) (outcomes : Plain Outcome) (leaves : List Outcome) (k : ℕ) (all : Plain Bool) → length leaves ≤ k → HasValuesAmong outcomes leaves
    → ((q : List ℕ) → IsWithin (tops_of site) q → (o : Outcome) × (value outcomes q ≡ Some o)) → IsSoFar site outcomes leaves k all
    → (q : List ℕ) → IsWithin (tops_of site) q → (o : Outcome) × (value outcomes q ≡ Some o) × (value all q ≡ Some (goes_out site o q))
all_so_far site outcomes leaves k all past among there so_far q w =
    let at = there q w in
    let told = so_far q w in (
      at.0,
      at.1,
      told.1 ∙ ap Some (same told.0 (goes_out site at.0 q)
          (λ on. let is = told.2.0 on in ap (λ o. goes_out site o q) (some_once at.0 is.0 (sym at.1 ∙ is.2)) ∙ is.3)
          (λ goes. let c = among q at.0 at.1 in told.2.1 (at.0, (c.0, (let below : c.0 < length leaves = c.1 in omega arith), get_or_default leaves c.0 Drop at.0 c.1 ∙ c.2), at.1, goes))),
    )
  where
    same : (a b : Bool) → (a ≡ true → b ≡ true) → (b ≡ true → a ≡ true) → a ≡ b
    same true b f g = sym (f refl)
    same false true f g = g refl
    same false false f g = refl

-- The trees of new packets

-- by the destinations of outcomes alone
pub by_ends : (site : Site) (q : List ℕ) (fresh ends : Option Outcome) (v : Option Bool) → (o : Outcome) × (fresh ≡ Some o) × (ends ≡ Some (alone Destinations o))
    → (o : Outcome) × (ends ≡ Some o) × (v ≡ Some (goes_out site o q)) → (o : Outcome) × (fresh ≡ Some o) × (v ≡ Some (goes_out site o q))
by_ends site q fresh ends v made told =
    let same : told.0 ≡ alone Destinations made.0 = some_once told.0 (alone Destinations made.0) (sym told.1 ∙ made.2) in
    (made.0, made.1, told.2 ∙ ap (λ o. Some (goes_out site o q)) same ∙ ap Some (goes_alone site made.0 q))

-- sources where packets go out
pub sources_there : (site : Site) (q : List ℕ) (fresh : Option Outcome) (out : Option Bool) (v : Option Outcome) (both : Option (Outcome × Bool))
    → (o : Outcome) × (fresh ≡ Some o) × (out ≡ Some (goes_out site o q))
    → (a : Outcome) × (b : Bool) × (fresh ≡ Some a) × (out ≡ Some b) × (both ≡ Some (a, b))
    → (x : Outcome × Bool) × (both ≡ Some x) × (v ≡ Some (if x.1 then alone HostSources x.0 else Drop))
    → (o : Outcome) × (fresh ≡ Some o) × (v ≡ Some (if goes_out site o q then alone HostSources o else Drop))
sources_there site q fresh out v both told two made =
    let o : Outcome = two.0 in
    let b : Bool = two.1 in
    let pair : Outcome × Bool = (o, b) in
    let first : told.0 ≡ o = some_once told.0 o (sym told.1 ∙ two.2) in
    let goes : b ≡ goes_out site o q = some_once b (goes_out site told.0 q) (sym two.3 ∙ told.2) ∙ ap (λ x. goes_out site x q) first in
    let same : made.0 ≡ pair = some_once made.0 pair (sym made.1 ∙ two.4) in
    let seen : Outcome × Bool → Option Outcome = λ x. Some (if x.1 then alone HostSources x.0 else Drop) in
    (o, two.2, made.2 ∙ ap seen same ∙ ap (λ x. Some (if x then alone HostSources o else Drop)) goes)
