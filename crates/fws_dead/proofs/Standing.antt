-- Places for which instructions stand, and packets that use these.
use Rattle.std.proofs.Common.{◌≡◌, ℕ, zero, suc, ◌+◌, ◌<◌, ◌≤◌, Bool, true, false, ◌&&◌, ◌||◌, cond, nat_eq, Option, Some, None, List, [], ◌∷◌, length, drop, get_or, refl, sym, ◌∙◌, ap, subst, arith, ⊎_elim, inl, inr}
use Rattle.std.proofs.lemmas.Bool.{and_parts, and_from, or_cases, or_left, or_right, eqb-true, eq-eqb, false≢true}
use Rattle.std.proofs.lemmas.List.{drop_more}
use Rattle.std.proofs.lemmas.Option.{same_Some}
use Rattle.std.specs.Prelude.{slice_get, slice_index, unwrap_or}
use Rattle.std.specs.List.{list_any}
use Rattle.fws_box.specs.Sides.{IsWithin}
use Rattle.fws_net.specs.declared.connection.Kind.{Kind}
use Rattle.fws_net.specs.declared.connection.Kind.TheVariants as kinds
use Rattle.fws_net.specs.declared.packet.Packet.{Packet}
use Rattle.fws_net.specs.declared.packet.State.{State}
use Rattle.fws_net.specs.declared.packet.State.TheVariants.{Fresh, Est}
use Rattle.fws_net.specs.declared.site.Site.{Site}
use Rattle.fws_net.specs.Points.{packet_of, tops_of}
use Rattle.fws_trace.specs.Outcomes.{no_ends, point_with}
use Rattle.fws_exec.specs.Classes.{kind_of}
use Rattle.fws_flat.specs.declared.code.Flat.{Flat}
use Rattle.fws_flat.specs.Uses.{uses, used_places}
use Rattle.fws_ifcl.specs.declared.diagram.Place.{Place}
use Rattle.fws_ifcl.specs.Uses.{is_place}
use Rattle.fws_unfold.specs.Told.{told_at, ToldEach}
use Rattle.fws_unfold.specs.Used.{stands_for}
use Rattle.fws_dead.specs.declared.used.PlaceKey.{PlaceKey}
use Rattle.fws_dead.specs.Compared.{IsOfSite}
use Rattle.fws_exec.specs.Reaching.{AreReached}
use Rattle.fws_dead.specs.Used.{any_reached, key_eq, key_of, stands_at, uses_by, AreAdded, AreUsed}
use Rattle.fws_dead.proofs.Sides.{within_length}
use Rattle.std.proofs.lemmas.List.FromFn.{fill_by_all}

-- ---- places

flips : (a b : ℕ) (c : Bool) → nat_eq a b ≡ c → nat_eq b a ≡ c
flips a b true e = eq-eqb b a (sym (eqb-true a b e))
flips a b false e = differ (nat_eq b a) refl
  where
    differ : (d : Bool) → nat_eq b a ≡ d → nat_eq b a ≡ false
    differ true f = absurd (false≢true (sym e ∙ eq-eqb a b (sym (eqb-true b a f))))
    differ false f = f

same_place : (a b : Place) → is_place a b ≡ is_place b a
same_place a b = ap (λ c. c && nat_eq a.rule b.rule) (sym (flips a.chain b.chain (nat_eq a.chain b.chain) refl)) ∙ ap (λ c. nat_eq b.chain a.chain && c) (sym (flips a.rule b.rule (nat_eq a.rule b.rule) refl))

-- an instruction stands for the place of a rule, told from either side
pub stands_so : (rule : Option Place) (at : Place) → stands_at rule at ≡ list_any (is_place at) (stands_for rule)
stands_so None at = refl
stands_so (Some p) at = ap (λ b. b || false) (same_place p at)

-- a key that was put is that of a place or isn't
put_key : (b old : Bool) → cond b true old ≡ (old || (b || false))
put_key true true = refl
put_key true false = refl
put_key false true = refl
put_key false false = refl

pub place_put : (old new : PlaceKey → Bool) (key : PlaceKey) (place : Option Place) (p at : Place) → place ≡ Some p → key ≡ key_of p
    → new (key_of at) ≡ cond (key_eq key (key_of at)) true (old (key_of at)) → new (key_of at) ≡ (old (key_of at) || stands_at place at)
place_put old new key place p at is keyed h =
    h
    ∙ ap (λ (k : PlaceKey). cond (key_eq k (key_of at)) true (old (key_of at))) keyed
    ∙ put_key (nat_eq p.chain at.chain && nat_eq p.rule at.rule) (old (key_of at))
    ∙ ap (λ (o : Option Place). old (key_of at) || stands_at o at) (sym is)

-- ---- instructions that are reached

-- what one more instruction adds
pub one_reached : (b : Bool) (answers : List Bool) (rule : Option Place) (places : List (Option Place)) (at : Place) (old new before : Bool) → b ≡ true
    → new ≡ (old || stands_at rule at) → (old || ((b && stands_at rule at) || any_reached answers places at)) ≡ before → (new || any_reached answers places at) ≡ before
one_reached true answers rule places at old new before e is h = ap (λ x. x || any_reached answers places at) is ∙ grouped old (stands_at rule at) (any_reached answers places at) ∙ h
  where
    grouped : (x y z : Bool) → ((x || y) || z) ≡ (x || (y || z))
    grouped true y z = refl
    grouped false y z = refl
one_reached false answers rule places at old new before e is h = absurd (false≢true e)

pub none_reached : (b : Bool) (answers : List Bool) (rule : Option Place) (places : List (Option Place)) (at : Place) (old before : Bool) → b ≡ false
    → (old || ((b && stands_at rule at) || any_reached answers places at)) ≡ before → (old || any_reached answers places at) ≡ before
none_reached true answers rule places at old before e h = absurd (false≢true (sym e))
none_reached false answers rule places at old before e h = h

-- the step of a loop over both lists
module _ (answers : List Bool) (places : List (Option Place)) (n : ℕ) (at : Place) (old before : Bool) (lt : n < length answers) (low : n < length places)
    (so_far : (old || any_reached (drop n answers) (drop n places) at) ≡ before) where
  here : (old || ((get_or answers n false && stands_at (get_or places n None) at) || any_reached (drop (n + 1) answers) (drop (n + 1) places) at)) ≡ before
  here =
      ap (λ (l : List (Option Place)). old || any_reached (get_or answers n false ∷ drop (n + 1) answers) l at) (sym (drop_more places n None low))
      ∙ ap (λ (l : List Bool). old || any_reached l (drop n places) at) (sym (drop_more answers n false lt)) ∙ so_far

  pub step_reached : (new : Bool) → get_or answers n false ≡ true → new ≡ (old || stands_at (get_or places n None) at)
      → (new || any_reached (drop (n + 1) answers) (drop (n + 1) places) at) ≡ before
  step_reached new e is = one_reached (get_or answers n false) (drop (n + 1) answers) (get_or places n None) (drop (n + 1) places) at old new before e is here

  pub step_passed : get_or answers n false ≡ false → (old || any_reached (drop (n + 1) answers) (drop (n + 1) places) at) ≡ before
  step_passed e = none_reached (get_or answers n false) (drop (n + 1) answers) (get_or places n None) (drop (n + 1) places) at old before e here

-- the place of an instruction that is reached
pub reached_at : (answers : List Bool) (places : List (Option Place)) (at : Place) → any_reached answers places at ≡ true
    → (n : ℕ) × (slice_get answers n ≡ Some true) × (stands_at (unwrap_or (slice_get places n) None) at ≡ true)
reached_at [] places at h = absurd (false≢true h)
reached_at (b ∷ bs) [] at h = absurd (false≢true h)
reached_at (b ∷ bs) (p ∷ ps) at h = ⊎_elim
    (λ e. (let parts = and_parts b (stands_at p at) e in (0, ap (λ (x : Bool). Some x) parts.0, parts.1)))
    (λ e. (let rest = reached_at bs ps at e in (suc rest.0, rest.1, rest.2)))
    (or_cases (b && stands_at p at) (any_reached bs ps at) h)

pub at_reached : (answers : List Bool) (places : List (Option Place)) (at : Place) (n : ℕ) → slice_get answers n ≡ Some true → stands_at (unwrap_or (slice_get places n) None) at ≡ true
    → any_reached answers places at ≡ true
at_reached [] places at n e h = cc
at_reached (b ∷ bs) [] at n e h = absurd (false≢true h)
at_reached (b ∷ bs) (p ∷ ps) at zero e h =
    or_left (b && stands_at p at) (any_reached bs ps at) (and_from b (stands_at p at) (same_Some b true e) h)
at_reached (b ∷ bs) (p ∷ ps) at (suc n) e h = or_right (b && stands_at p at) (any_reached bs ps at) (at_reached bs ps at n e h)

-- an instruction that stands for a place has an answer, where there are as many
pub answered : (answers : List Bool) (places : List (Option Place)) (at : Place) (n : ℕ) → length places ≡ length answers → stands_at (unwrap_or (slice_get places n) None) at ≡ true
    → (b : Bool) × (slice_get answers n ≡ Some b)
answered [] [] at n e h = absurd (false≢true h)
answered [] (p ∷ ps) at n e h = absurd (omega (arith, e))
answered (b ∷ bs) [] at n e h = absurd (false≢true h)
answered (b ∷ bs) (p ∷ ps) at zero e h = (b, refl)
answered (b ∷ bs) (p ∷ ps) at (suc n) e h = answered bs ps at n (omega (arith, e)) h

-- ---- packets that use them

-- the instruction of the list for which a test holds
holding : (test : ℕ → Bool) (ns : List ℕ) → list_any test ns ≡ true → (n : ℕ) × (list_any (nat_eq n) ns ≡ true) × (test n ≡ true)
holding test [] h = absurd (false≢true h)
holding test (m ∷ ns) h = ⊎_elim
    (λ e. (m, or_left (nat_eq m m) (list_any (nat_eq m) ns) (eq-eqb m m refl), e))
    (λ e. (let rest = holding test ns e in (rest.0, or_right (nat_eq rest.0 m) (list_any (nat_eq rest.0) ns) rest.1, rest.2)))
    (or_cases (test m) (list_any test ns) h)

held : (test : ℕ → Bool) (n : ℕ) (ns : List ℕ) → list_any (nat_eq n) ns ≡ true → test n ≡ true → list_any test ns ≡ true
held test n [] h e = absurd (false≢true h)
held test n (m ∷ ns) h e = ⊎_elim
    (λ same. or_left (test m) (list_any test ns) (ap test (sym (eqb-true n m same)) ∙ e))
    (λ later. or_right (test m) (list_any test ns) (held test n ns later e))
    (or_cases (nat_eq n m) (list_any (nat_eq n) ns) h)

module _ (each : ToldEach) (f : Flat) (places : List (Option Place)) (site : Site) (state : State) (answers : List Bool)
    (entries : length places ≡ length f.code) (reached : AreReached f site state answers) where
  -- by a place that is told of an instruction that is reached, some packet uses the rule there
  pub packet_found : (at : Place) → any_reached answers places at ≡ true
      → (p : List ℕ) × IsWithin (tops_of site) p × (uses_by f places site (packet_of p) (kind_of state p) at ≡ true)
  packet_found at h =
      let n = reached_at answers places at h in
      let q = reached.reached n.0 n.1 in
      let test : ℕ → Bool = λ m. list_any (is_place at) (told_at places m) in
      let ns = used_places f site (packet_of q.0) (kind_of state q.0) in
      (q.0, q.1, each places at ns ∙ held test n.0 ns q.2 (sym (stands_so (unwrap_or (slice_get places n.0) None) at) ∙ n.2))

  -- and where a packet uses the rule at a place, an instruction is reached that stands for it
  pub place_found : (at : Place) (p : List ℕ) → IsWithin (tops_of site) p → uses_by f places site (packet_of p) (kind_of state p) at ≡ true → any_reached answers places at ≡ true
  place_found at p within h =
      let test : ℕ → Bool = λ m. list_any (is_place at) (told_at places m) in
      let ns = used_places f site (packet_of p) (kind_of state p) in
      let n = holding test ns (sym (each places at ns) ∙ h) in
      let stands : stands_at (unwrap_or (slice_get places n.0) None) at ≡ true = stands_so (unwrap_or (slice_get places n.0) None) at ∙ n.2 in
      let b = answered answers places at n.0 (entries ∙ sym reached.count) stands in
      told_true b.0 n.0 b.1 n.1 stands
    where
      told_true : (b : Bool) (m : ℕ) → slice_get answers m ≡ Some b → uses f site (packet_of p) (kind_of state p) m ≡ true → stands_at (unwrap_or (slice_get places m) None) at ≡ true
          → any_reached answers places at ≡ true
      told_true true m e used stands = at_reached answers places at m e stands
      told_true false m e used stands = absurd (false≢true (sym (reached.unreached m e p within) ∙ used))

  -- what is added where these answers are
  pub are_added : (old new : Place → Bool) → ((at : Place) → new at ≡ (old at || any_reached answers places at)) → AreAdded f places site state old new
  are_added old new is = record {
    kept = λ at e. is at ∙ or_left (old at) (any_reached answers places at) e;
    added = λ at p within h. is at ∙ or_right (old at) (any_reached answers places at) (place_found at p within h);
    found = λ at h. ⊎_elim (λ e. inl e) (λ e. inr (packet_found at e)) (or_cases (old at) (any_reached answers places at) (sym (is at) ∙ h));
  }

-- ---- points and packets

twelve : (q : List ℕ) → length q ≡ 12
    → slice_index q 0 ∷ slice_index q 1 ∷ slice_index q 2 ∷ slice_index q 3 ∷ slice_index q 4 ∷ slice_index q 5 ∷ slice_index q 6 ∷ slice_index q 7 ∷ slice_index q 8 ∷ slice_index q 9
    ∷ slice_index q 10 ∷ slice_index q 11 ∷ [] ≡ q
twelve q n = sym (fill_by_all (λ k. get_or q k 0) q 12 0 n (λ k lt. refl))

at_least : (top : ℕ) → 0 ≤ top
at_least top = omega arith

-- the packet of a point within the tops is one of the site
pub of_site : (site : Site) (state : State) (q : List ℕ) → IsWithin (tops_of site) q → IsOfSite site (packet_of q) (kind_of state q)
of_site site Fresh q within =
    let n : length q ≡ 12 = sym (within_length (tops_of site) q within) in
    let w = subst (λ (l : List ℕ). IsWithin (tops_of site) l) (sym (twelve q n)) within in
    (w.0, (w.1.0, (w.1.1.0, (w.1.1.1.0, (w.1.1.1.1.0, (w.1.1.1.1.1.0, (w.1.1.1.1.1.1.0, (w.1.1.1.1.1.1.1.0, (at_least (slice_index (tops_of site) 8), (at_least (slice_index (tops_of site) 9), (at_least (slice_index (tops_of site) 10), (at_least (slice_index (tops_of site) 11), tt))))))))))))
of_site site Est q within = subst (λ (l : List ℕ). IsWithin (tops_of site) l) (sym (twelve q (sym (within_length (tops_of site) q within)))) within

-- ---- both kinds of packets

pub both_kinds : (f : Flat) (places : List (Option Place)) (site : Site) (none middle whole : Place → Bool) → ((at : Place) → none at ≡ false)
    → AreAdded f places site Fresh none middle → AreAdded f places site Est middle whole → AreUsed f places site whole
both_kinds f places site none middle whole empty fresh est = record {
  all = λ c at h. used_one c.0 c.1 c.2 at h;
  found = λ at h. ⊎_elim
      (λ e. ⊎_elim (λ g. absurd (false≢true (sym (empty at) ∙ g))) (λ g. ((packet_of g.0, kinds.New, of_site site Fresh g.0 g.1), g.2)) (fresh.found at e))
      (λ e. ((packet_of e.0, kind_of Est e.0, of_site site Est e.0 e.1), e.2))
      (est.found at h);
}
  where
    used_one : (p : Packet) (k : Kind) → IsOfSite site p k → (at : Place) → uses_by f places site p k at ≡ true → whole at ≡ true
    used_one p kinds.New w at h = est.kept at (fresh.added at (point_with p no_ends) w h)
    used_one p (kinds.Est r) w at h = est.added at (point_with p r) w h
