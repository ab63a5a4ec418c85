-- Where lists are applied: at each entry, in its order, inward alone.
use Rattle.std.proofs.Common.{◌≡◌, ◌≢◌, inl, inr, ℕ, zero, suc, ◌+◌, ◌*◌, ◌<◌, ◌≤◌, Bool, true, false, cond, nat_eq, Option, Some, None, List, [], ◌∷◌, ◌++◌, length, map, get_or, ◌-◌, refl, ap, ◌∙◌, arith}
use Rattle.std.proofs.lemmas.Bool.{and_from, cases_Bool, eqb-false, eqb-true, le-leb}
use Rattle.std.specs.List.{list_all, range_with_len}
use Rattle.std.specs.Prelude.{nat_le, is_some}
use Rattle.fws_net.specs.declared.site.Site.{Site}
use Rattle.fws_net.specs.declared.packet.Lang.TheVariants.{Ios}
use Rattle.fws_rules.specs.Names.{AreNamed}
use Rattle.fws_ios.specs.declared.config.IosGroup.{IosGroup}
use Rattle.fws_ios.specs.Walk.{group_at}
use Rattle.fws_ios_print.specs.Printable.{face_count, group_place, groups_ascend, is_list_name, is_printed_group}
use Rattle.fws_ios_put.specs.Layout.{group_of, leader, list_name}
use Rattle.fws_ios_put.specs.Placed.{is_guarded}
use Rattle.fws_ios_put.proofs.ListNames.{good_name}

pub less_one : (i : ℕ) → i + 1 - 1 ≡ i
less_one i = omega arith

module _ (site : Site) (leaders : List ℕ) where
  abbrev from : ℕ → ℕ → List IosGroup
  from a n = map (group_of site leaders) (range_with_len a n)

  -- none is applied outward
  pub none_out : (a n : ℕ) (face : Option ℕ) → group_at true face (from a n) ≡ None
  none_out a zero face = refl
  none_out a (suc n) face = none_out (a + 1) n face

  -- one is applied at each entry
  pub at_entry : (a n e : ℕ) → a ≤ e → e < a + n → group_at false (Some e) (from a n) ≡ Some (group_of site leaders e)
  at_entry a zero e low high = absurd (omega arith)
  at_entry a (suc n) e low high = elim (cases_Bool (nat_eq a e)) [
    | inl same ↦ (ap (λ (b : Bool). cond b (Some (group_of site leaders a)) (group_at false (Some e) (from (a + 1) n))) same ∙ ap (λ k. Some (group_of site leaders k)) (eqb-true a e same))
    | inr other ↦ (let differ : a ≢ e = eqb-false a e other in
        ap (λ (b : Bool). cond b (Some (group_of site leaders a)) (group_at false (Some e) (from (a + 1) n))) other ∙ at_entry (a + 1) n e (omega arith) (omega arith))
  ]

  -- they stand in their order
  pub ascending : (a n least : ℕ) → least ≤ 2 * a → groups_ascend least (from a n) ≡ true
  ascending a zero least low = refl
  ascending a (suc n) least low =
      and_from (nat_le least (group_place (group_of site leaders a))) (groups_ascend (group_place (group_of site leaders a) + 1) (from (a + 1) n))
      (le-leb least (2 * a + 0) (omega arith)) (ascending (a + 1) n (2 * a + 0 + 1) (omega arith))

  -- each can be printed
  pub groups_printed : AreNamed Ios site → (a n : ℕ) → 1 ≤ a → a + n ≤ length site.faces + 2
      → ((e : ℕ) → 1 ≤ e → e ≤ length site.faces + 1 → (1 ≤ leader leaders e) × (leader leaders e ≤ e)) → list_all (is_printed_group site) (from a n) ≡ true
  groups_printed are_named a zero low high led = refl
  groups_printed are_named a (suc n) low high led =
      let here = led a low (omega arith) in
      let below : leader leaders a ≤ length site.faces + 1 = (let h = here.1 in omega arith) in
      and_from (is_printed_group site (group_of site leaders a)) (list_all (is_printed_group site) (from (a + 1) n))
      (and_from (nat_le a (face_count site)) (is_list_name (list_name site leaders (leader leaders a))) (le-leb a (face_count site) (omega arith)) (good_name site are_named leaders (leader leaders a) here.0 below))
      (groups_printed are_named (a + 1) n (omega arith) (omega arith) led)

  -- each entry is guarded
  pub all_guarded : (groups : List IosGroup) (a n : ℕ) → ((e : ℕ) → a ≤ e → e < a + n → (g : IosGroup) × (group_at false (Some e) groups ≡ Some g)) → list_all (is_guarded groups) (range_with_len a n) ≡ true
  all_guarded groups a zero at = refl
  all_guarded groups a (suc n) at =
      and_from (is_guarded groups a) (list_all (is_guarded groups) (range_with_len (a + 1) n))
      (ap is_some (at a (omega arith) (omega arith)).1) (all_guarded groups (a + 1) n (λ e low high. at e (omega arith) (omega arith)))

  -- one more
  more : (a n : ℕ) → from a (suc n) ≡ from a n ++ group_of site leaders (a + n) ∷ []
  more a zero = ap (λ k. group_of site leaders k ∷ []) (same a) where
    same : (a : ℕ) → a ≡ a + 0
    same a = omega arith
  more a (suc n) = ap (λ (l : List IosGroup). group_of site leaders a ∷ l) (more (a + 1) n ∙ ap (λ k. from (a + 1) n ++ group_of site leaders k ∷ []) (same a n)) where
    same : (a n : ℕ) → a + 1 + n ≡ a + suc n
    same a n = omega arith

  pub map_more : (a n : ℕ) → from a (n + 1) ≡ from a n ++ group_of site leaders (a + n) ∷ []
  map_more a n = ap (from a) (next n) ∙ more a n where
    next : (n : ℕ) → n + 1 ≡ suc n
    next n = omega arith

  -- the group of an entry
  pub own_group : (i : ℕ) (name : List ℕ) → name ≡ list_name site leaders (get_or leaders i 0) → record { face = i + 1; outward = false; list = name } ≡ group_of site leaders (1 + i)
  own_group i name is = ap (λ (n : List ℕ). record { face = i + 1; outward = false; list = n }) is ∙ by (1 + i) (front i) (back i) where
    front : (i : ℕ) → i + 1 ≡ 1 + i
    front i = omega arith

    back : (i : ℕ) → i ≡ 1 + i - 1
    back i = omega arith

    by : (e : ℕ) → i + 1 ≡ e → i ≡ e - 1 → record { face = i + 1; outward = false; list = list_name site leaders (get_or leaders i 0) } ≡ group_of site leaders e
    by e face at = ap (λ (k : ℕ). record { face = k; outward = false; list = list_name site leaders (get_or leaders i 0) }) face
        ∙ ap (λ (k : ℕ). record { face = e; outward = false; list = list_name site leaders (get_or leaders k 0) }) at
