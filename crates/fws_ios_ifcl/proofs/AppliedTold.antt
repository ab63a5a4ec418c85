-- What is told of lists at interfaces is what these use.
use Rattle.std.proofs.Common.{◌≡◌, ℕ, ◌+◌, Bool, true, false, cond, ◌&&◌, Option, Some, None, List, [], ◌∷◌, ◌++◌, length, arith, refl, sym, ap, ◌∙◌, append-nil, length-append}
use Rattle.std.specs.Option.{option_map_or}
use Rattle.fws_net.specs.declared.connection.Kind.{Kind}
use Rattle.fws_net.specs.declared.transit.Transit.{Transit}
use Rattle.fws_net.specs.Conditions.{holds}
use Rattle.fws_ifcl.specs.declared.diagram.Act.TheVariants.{Accept, Drop}
use Rattle.fws_ifcl.specs.declared.diagram.Rule.{Rule}
use Rattle.fws_ifcl_rules.specs.Places.{sight, Stands}
use Rattle.fws_ifcl_rules.specs.Rules.{ruled, guard, guarded}
use Rattle.fws_ifcl_rules.specs.UsedPlaces.{tell, Bears}
use Rattle.fws_ios.specs.declared.config.IosConfig.{IosConfig}
use Rattle.fws_ios.specs.declared.config.IosGroup.{IosGroup}
use Rattle.fws_ios.specs.declared.config.IosList.{IosList}
use Rattle.fws_ios.specs.Uses.{entries_used, list_used, met_used}
use Rattle.fws_ios.specs.Walk.{list_named, interface_of, is_directed, group_at}
use Rattle.fws_ios_ifcl.specs.Blocks.{listing, at_face, applying, applied, applied_from}
use Rattle.fws_ios_ifcl.specs.Diagram.{list_rules}
use Rattle.fws_ios_ifcl.specs.Placed.{first_entry}
use Rattle.fws_ios_ifcl.proofs.Applied.{is_at, face_holds}
use Rattle.fws_ios_ifcl.proofs.Beside.{listing_beside, found_beside, applied_beside, applied_beside_from, list_beside, applied_many}
use Rattle.fws_ios_ifcl.proofs.Counted.{list_used_is}
use Rattle.fws_ios_ifcl.proofs.Listed.{Course}
use Rattle.fws_ios_ifcl.proofs.ListedTold.{Tale, none_told, filtering_told}

module _ (k : Kind) (outward : Bool) (chain : ℕ) (w : Course k outward chain) (u : Tale w) where
  -- the rules of a list, or where there is none
  abbrev rules_of : ℕ → ℕ → Option IosList → List Rule
  rules_of at face found =
      option_map_or (λ (l : IosList). guarded at (at_face outward face) (listing Accept Drop l.entries)) found (ruled (at_face outward face) Accept ∷ [])

  -- what a list uses, whose first entry is counted n
  abbrev used_of : ℕ → Option IosList → Transit → List ℕ
  used_of n found t = option_map_or (λ (l : IosList). entries_used w.site k outward n l.entries t) found []

  found_told : (at face n : ℕ) (found : Option IosList) → Stands w at (rules_of at face found) → Bears u at (found_beside n found) → (t : Transit)
      → tell u at t ≡ cond (holds (at_face outward face) (sight w t)) (used_of n found t) (tell u (at + length (rules_of at face found)) t)
  found_told at face n None s b t = u.law.told s b (tt, tt) t
  found_told at face n (Some l) s b t =
      let test = at_face outward face in
      let inner = listing Accept Drop l.entries in
      let halves = w.law.parts (at + 2) (guard at test (length inner)) inner s refl in
      let numbers = u.law.parts (at + 2) ([] ∷ [] ∷ []) (listing_beside n l.entries) b refl in
      let all : length (guarded at test inner) ≡ 2 + length inner = length-append (guard at test (length inner)) inner in
      let next : at + (2 + length inner) ≡ at + length (guarded at test inner) = omega (arith, all) in
      let h = holds test (sight w t) in
      u.law.told halves.0 numbers.0 (omega arith, (omega arith, tt)) t
      ∙ ap (λ end. cond h end (tell u (at + (2 + length inner)) t)) (filtering_told k outward chain w u (at + 2) n l.entries halves.1 numbers.1 t)
      ∙ ap (λ m. cond h (entries_used w.site k outward n l.entries t) (tell u m t)) next

  -- a list that may be applied in this direction
  directed_told : (lists : List IosList) (at n : ℕ) (directed : Bool) (g : IosGroup) → Stands w at (cond directed (applying outward at lists g) [])
      → Bears u at (cond directed (found_beside n (list_named g.list lists)) []) → (t : Transit)
      → tell u at t
      ≡ cond (directed && is_at outward w g.face t) (used_of n (list_named g.list lists) t)
      (tell u (at + length (cond directed (applying outward at lists g) [])) t)
  directed_told lists at n false g s b t =
      let same : at ≡ at + 0 = omega arith in
      ap (λ m. tell u m t) same
  directed_told lists at n true g s b t =
      let found = list_named g.list lists in
      found_told at g.face n found s b t
      ∙ ap (λ h. cond h (used_of n found t) (tell u (at + length (rules_of at g.face found)) t)) (face_holds k outward chain w g.face t)

  -- the first list at the packet's interface
  abbrev used_by_group : List IosList → Option IosGroup → Transit → List ℕ → List ℕ
  used_by_group lists found t rest = option_map_or (λ (g : IosGroup). used_of (first_entry 0 g.list lists) (list_named g.list lists) t) found rest

  first_or_later : (lists : List IosList) (b : Bool) (g : IosGroup) (later : Option IosGroup) (t : Transit) (rest : List ℕ)
      → cond b (used_of (first_entry 0 g.list lists) (list_named g.list lists) t) (used_by_group lists later t rest) ≡ used_by_group lists (cond b (Some g) later) t rest
  first_or_later lists true g later t rest = refl
  first_or_later lists false g later t rest = refl

  -- all lists
  applied_told : (lists : List IosList) (last at : ℕ) (gs : List IosGroup) → Stands w at (applied_from outward at lists gs)
      → Bears u at (applied_beside_from outward lists gs) → at + length (applied_from outward at lists gs) ≡ last → (t : Transit)
      → tell u at t ≡ used_by_group lists (group_at outward (interface_of w.site outward t) gs) t (tell u last t)
  applied_told lists last at [] s b long t =
      let same : at ≡ last = omega (arith, long) in
      ap (λ m. tell u m t) same
  applied_told lists last at (g ∷ gs) s b long t =
      let here = applied outward at lists g in
      let next = at + length here in
      let more = applied_from outward next lists gs in
      let all : length (here ++ more) ≡ length here + length more = length-append here more in
      let halves = w.law.parts next here more s refl in
      let numbers = u.law.parts next (applied_beside outward lists g) (applied_beside_from outward lists gs) b (ap (λ m. at + m) (applied_many outward at lists g)) in
      let h = is_directed outward g && is_at outward w g.face t in
      let later = group_at outward (interface_of w.site outward t) gs in
      let n = first_entry 0 g.list lists in
      directed_told lists at n (is_directed outward g) g halves.0 numbers.0 t
      ∙ ap (cond h (used_of n (list_named g.list lists) t)) (applied_told lists last next gs halves.1 numbers.1 (omega (arith, long, all)) t)
      ∙ first_or_later lists h g later t (tell u last t)

  -- what the list at the packet's interface uses
  group_told : (c : IosConfig) (found : Option IosGroup) (t : Transit) (rest : List ℕ) → rest ≡ []
      → used_by_group c.lists found t rest ≡ option_map_or (λ (g : IosGroup). list_used w.site k outward 0 g.list c.lists t) found []
  group_told c None t rest is = is
  group_told c (Some g) t rest is = list_used_is w.site k outward 0 g.list c.lists t

  -- lists, in a chain of their own
  pub lists_told : (c : IosConfig) → w.full ≡ list_rules outward c → u.beside ≡ list_beside outward c → (t : Transit) → tell u 0 t ≡ met_used c w.site k outward t
  lists_told c are beside t =
      let full = list_rules outward c in
      let numbers = list_beside outward c in
      let stands : Stands w 0 full = record { rest = []; are = are ∙ sym (append-nil full) } in
      let bears : Bears u 0 numbers = record { rest = []; are = beside ∙ sym (append-nil numbers) } in
      let last : 0 + length full ≡ length w.full = omega (arith, ap length are) in
      applied_told c.lists (length w.full) 0 c.groups stands bears last t
      ∙ group_told c (group_at outward (interface_of w.site outward t) c.groups) t (tell u (length w.full) t) (none_told k outward chain w u t)
