-- Numbers in the diagram are right, among any number of chains.
use Rattle.std.proofs.Common.{◌≡◌, ℕ, suc, ◌+◌, ◌<◌, ◌≤◌, Bool, true, false, cond, ◌&&◌, Option, Some, None, List, [], ◌∷◌, ◌++◌, length, arith, refl, ap, length-append}
use Rattle.std.specs.List.{list_all, list_any}
use Rattle.std.specs.Option.{option_map_or}
use Rattle.std.specs.Str.{bytes_eq}
use Rattle.fws_net.specs.declared.condition.Lit.{Lit}
use Rattle.fws_net.specs.Ends.{host_end}
use Rattle.fws_ifcl.specs.declared.diagram.Act.{Act}
use Rattle.fws_ifcl.specs.declared.diagram.Act.TheVariants as acts
use Rattle.fws_ifcl.specs.declared.diagram.Rule.{Rule}
use Rattle.fws_ifcl.specs.Soundness.{act_ok, rules_ok, chain_ok, ifcl_ok}
use Rattle.fws_ifcl_rules.specs.Right.{RightAmong, RightByParts, RulesAreRightByParts}
use Rattle.fws_ifcl_rules.specs.Rules.{ruled, always, guard, guarded}
use Rattle.fws_ifcl_rules.specs.Straight.{is_straight}
use Rattle.fws_ios.specs.declared.config.IosConfig.{IosConfig}
use Rattle.fws_ios.specs.declared.config.IosEntry.{IosEntry}
use Rattle.fws_ios.specs.declared.config.IosGroup.{IosGroup}
use Rattle.fws_ios.specs.declared.config.IosList.{IosList}
use Rattle.fws_ios.specs.declared.config.IosNat.{IosNat}
use Rattle.fws_ios.specs.declared.config.IosNat.TheVariants.{Static, List as Listed}
use Rattle.fws_ios.specs.Walk.{is_directed, list_named}
use Rattle.fws_ios_ifcl.specs.Blocks.{entry_rule, listing, at_face, applying, applied, applied_from, static_cond, static_rules, statics_from, choosing, with_asked, choosing_rules, choosing_from}
use Rattle.fws_ios_ifcl.specs.Diagram.{list_rules, destination_rules, source_front, source_rules, diagram_of}
use Rattle.fws_ios_ifcl.specs.Placed.{asking_from, placed_sources, chains_with, placed_of}
use Rattle.fws_ios_ifcl.proofs.Chosen.{listing_length, choosing_length}

-- among so many chains, and in a chain of so many rules
module _ (chains total : ℕ) (right : RightByParts chains total) where
  -- rules of which the first has the place at are right
  abbrev Right : ℕ → List Rule → Type 0
  Right at rules = RightAmong chains total at rules

  -- an act is right at each place up to this one
  abbrev RightTo : ℕ → Act → Type 0
  RightTo last act = (n : ℕ) → n ≤ last → act_ok chains total n act ≡ true

  skip_right : (last to : ℕ) → last < to → to ≤ total → RightTo last (acts.Skip to)
  skip_right last to lt le n near = right.skip n to (omega (arith, lt, near)) le

  -- Lists

  act_by : (at : ℕ) (b : Bool) (permitted denied : Act) → act_ok chains total at permitted ≡ true → act_ok chains total at denied ≡ true
      → act_ok chains total at (cond b permitted denied) ≡ true
  act_by at true permitted denied first second = first
  act_by at false permitted denied first second = second

  listing_right : (permitted denied : Act) (last : ℕ) → RightTo last permitted → RightTo last denied → (at : ℕ) (entries : List IosEntry) → at + length entries ≤ last
      → Right at (listing permitted denied entries)
  listing_right permitted denied last first second at [] le = right.first at (always denied) [] (second at (omega (arith, le))) refl
  listing_right permitted denied last first second at (entry ∷ entries) le =
      right.first at (entry_rule permitted denied entry) (listing permitted denied entries)
      (act_by at entry.permit permitted denied (first at (omega (arith, le))) (second at (omega (arith, le))))
      (listing_right permitted denied last first second (at + 1) entries (omega (arith, le)))

  -- Lists at interfaces

  -- rules that are met where a condition holds
  met_right : (at : ℕ) (test : List Lit) (inner : List Rule) → Right (at + 2) inner → at + length (guarded at test inner) ≤ total → Right at (guarded at test inner)
  met_right at test inner is le =
      let all : length (guarded at test inner) ≡ 2 + length inner = length-append (guard at test (length inner)) inner in
      right.guarded at test inner is (omega (arith, all, le))

  -- the rules of a list, or where there is none
  abbrev rules_of : Bool → ℕ → ℕ → Option IosList → List Rule
  rules_of outward at face found =
      option_map_or (λ (l : IosList). guarded at (at_face outward face) (listing acts.Accept acts.Drop l.entries)) found (ruled (at_face outward face) acts.Accept ∷ [])

  found_right : (outward : Bool) (at face : ℕ) (found : Option IosList) → at + length (rules_of outward at face found) ≤ total → Right at (rules_of outward at face found)
  found_right outward at face None le = refl
  found_right outward at face (Some l) le =
      met_right at (at_face outward face) (listing acts.Accept acts.Drop l.entries)
      (listing_right acts.Accept acts.Drop ((at + 2) + length l.entries) (λ n near. refl) (λ n near. refl) (at + 2) l.entries (omega arith)) le

  directed_right : (outward : Bool) (lists : List IosList) (at : ℕ) (directed : Bool) (g : IosGroup) → at + length (cond directed (applying outward at lists g) []) ≤ total
      → Right at (cond directed (applying outward at lists g) [])
  directed_right outward lists at true g le = found_right outward at g.face (list_named g.list lists) le
  directed_right outward lists at false g le = refl

  applied_right : (outward : Bool) (lists : List IosList) (at : ℕ) (gs : List IosGroup) → at + length (applied_from outward at lists gs) ≤ total
      → Right at (applied_from outward at lists gs)
  applied_right outward lists at [] le = refl
  applied_right outward lists at (g ∷ gs) le =
      let here = applied outward at lists g in
      let next = at + length here in
      let more = applied_from outward next lists gs in
      let many : length (here ++ more) ≡ length here + length more = length-append here more in
      right.joined at next here more refl (directed_right outward lists at (is_directed outward g) g (omega (arith, le, many)))
      (applied_right outward lists next gs (omega (arith, le, many)))

  -- Statics

  static_right : (outward : Bool) (at : ℕ) (nat : IosNat) → at + length (static_rules outward at nat) ≤ total → Right at (static_rules outward at nat)
  static_right true at (Static proto local global) le = met_right at (static_cond true proto local) (always (acts.Src global) ∷ always acts.Accept ∷ []) refl le
  static_right false at (Static proto local global) le = met_right at (static_cond false proto global) (always (acts.Dst local) ∷ always acts.Accept ∷ []) refl le
  static_right true at (Listed name addr) le = refl
  static_right false at (Listed name addr) le = refl

  statics_right : (outward : Bool) (at : ℕ) (nats : List IosNat) → at + length (statics_from outward at nats) ≤ total → Right at (statics_from outward at nats)
  statics_right outward at [] le = refl
  statics_right outward at (nat ∷ nats) le =
      let here = static_rules outward at nat in
      let next = at + length here in
      let more = statics_from outward next nats in
      let many : length (here ++ more) ≡ length here + length more = length-append here more in
      right.joined at next here more refl (static_right outward at nat (omega (arith, le, many))) (statics_right outward next nats (omega (arith, le, many)))

  -- Translations by lists

  choosing_right : (at : ℕ) (entries : List IosEntry) (addr : ℕ) → at + length (choosing at entries addr) ≤ total → Right at (choosing at entries addr)
  choosing_right at entries addr le =
      let n = length entries in
      let taken = at + suc n in
      let left = at + (3 + n) in
      let first = listing (acts.Skip taken) (acts.Skip left) entries in
      let many : length first ≡ 1 + n = listing_length (acts.Skip taken) (acts.Skip left) entries in
      let far : length (choosing at entries addr) ≡ 3 + n = choosing_length at entries addr in
      right.joined at taken first (always (acts.Src (host_end addr None)) ∷ always acts.Accept ∷ []) (omega (arith, many))
      (listing_right (acts.Skip taken) (acts.Skip left) (at + n) (skip_right (at + n) taken (omega arith) (omega (arith, le, far))) (skip_right (at + n) left (omega arith) (omega (arith, le, far)))
      at entries (omega arith))
      refl

  -- the rules of one, by whether it was asked and which list it is
  abbrev rules_by : ℕ → Bool → Option IosList → ℕ → List Rule
  rules_by at was found addr = cond was [] (option_map_or (λ (l : IosList). choosing at l.entries addr) found [])

  asked_right : (at : ℕ) (was : Bool) (found : Option IosList) (addr : ℕ) → at + length (rules_by at was found addr) ≤ total → Right at (rules_by at was found addr)
  asked_right at true found addr le = refl
  asked_right at false None addr le = refl
  asked_right at false (Some l) addr le = choosing_right at l.entries addr le

  chosen_right : (lists : List IosList) (at : ℕ) (asked : List (List ℕ)) (nat : IosNat) → at + length (choosing_rules at lists asked nat) ≤ total
      → Right at (choosing_rules at lists asked nat)
  chosen_right lists at asked (Static proto local global) le = refl
  chosen_right lists at asked (Listed name addr) le = asked_right at (list_any (bytes_eq name) asked) (list_named name lists) addr le

  choosing_from_right : (lists : List IosList) (at : ℕ) (asked : List (List ℕ)) (nats : List IosNat) → at + length (choosing_from at lists asked nats) ≤ total
      → Right at (choosing_from at lists asked nats)
  choosing_from_right lists at asked [] le = refl
  choosing_from_right lists at asked (nat ∷ nats) le =
      let here = choosing_rules at lists asked nat in
      let next = at + length here in
      let more = choosing_from next lists (with_asked nat asked) nats in
      let many : length (here ++ more) ≡ length here + length more = length-append here more in
      right.joined at next here more refl (chosen_right lists at asked nat (omega (arith, le, many)))
      (choosing_from_right lists next (with_asked nat asked) nats (omega (arith, le, many)))

  -- Chains

  destination_right : (c : IosConfig) → length (destination_rules c) ≤ total → Right 0 (destination_rules c)
  destination_right c le = statics_right false 3 c.nats (omega (arith, le))

  asking_from_right : (lists : List IosList) (at : ℕ) (nats : List IosNat) → at + length (asking_from at lists nats) ≤ total → Right at (asking_from at lists nats)
  asking_from_right lists at [] le = refl
  asking_from_right lists at (nat ∷ nats) le =
      let here = choosing_rules at lists [] nat in
      let next = at + length here in
      let more = asking_from next lists nats in
      let many : length (here ++ more) ≡ length here + length more = length-append here more in
      right.joined at next here more refl (chosen_right lists at [] nat (omega (arith, le, many))) (asking_from_right lists next nats (omega (arith, le, many)))

  source_right : (c : IosConfig) (lists : List Rule) → length (source_front c ++ lists) ≤ total
      → (length (source_front c) + length lists ≤ total → Right (length (source_front c)) lists) → Right 0 (source_front c ++ lists)
  source_right c lists le chosen =
      let place = length (source_front c) in
      let many : length (source_front c ++ lists) ≡ place + length lists = length-append (source_front c) lists in
      right.joined 0 place (source_front c) lists (omega arith) (statics_right true 4 c.nats (omega (arith, le, many))) (chosen (omega (arith, le, many)))

module _ (law : RulesAreRightByParts) (chains : ℕ) (c : IosConfig) where
  lists_ok : (outward : Bool) → rules_ok chains (length (list_rules outward c)) 0 (list_rules outward c) ≡ true
  lists_ok outward =
      let total = length (list_rules outward c) in
      applied_right chains total (law chains total) outward c.lists 0 c.groups (omega arith)

  destination_ok : rules_ok chains (length (destination_rules c)) 0 (destination_rules c) ≡ true
  destination_ok =
      let total = length (destination_rules c) in
      destination_right chains total (law chains total) c (omega arith)

  source_ok : rules_ok chains (length (source_rules c)) 0 (source_rules c) ≡ true
  source_ok =
      let total = length (source_rules c) in
      let place = length (source_front c) in
      source_right chains total (law chains total) c (choosing_from place c.lists [] c.nats) (omega arith)
      (choosing_from_right chains total (law chains total) c.lists place [] c.nats)

  placed_source_ok : rules_ok chains (length (placed_sources c)) 0 (placed_sources c) ≡ true
  placed_source_ok =
      let total = length (placed_sources c) in
      let place = length (source_front c) in
      source_right chains total (law chains total) c (asking_from place c.lists c.nats) (omega arith)
      (asking_from_right chains total (law chains total) c.lists place c.nats)

  -- the rules of each chain, with right ones for sources
  all_ok : (sources : List Rule) → rules_ok chains (length sources) 0 sources ≡ true → list_all (chain_ok chains) (chains_with sources c) ≡ true
  all_ok sources is = λ i. lists_ok false i && (destination_ok i && (is i && (lists_ok true i && true)))

-- every number in the diagram is right
pub diagram_ok : (law : RulesAreRightByParts) (c : IosConfig) → ifcl_ok (diagram_of c) ≡ true
diagram_ok law c = ap (λ b. b && true && true && true && true) (all_ok law 4 c (source_rules c) (source_ok law 4 c))

pub placed_ok : (law : RulesAreRightByParts) (c : IosConfig) → ifcl_ok (placed_of c) ≡ true
placed_ok law c = ap (λ b. b && true && true && true && true) (all_ok law 4 c (placed_sources c) (placed_source_ok law 4 c))

-- no rule names a chain
pub diagram_straight : (law : RulesAreRightByParts) (c : IosConfig) → is_straight (diagram_of c) ≡ true
diagram_straight law c = all_ok law 0 c (source_rules c) (source_ok law 0 c)

pub placed_straight : (law : RulesAreRightByParts) (c : IosConfig) → is_straight (placed_of c) ≡ true
placed_straight law c = all_ok law 0 c (placed_sources c) (placed_source_ok law 0 c)
