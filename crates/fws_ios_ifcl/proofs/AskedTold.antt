-- What is told of lists that translations ask is what these use.
use Rattle.std.proofs.Common.{◌≡◌, ℕ, suc, ◌+◌, Bool, true, false, cond, Option, Some, None, List, [], ◌∷◌, ◌++◌, length, arith, refl, sym, ap, ◌∙◌, subst, length-append}
use Rattle.std.specs.Option.{option_map_or}
use Rattle.fws_net.specs.declared.connection.Kind.TheVariants.{New}
use Rattle.fws_net.specs.declared.transit.Transit.{Transit}
use Rattle.fws_net.specs.Ends.{host_end}
use Rattle.fws_ifcl.specs.declared.diagram.Act.TheVariants.{Accept, Skip, Src}
use Rattle.fws_ifcl.specs.declared.diagram.Rule.{Rule}
use Rattle.fws_ifcl_rules.specs.Places.{Stands}
use Rattle.fws_ifcl_rules.specs.Rules.{always}
use Rattle.fws_ifcl_rules.specs.UsedPlaces.{tell, Bears}
use Rattle.fws_ios.specs.declared.config.IosConfig.{IosConfig}
use Rattle.fws_ios.specs.declared.config.IosEntry.{IosEntry}
use Rattle.fws_ios.specs.declared.config.IosList.{IosList}
use Rattle.fws_ios.specs.declared.config.IosNat.{IosNat}
use Rattle.fws_ios.specs.declared.config.IosNat.TheVariants.{Static, List as Listed}
use Rattle.fws_ios.specs.Uses.{entries_used, lists_used}
use Rattle.fws_ios.specs.Walk.{list_named, permits}
use Rattle.fws_ios_ifcl.specs.Blocks.{choosing, listing}
use Rattle.fws_ios_ifcl.specs.Placed.{asking_from, first_entry}
use Rattle.fws_ios_ifcl.proofs.Beside.{asking_beside_from, asking_many, chosen_beside, choosing_beside, listing_beside, listing_many}
use Rattle.fws_ios_ifcl.proofs.Chosen.{listing_length, choosing_length}
use Rattle.fws_ios_ifcl.proofs.Counted.{list_used_is}
use Rattle.fws_ios_ifcl.proofs.Listed.{Course}
use Rattle.fws_ios_ifcl.proofs.ListedTold.{Tale, listing_told}

module _ (chain : ℕ) (w : Course New true chain) (u : Tale w) (t : Transit) where
  -- a list that chooses packets for the translation of number n
  choosing_told : (at first n : ℕ) (entries : List IosEntry) (addr : ℕ) → Stands w at (choosing at entries addr) → Bears u at (choosing_beside first n entries)
      → tell u at t
      ≡ entries_used w.site New true first entries t ++ cond (permits w.site New true entries t) (n ∷ []) (tell u (at + (3 + length entries)) t)
  choosing_told at first n entries addr s b =
      let m = length entries in
      let taken = at + suc m in
      let left = at + (3 + m) in
      let rules = listing (Skip taken) (Skip left) entries in
      let many : length rules ≡ 1 + m = listing_length (Skip taken) (Skip left) entries in
      let beside : length (listing_beside first entries) ≡ 1 + m = listing_many first entries in
      let halves = w.law.parts taken rules (always (Src (host_end addr None)) ∷ always Accept ∷ []) s (omega (arith, many)) in
      let numbers = u.law.parts taken (listing_beside first entries) ((n ∷ []) ∷ [] ∷ []) b (omega (arith, beside)) in
      listing_told New true chain w u (Skip taken) (Skip left) (tell u taken) (tell u left) (λ next v. refl) (λ next v. refl) at first entries
      (λ i le. omega (arith, le)) (λ i le. omega (arith, le)) halves.0 numbers.0 t
      ∙ ap (λ end. entries_used w.site New true first entries t ++ cond (permits w.site New true entries t) end (tell u left t))
      (u.law.told halves.1 numbers.1 (tt, (tt, tt)) t)

  -- the rules of one, by the list
  abbrev rules_of : ℕ → Option IosList → ℕ → List Rule
  rules_of at found addr = option_map_or (λ (l : IosList). choosing at l.entries addr) found []

  abbrev said : Option IosList → Bool
  said found = option_map_or (λ (l : IosList). permits w.site New true l.entries t) found false

  found_told : (at first n : ℕ) (found : Option IosList) (addr : ℕ) → Stands w at (rules_of at found addr) → Bears u at (chosen_beside first n found)
      → tell u at t
      ≡ option_map_or (λ (l : IosList). entries_used w.site New true first l.entries t) found []
      ++ cond (said found) (n ∷ []) (tell u (at + length (rules_of at found addr)) t)
  found_told at first n None addr s b =
      let same : at ≡ at + 0 = omega arith in
      ap (λ m. tell u m t) same
  found_told at first n (Some l) addr s b =
      let next : at + (3 + length l.entries) ≡ at + length (choosing at l.entries addr) = ap (λ m. at + m) (sym (choosing_length at l.entries addr)) in
      choosing_told at first n l.entries addr s b
      ∙ ap (λ m. entries_used w.site New true first l.entries t ++ cond (permits w.site New true l.entries t) (n ∷ []) (tell u m t)) next

  -- all of them, behind which nothing is told
  pub asking_told : (c : IosConfig) (last : ℕ) → tell u last t ≡ [] → (at n : ℕ) (nats : List IosNat) → Stands w at (asking_from at c.lists nats)
      → Bears u at (asking_beside_from c.lists n nats) → at + length (asking_from at c.lists nats) ≡ last → tell u at t ≡ lists_used c w.site New t n nats
  asking_told c last end at n [] s b long =
      let same : at ≡ last = omega (arith, long) in
      ap (λ m. tell u m t) same ∙ end
  asking_told c last end at n (Static proto local global ∷ nats) s b long =
      let same : at ≡ at + 0 = omega arith in
      ap (λ m. tell u m t) same
      ∙ asking_told c last end (at + 0) (suc n) nats (subst (λ m. Stands w m (asking_from (at + 0) c.lists nats)) same s)
      (subst (λ m. Bears u m (asking_beside_from c.lists (suc n) nats)) same b) (omega (arith, long))
  asking_told c last end at n (Listed name addr ∷ nats) s b long =
      let found = list_named name c.lists in
      let first = first_entry 0 name c.lists in
      let here = rules_of at found addr in
      let next = at + length here in
      let more = asking_from next c.lists nats in
      let all : length (here ++ more) ≡ length here + length more = length-append here more in
      let halves = w.law.parts next here more s refl in
      let numbers = u.law.parts next (chosen_beside first n found) (asking_beside_from c.lists (suc n) nats) b
      (ap (λ m. at + m) (asking_many at c.lists n (Listed name addr))) in
      let used = option_map_or (λ (l : IosList). entries_used w.site New true first l.entries t) found [] in
      let later = lists_used c w.site New t (suc n) nats in
      found_told at first n found addr halves.0 numbers.0
      ∙ ap (λ l. used ++ cond (said found) (n ∷ []) l) (asking_told c last end next (suc n) nats halves.1 numbers.1 (omega (arith, long, all)))
      ∙ ap (λ l. l ++ cond (said found) (n ∷ []) later) (list_used_is w.site New true 0 name c.lists t)
