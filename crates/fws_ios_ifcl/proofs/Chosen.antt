-- The rules of translations by lists walk as these do.
use Rattle.std.proofs.Common.{◌≡◌, ℕ, suc, ◌+◌, ◌⊎◌, inl, inr, Bool, true, false, cond, Option, Some, None, List, [], ◌∷◌, ◌++◌, map, length, arith, refl, sym, ap, ◌∙◌, subst, true≢false, length-append}
use Rattle.std.proofs.lemmas.Bool.{or_cases}
use Rattle.std.proofs.lemmas.List.{length-map}
use Rattle.std.proofs.lemmas.List.Folds.{list_any-append}
use Rattle.std.proofs.lemmas.Slice.Eq.{bytes_eq-Decides}
use Rattle.std.specs.List.{list_any}
use Rattle.std.specs.Option.{option_map_or}
use Rattle.std.specs.Str.{bytes_eq}
use Rattle.fws_net.specs.declared.connection.Kind.TheVariants.{New}
use Rattle.fws_net.specs.declared.outcome.End.{End}
use Rattle.fws_net.specs.declared.transit.Transit.{Transit}
use Rattle.fws_net.specs.Ends.{host_end}
use Rattle.fws_net.specs.Transits.{with_src}
use Rattle.fws_ifcl.specs.declared.diagram.Act.{Act}
use Rattle.fws_ifcl.specs.declared.diagram.Act.TheVariants.{Accept, Skip, Src}
use Rattle.fws_ifcl.specs.declared.diagram.Rule.{Rule}
use Rattle.fws_ifcl.specs.declared.step.ChainEnd.{ChainEnd}
use Rattle.fws_ifcl.specs.declared.step.ChainEnd.TheVariants.{Accepted}
use Rattle.fws_ifcl_rules.specs.Places.{run, Stands}
use Rattle.fws_ifcl_rules.specs.Rules.{always}
use Rattle.fws_ios.specs.declared.config.IosConfig.{IosConfig}
use Rattle.fws_ios.specs.declared.config.IosEntry.{IosEntry}
use Rattle.fws_ios.specs.declared.config.IosList.{IosList}
use Rattle.fws_ios.specs.declared.config.IosNat.{IosNat}
use Rattle.fws_ios.specs.declared.config.IosNat.TheVariants.{Static, List as Listed}
use Rattle.fws_ios.specs.Walk.{first_end, list_named, listed_end, permits, says}
use Rattle.fws_ios_ifcl.specs.Blocks.{entry_rule, listing, choosing, with_asked, choosing_from}
use Rattle.fws_ios_ifcl.proofs.Listed.{Course, listing_walk}
use Rattle.fws_ios_ifcl.proofs.Translated.{leaves_with}

-- How many rules these are

pub listing_length : (permitted denied : Act) (entries : List IosEntry) → length (listing permitted denied entries) ≡ 1 + length entries
listing_length permitted denied entries =
    let rules = map (entry_rule permitted denied) entries in
    let all : length (listing permitted denied entries) ≡ length rules + 1 = length-append rules (always denied ∷ []) in
    let many : length rules ≡ length entries = length-map entries (entry_rule permitted denied) in
    omega (arith, all, many)

pub choosing_length : (at : ℕ) (entries : List IosEntry) (addr : ℕ) → length (choosing at entries addr) ≡ 3 + length entries
choosing_length at entries addr =
    let first = listing (Skip (at + suc (length entries))) (Skip (at + (3 + length entries))) entries in
    let all : length (choosing at entries addr) ≡ length first + 2 = length-append first (always (Src (host_end addr None)) ∷ always Accept ∷ []) in
    let many : length first ≡ 1 + length entries = listing_length (Skip (at + suc (length entries))) (Skip (at + (3 + length entries))) entries in
    omega (arith, all, many)

-- Lists that were asked

-- one of the lists that were asked, with this name
among : (name other : List ℕ) (asked : List (List ℕ)) → list_any (bytes_eq other) (cond (list_any (bytes_eq name) asked) asked (asked ++ name ∷ [])) ≡ true
    → (list_any (bytes_eq other) asked ≡ true) ⊎ (other ≡ name)
among name other asked is = by (list_any (bytes_eq name) asked) is
  where
    by : (b : Bool) → list_any (bytes_eq other) (cond b asked (asked ++ name ∷ [])) ≡ true → (list_any (bytes_eq other) asked ≡ true) ⊎ (other ≡ name)
    by true h = inl h
    by false h =
        elim (or_cases (list_any (bytes_eq other) asked) (list_any (bytes_eq other) (name ∷ [])) (sym (list_any-append (bytes_eq other) asked (name ∷ [])) ∙ h)) [
          | inl e ↦ inl e
          | inr e ↦ elim (or_cases (bytes_eq other name) false e) [ inl f ↦ inr ((bytes_eq-Decides other name).0 f) | inr f ↦ absurd (true≢false (sym f)) ]
        ]

module _ (chain : ℕ) (w : Course New true chain) (c : IosConfig) (t : Transit) where
  -- a list permits the packet
  abbrev pub permitted : List ℕ → Bool
  permitted name = says c w.site New true false name t

  -- none of the lists that were asked does
  abbrev Denied : List (List ℕ) → Type 0
  Denied asked = (name : List ℕ) → list_any (bytes_eq name) asked ≡ true → permitted name ≡ false

  denied_more : (name : List ℕ) (addr : ℕ) (asked : List (List ℕ)) → permitted name ≡ false → Denied asked → Denied (with_asked (Listed name addr) asked)
  denied_more name addr asked here denied other is =
      elim (among name other asked is) [ inl e ↦ denied other e | inr e ↦ ap permitted e ∙ here ]

  -- the packet leaves with an address as its source
  abbrev pub chosen : ℕ → ChainEnd
  chosen addr = Accepted (with_src w.p (host_end addr None) t)

  -- a list that chooses packets
  pub choosing_walk : (at : ℕ) (entries : List IosEntry) (addr : ℕ) → Stands w at (choosing at entries addr)
      → run w at t ≡ cond (permits w.site New true entries t) (chosen addr) (run w (at + (3 + length entries)) t)
  choosing_walk at entries addr s =
      let n = length entries in
      let taken = at + suc n in
      let left = at + (3 + n) in
      let first = listing (Skip taken) (Skip left) entries in
      let many : length first ≡ 1 + n = listing_length (Skip taken) (Skip left) entries in
      let halves = w.law.parts taken first (always (Src (host_end addr None)) ∷ always Accept ∷ []) s (omega (arith, many)) in
      listing_walk New true chain w (Skip taken) (Skip left) (run w taken) (run w left) (λ next u. refl) (λ next u. refl) at entries
      (λ m le. omega (arith, le)) (λ m le. omega (arith, le)) halves.0 t
      ∙ ap (λ end. cond (permits w.site New true entries t) end (run w left t)) (w.law.walked halves.1 (tt, (tt, tt)) t)

  -- the rules of one, by whether it was asked and which list it is
  abbrev pub rules_of : ℕ → Bool → Option IosList → ℕ → List Rule
  rules_of at was found addr = cond was [] (option_map_or (λ (l : IosList). choosing at l.entries addr) found [])

  abbrev pub said : Option IosList → Bool
  said found = option_map_or (λ (l : IosList). permits w.site New true l.entries t) found false

  pub asked_walk : (at : ℕ) (was : Bool) (found : Option IosList) (addr : ℕ) → Stands w at (rules_of at was found addr) → (was ≡ true → said found ≡ false)
      → run w at t ≡ cond (said found) (chosen addr) (run w (at + length (rules_of at was found addr)) t)
  asked_walk at true found addr s denied =
      let same : at ≡ at + 0 = omega arith in
      ap (λ n. run w n t) same ∙ sym (ap (λ b. cond b (chosen addr) (run w (at + 0) t)) (denied refl))
  asked_walk at false None addr s denied =
      let same : at ≡ at + 0 = omega arith in
      ap (λ n. run w n t) same
  asked_walk at false (Some l) addr s denied =
      let next : at + (3 + length l.entries) ≡ at + length (choosing at l.entries addr) = ap (λ n. at + n) (sym (choosing_length at l.entries addr)) in
      choosing_walk at l.entries addr s ∙ ap (λ n. cond (permits w.site New true l.entries t) (chosen addr) (run w n t)) next

  -- the address of a list, or a later end
  pub listed_or_later : (b : Bool) (addr : ℕ) (later : Option End) (next rest : ChainEnd) → (b ≡ false → next ≡ leaves_with w.p true t later rest)
      → cond b (chosen addr) next ≡ leaves_with w.p true t (option_map_or Some (cond b (Some (host_end addr None)) None) later) rest
  listed_or_later true addr later next rest on = refl
  listed_or_later false addr later next rest on = on refl

  -- all of them
  pub choosing_from_walk : (last at : ℕ) (asked : List (List ℕ)) (nats : List IosNat) → Stands w at (choosing_from at c.lists asked nats)
      → at + length (choosing_from at c.lists asked nats) ≡ last → Denied asked
      → run w at t ≡ leaves_with w.p true t (first_end (listed_end c w.site New t) nats) (run w last t)
  choosing_from_walk last at asked [] s long denied =
      let same : at ≡ last = omega (arith, long) in
      ap (λ n. run w n t) same
  choosing_from_walk last at asked (Static proto local global ∷ nats) s long denied =
      let same : at ≡ at + 0 = omega arith in
      ap (λ n. run w n t) same
      ∙ choosing_from_walk last (at + 0) asked nats (subst (λ n. Stands w n (choosing_from (at + 0) c.lists asked nats)) same s) (omega (arith, long)) denied
  choosing_from_walk last at asked (Listed name addr ∷ nats) s long denied =
      let was = list_any (bytes_eq name) asked in
      let found = list_named name c.lists in
      let here = rules_of at was found addr in
      let next = at + length here in
      let more = choosing_from next c.lists (with_asked (Listed name addr) asked) nats in
      let all : length (here ++ more) ≡ length here + length more = length-append here more in
      let halves = w.law.parts next here more s refl in
      asked_walk at was found addr halves.0 (denied name)
      ∙ listed_or_later (permitted name) addr (first_end (listed_end c w.site New t) nats) (run w next t) (run w last t)
      (λ is. choosing_from_walk last next (with_asked (Listed name addr) asked) nats halves.1 (omega (arith, long, all)) (denied_more name addr asked is denied))
