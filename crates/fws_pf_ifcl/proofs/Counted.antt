-- The numbers beside the rules of the diagram in which filter rules stand in their order: how many there are, and that they are right.
use Rattle.std.proofs.Common.{◌≡◌, ℕ, suc, ◌+◌, ◌<◌, ◌≤◌, Bool, true, false, None, ◌&&◌, nat_lt, List, [], ◌∷◌, ◌++◌, length, drop, arith, refl, sym, ap, ◌∙◌, append_assoc, append-nil, length-append}
use Rattle.std.proofs.lemmas.Bool.{lt-ltb, and_from}
use Rattle.std.proofs.lemmas.List.Folds.{list_all-append}
use Rattle.std.proofs.Math.Seq.{drop-append_seam}
use Rattle.std.specs.List.{list_all}
use Rattle.fws_ifcl.specs.declared.diagram.Rule.{Rule}
use Rattle.fws_ifcl.specs.declared.diagram.Spot.{Spot}
use Rattle.fws_ifcl.specs.Spots.{are_spots_of}
use Rattle.fws_ifcl_rules.specs.UsedPlaces.{spots_from, untold, first_told, are_below, StandBeside, TellsOfUses}
use Rattle.fws_pf.specs.declared.config.PfConfig.{PfConfig}
use Rattle.fws_pf.specs.declared.config.PfNat.{PfNat}
use Rattle.fws_pf.specs.declared.config.PfRule.{PfRule}
use Rattle.fws_pf.specs.Uses.{first_translation, first_filter_rule}
use Rattle.fws_pf.specs.Walk.{translations}
use Rattle.fws_pf_ifcl.specs.Blocks.{translation, translation_width, translation_widths, translations_from, met_rule, met_rules}
use Rattle.fws_pf_ifcl.specs.Diagram.{tracking, skipping, translations_place, filter_place, pass_rules}
use Rattle.fws_pf_ifcl.specs.Placed.{placed_of, rule_count, translations_told, filter_told, pass_told, spots_of}
use Rattle.fws_pf_ifcl.proofs.Lengths.{translation_length, first_length, front_length}

-- Right numbers

below_joined : (m : ℕ) (xs ys : List (List ℕ)) → are_below m xs ≡ true → are_below m ys ≡ true → are_below m (xs ++ ys) ≡ true
below_joined m xs ys first second = list_all-append (list_all (λ n. nat_lt n m)) xs ys ∙ and_from (are_below m xs) (are_below m ys) first second

untold_below : (m : ℕ) (rules : List Rule) → are_below m (untold rules) ≡ true
untold_below m [] = refl
untold_below m (r ∷ rs) = untold_below m rs

first_below : (m n : ℕ) (rules : List Rule) → n < m → are_below m (first_told n rules) ≡ true
first_below m n [] lt = refl
first_below m n (r ∷ rs) lt = and_from (nat_lt n m && true) (are_below m (untold rs)) (and_from (nat_lt n m) true (lt-ltb n m lt) refl) (untold_below m rs)

translations_below : (outward : Bool) (filter at n m : ℕ) (nats : List PfNat) → n + length nats ≤ m → are_below m (translations_told outward filter at n nats) ≡ true
translations_below outward filter at n m [] le = refl
translations_below outward filter at n m (nat ∷ nats) le =
    below_joined m (first_told n (translation outward filter at nat)) (translations_told outward filter (at + translation_width outward nat) (suc n) nats)
    (first_below m n (translation outward filter at nat) (omega (arith, le)))
    (translations_below outward filter (at + translation_width outward nat) (suc n) m nats (omega (arith, le)))

filter_below : (outward : Bool) (at n m : ℕ) (rs : List PfRule) → n + length rs ≤ m → are_below m (filter_told outward at n rs) ≡ true
filter_below outward at n m [] le = refl
filter_below outward at n m (r ∷ rs) le =
    below_joined m (first_told n (met_rule outward at r)) (filter_told outward (at + length (met_rule outward at r)) (suc n) rs)
    (first_below m n (met_rule outward at r) (omega (arith, le))) (filter_below outward (at + length (met_rule outward at r)) (suc n) m rs (omega (arith, le)))

translations_counted : (outward : Bool) (c : PfConfig) → first_translation c outward + length (translations c outward) ≤ rule_count c
translations_counted true c = omega arith
translations_counted false c = omega arith

pass_below : (outward : Bool) (c : PfConfig) → are_below (rule_count c) (pass_told outward c) ≡ true
pass_below outward c =
    let m = rule_count c in
    let first = tracking outward ++ skipping c in
    let filter = filter_place outward c in
    let nats = translations c outward in
    let n = first_translation c outward in
    let middle = translations_told outward filter (translations_place outward) n nats in
    below_joined m (untold first ++ middle) (filter_told outward filter (first_filter_rule c) c.filter)
    (below_joined m (untold first) middle (untold_below m first) (translations_below outward filter (translations_place outward) n m nats (translations_counted outward c)))
    (filter_below outward filter (first_filter_rule c) m c.filter (omega arith))

-- As many as rules

module _ (law : TellsOfUses) where
  translations_many : (outward : Bool) (filter at n : ℕ) (nats : List PfNat) → length (translations_told outward filter at n nats) ≡ translation_widths outward nats
  translations_many outward filter at n [] = refl
  translations_many outward filter at n (nat ∷ nats) =
      let here = translation outward filter at nat in
      let next = at + translation_width outward nat in
      let all : length (first_told n here ++ translations_told outward filter next (suc n) nats) ≡ length (first_told n here) + length (translations_told outward filter next (suc n) nats) =
      length-append (first_told n here) (translations_told outward filter next (suc n) nats) in
      let one : length (first_told n here) ≡ length here = law.first_many n here in
      let first : length here ≡ translation_width outward nat = translation_length outward filter at nat in
      let second : length (translations_told outward filter next (suc n) nats) ≡ translation_widths outward nats = translations_many outward filter next (suc n) nats in
      omega (arith, all, one, first, second)

  filter_many : (outward : Bool) (at n : ℕ) (rs : List PfRule) → length (filter_told outward at n rs) ≡ length (met_rules outward at rs)
  filter_many outward at n [] = refl
  filter_many outward at n (r ∷ rs) =
      let here = met_rule outward at r in
      let next = at + length here in
      let all : length (first_told n here ++ filter_told outward next (suc n) rs) ≡ length (first_told n here) + length (filter_told outward next (suc n) rs) =
      length-append (first_told n here) (filter_told outward next (suc n) rs) in
      let these : length (here ++ met_rules outward next rs) ≡ length here + length (met_rules outward next rs) = length-append here (met_rules outward next rs) in
      let one : length (first_told n here) ≡ length here = law.first_many n here in
      let second : length (filter_told outward next (suc n) rs) ≡ length (met_rules outward next rs) = filter_many outward next (suc n) rs in
      omega (arith, all, these, one, second)

  -- ahead of the filter rules
  pub first_told_many : (outward : Bool) (c : PfConfig) → length (untold (tracking outward ++ skipping c)) ≡ translations_place outward
  first_told_many outward c = law.untold_many (tracking outward ++ skipping c) ∙ first_length outward c

  pub front_told_many : (outward : Bool) (c : PfConfig)
      → length (untold (tracking outward ++ skipping c) ++ translations_told outward (filter_place outward c) (translations_place outward) (first_translation c outward) (translations c outward))
      ≡ filter_place outward c
  front_told_many outward c =
      let first = untold (tracking outward ++ skipping c) in
      let nats = translations c outward in
      let middle = translations_told outward (filter_place outward c) (translations_place outward) (first_translation c outward) nats in
      let few : length first ≡ translations_place outward = first_told_many outward c in
      let wide : length middle ≡ translation_widths outward nats = translations_many outward (filter_place outward c) (translations_place outward) (first_translation c outward) nats in
      let many : length (first ++ middle) ≡ length first + length middle = length-append first middle in
      omega (arith, few, wide, many)

  pass_many : (outward : Bool) (c : PfConfig) → length (pass_told outward c) ≤ length (pass_rules None outward c)
  pass_many outward c =
      let filter = filter_place outward c in
      let nats = translations c outward in
      let front = tracking outward ++ skipping c ++ translations_from outward filter (translations_place outward) nats in
      let told = untold (tracking outward ++ skipping c) ++ translations_told outward filter (translations_place outward) (first_translation c outward) nats in
      let last = met_rules outward filter c.filter in
      let last_told = filter_told outward filter (first_filter_rule c) c.filter in
      let rules : length (front ++ last) ≡ length front + length last = length-append front last in
      let numbers : length (told ++ last_told) ≡ length told + length last_told = length-append told last_told in
      let one : length front ≡ filter = front_length outward c in
      let same : length told ≡ filter = front_told_many outward c in
      let more : length last_told ≡ length last = filter_many outward filter (first_filter_rule c) c.filter in
      omega (arith, rules, numbers, one, same, more)

  -- the spots are right
  pub spots_right : (c : PfConfig) → are_spots_of (placed_of c) (rule_count c) (spots_of c) ≡ true
  spots_right c =
      let m = rule_count c in
      let first = pass_told false c in
      let second = pass_told true c in
      let small : (are_below m first && (are_below m second && true)) ≡ true =
      and_from (are_below m first) (are_below m second && true) (pass_below false c) (and_from (are_below m second) true (pass_below true c) refl) in
      law.right (placed_of c) m (first ∷ second ∷ []) small (pass_many false c, (pass_many true c, tt))

  -- the spots of a pass, put one part behind the other
  pub pass_spots : (c : ℕ) (outward : Bool) (f : PfConfig) (a b d : List Spot)
      → b ≡ a ++ spots_from c (translations_place outward) (translations_told outward (filter_place outward f) (translations_place outward) (first_translation f outward) (translations f outward))
      → d ≡ b ++ spots_from c (filter_place outward f) (filter_told outward (filter_place outward f) (first_filter_rule f) f.filter)
      → d ≡ a ++ spots_from c 0 (pass_told outward f)
  pass_spots c outward f a b d first second =
      let none = untold (tracking outward ++ skipping f) in
      let filter = filter_place outward f in
      let place = translations_place outward in
      let middle = translations_told outward filter place (first_translation f outward) (translations f outward) in
      let last = filter_told outward filter (first_filter_rule f) f.filter in
      let few : length none ≡ place = first_told_many outward f in
      let wide : length (none ++ middle) ≡ filter = front_told_many outward f in
      second
      ∙ ap (λ l. l ++ spots_from c filter last) first
      ∙ append_assoc a (spots_from c place middle) (spots_from c filter last)
      ∙ ap (λ l. a ++ (l ++ spots_from c filter last))
      (sym (law.joined c 0 place none middle (omega (arith, few)) ∙ ap (λ l. l ++ spots_from c place middle) (law.no_spots c 0 (tracking outward ++ skipping f))))
      ∙ ap (λ l. a ++ l) (sym (law.joined c 0 filter (none ++ middle) last (omega (arith, wide))))

  -- what is beside the filter rules stands where these begin
  pub last_beside : (outward : Bool) (c : PfConfig) → StandBeside (pass_told outward c) (filter_place outward c) (filter_told outward (filter_place outward c) (first_filter_rule c) c.filter)
  last_beside outward c =
      let front = untold (tracking outward ++ skipping c) ++ translations_told outward (filter_place outward c) (translations_place outward) (first_translation c outward) (translations c outward) in
      let last = filter_told outward (filter_place outward c) (first_filter_rule c) c.filter in
      record {
        rest = [];
        are = ap (λ n. drop n (pass_told outward c)) (sym (front_told_many outward c)) ∙ drop-append_seam front last ∙ sym (append-nil last);
      }
