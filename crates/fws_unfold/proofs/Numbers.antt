-- Where numbers never rise along a call, none that leads to smaller ones alone comes back.
use Rattle.std.proofs.Common.{◌≡◌, ℕ, zero, suc, ◌+◌, ◌<◌, ◌≤◌, Bool, true, false, List, [], ◌∷◌, length, map, Contains, arith, sym, ap, ◌∙◌, subst, leb-true, ltb-true}
use Rattle.std.specs.Prelude.{nat_le, nat_lt}
use Rattle.std.specs.List.{list_all}
use Rattle.std.proofs.lemmas.Bool.{and_parts, false_from_ne_true}
use Rattle.fws_ifcl.specs.declared.diagram.Chain.{Chain}
use Rattle.fws_ifcl.specs.Loops.{Reaches, names, names_first, LoopsAreReal}
use Rattle.fws_ifcl.specs.Refusals.{all_named, named_in, is_looped}
use Rattle.fws_unfold.specs.declared.calls.Shape.{Shape}
use Rattle.fws_unfold.specs.Calls.{shape_of}
use Rattle.fws_unfold.specs.Numbers.{number_at, none_above, all_below, never_rise, NeverRise}

-- a test of all elements at one of them
all_at : (test : ℕ → Bool) (xs : List ℕ) (d : ℕ) → list_all test xs ≡ true → Contains xs d → test d ≡ true
all_at test [] d all on = let lt : on.0 < 0 = on.1 in absurd (omega arith)
all_at test (x ∷ xs) d all (zero, lt, is) = ap test (sym is) ∙ (and_parts (test x) (list_all test xs) all).0
all_at test (x ∷ xs) d all (suc k, lt, is) =
    let less : k < length xs = omega arith in
    all_at test xs d (and_parts (test x) (list_all test xs) all).1 (k, less, is)

none_named : (b : ℕ) → Contains {X = ℕ} [] b → ⊥
none_named b at = let lt : at.0 < 0 = at.1 in omega arith

rises_nowhere : (numbers : List ℕ) (first : ℕ) (chains : List Chain) (a b : ℕ) → never_rise numbers first (map shape_of chains) ≡ true
    → Contains (named_in chains a) b → number_at numbers b ≤ number_at numbers (first + a)
rises_nowhere numbers first [] a b ok on = absurd (none_named b on)
rises_nowhere numbers first (chain ∷ chains) zero b ok on =
    let both = and_parts (none_above numbers (number_at numbers first) (all_named chain.rules)) (never_rise numbers (suc first) (map shape_of chains)) ok in
    let here : nat_le (number_at numbers b) (number_at numbers first) ≡ true = all_at (λ c. nat_le (number_at numbers c) (number_at numbers first)) (all_named chain.rules) b both.0 on in
    let same : first + 0 ≡ first = omega arith in
    subst (λ k. number_at numbers b ≤ number_at numbers k) (sym same) (leb-true (number_at numbers b) (number_at numbers first) here)
rises_nowhere numbers first (chain ∷ chains) (suc a) b ok on =
    let both = and_parts (none_above numbers (number_at numbers first) (all_named chain.rules)) (never_rise numbers (suc first) (map shape_of chains)) ok in
    let same : suc first + a ≡ first + suc a = omega arith in
    subst (λ k. number_at numbers b ≤ number_at numbers k) same (rises_nowhere numbers (suc first) chains a b both.1 on)

pub numbers_shown : (numbers : List ℕ) (chains : List Chain) (shapes : List Shape) → shapes ≡ map shape_of chains → never_rise numbers 0 shapes ≡ true → NeverRise numbers chains
numbers_shown numbers chains shapes are ok a b on =
    let same : 0 + a ≡ a = omega arith in
    subst (λ k. number_at numbers b ≤ number_at numbers k) same
    (rises_nowhere numbers 0 chains a b (ap (never_rise numbers 0) (sym are) ∙ ok) on)

pub no_numbers : (chains : List Chain) → NeverRise [] chains
no_numbers chains a b on = omega arith

-- numbers never rise along a way
along : {chains : List Chain} {a b : ℕ} (numbers : List ℕ) → NeverRise numbers chains → Reaches chains a b → number_at numbers b ≤ number_at numbers a
along numbers rise (names {a = a} {b = b} e) = rise a b e
along numbers rise (names_first {a = a} {b = b} {c = c} e r) =
    let more : number_at numbers c ≤ number_at numbers b = along numbers rise r in
    let here : number_at numbers b ≤ number_at numbers a = rise a b e in
    omega arith

falls_first : {chains : List Chain} {a b : ℕ} (numbers : List ℕ) → NeverRise numbers chains
    → all_below numbers (number_at numbers a) (named_in chains a) ≡ true → Reaches chains a b → number_at numbers b < number_at numbers a
falls_first {chains} numbers rise low (names {a = a} {b = b} e) =
    ltb-true (number_at numbers b) (number_at numbers a) (all_at (λ c. nat_lt (number_at numbers c) (number_at numbers a)) (named_in chains a) b low e)
falls_first {chains} numbers rise low (names_first {a = a} {b = b} {c = c} e r) =
    let first : number_at numbers b < number_at numbers a = ltb-true (number_at numbers b) (number_at numbers a) (all_at (λ c. nat_lt (number_at numbers c) (number_at numbers a)) (named_in chains a) b low e) in
    let more : number_at numbers c ≤ number_at numbers b = along numbers rise r in
    omega arith

pub falls : (real : LoopsAreReal) (chains : List Chain) (numbers : List ℕ) (c : ℕ) → NeverRise numbers chains
    → all_below numbers (number_at numbers c) (named_in chains c) ≡ true → false ≡ is_looped chains c
falls real chains numbers c rise low =
    sym (false_from_ne_true (is_looped chains c) (λ looped.
    let less : number_at numbers c < number_at numbers c = falls_first numbers rise low (real chains c looped) in
    omega arith))
