-- Numbers that words spell are from 1 to the most.
use Rattle.std.proofs.Common.{◌≡◌, ◌≢◌, ℕ, zero, suc, ◌+◌, ◌≤◌, ◌<◌, max, Bool, true, false, ◌&&◌, cond, nat_eq, nat_lt, nat_le, Some, None, List, length, IfSome, option_and_then, arith, refl}
use Rattle.std.specs.List.{list_all}
use Rattle.std.proofs.lemmas.Bool.{true≢false, and_parts, cond_both, lt-ltb, le-leb, leb-true, leb-false, eqb-false}
use Rattle.fws_num.specs.Numbers.{is_digit, digits_value}
use Rattle.fws_ipfw.specs.Values.{counted}

-- from 1 to the most
abbrev pub Within : ℕ → ℕ → Type 0
Within most n = (nat_lt 0 n ≡ true) × (nat_le n most ≡ true)

positive : (n : ℕ) → nat_eq n 0 ≡ false → nat_lt 0 n ≡ true
positive zero e = absurd (true≢false e)
positive (suc n) e = lt-ltb 0 (suc n) (omega arith)

spelled_within : (b : Bool) (most n : ℕ) → (b ≡ true → nat_le n most ≡ true)
    → IfSome (option_and_then (λ v. cond (nat_eq v 0) None (Some v)) (cond b (Some n) None)) (Within most)
spelled_within true most n h = cond_both (nat_eq n 0) None (Some n) (λ o. IfSome o (Within most)) (λ e. tt) (λ e. (positive n e, h refl))
spelled_within false most n h = tt

pub counted_within : (most : ℕ) (text : List ℕ) → IfSome (counted most text) (Within most)
counted_within most text =
    spelled_within (list_all is_digit text && nat_le 1 (length text) && nat_le (length text) 20 && nat_le (digits_value text) most) most (digits_value text)
    (λ e. (and_parts (list_all is_digit text && nat_le 1 (length text) && nat_le (length text) 20) (nat_le (digits_value text) most) e).1)

-- a number that isn't the most is at most the one before
pub below_most : (n most less : ℕ) → most ≡ less + 1 → nat_le n most ≡ true → nat_eq n most ≡ false → nat_le n less ≡ true
below_most n most less e h k =
    let low : n ≤ most = leb-true n most h in
    let other : n ≢ most = eqb-false n most k in
    le-leb n less (omega arith)

pub greater_within : (a b most : ℕ) → nat_le a most ≡ true → nat_le b most ≡ true → nat_le (max a b) most ≡ true
greater_within a b most h k =
    let first : a ≤ most = leb-true a most h in
    let other : b ≤ most = leb-true b most k in
    le-leb (max a b) most (omega arith)

-- the number of a rule that has none
pub next_within : (greatest step most more : ℕ) → 0 < step → step ≤ most → most ≤ more → nat_le greatest most ≡ true
    → Within more (cond (nat_le (greatest + step) most) (greatest + step) greatest)
next_within greatest step most more up low high h =
    let now : greatest ≤ most = leb-true greatest most h in
    cond_both (nat_le (greatest + step) most) (greatest + step) greatest (Within more)
    (λ e.
    let next : greatest + step ≤ most = leb-true (greatest + step) most e in
    (lt-ltb 0 (greatest + step) (omega arith), le-leb (greatest + step) more (omega arith)))
    (λ e.
    let past : most < greatest + step = leb-false (greatest + step) most e in
    (lt-ltb 0 greatest (omega arith), le-leb greatest more (omega arith)))
