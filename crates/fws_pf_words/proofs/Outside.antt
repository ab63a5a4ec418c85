-- The ports outside of a range.
use Rattle.std.proofs.Common.{◌≡◌, ℕ, ◌+◌, ◌-◌, ◌≤◌, ◌<◌, Bool, true, false, nat_lt, List, ◌++◌, refl, ap, sym, ◌∙◌, arith}
use Rattle.std.proofs.lemmas.Bool.Decides.{nat_tests}
use Rattle.std.proofs.lemmas.List.{append-nil}
use Rattle.fws_iv.specs.declared.iv.Iv.{Iv}
use Rattle.fws_iv.specs.Ivs.{with_range}
use Rattle.fws_pf.specs.Values.{from_below}

both : (p : Bool) (a b : ℕ) → nat_lt 0 a ≡ p → a ≤ b → b < 65535 → with_range (b + 1) 65535 (from_below 0 a) ≡ from_below 0 a ++ from_below (b + 1) 65536
both true a b e h k =
    let last : nat_lt (b + 1) 65536 ≡ true = grind (arith, nat_tests) in
    let apart : nat_lt (a - 1 + 1) (b + 1) ≡ true = grind (arith, nat_tests) in
    rw (e, last, apart) refl
both false a b e h k =
    let last : nat_lt (b + 1) 65536 ≡ true = grind (arith, nat_tests) in
    rw (e, last) refl

pub outside_both : (a b : ℕ) (below set : List Iv) → a ≤ b → b < 65535 → below ≡ from_below 0 a → set ≡ with_range (b + 1) 65535 below →
    set ≡ from_below 0 a ++ from_below (b + 1) 65536
outside_both a b below set h k e f = f ∙ ap (with_range (b + 1) 65535) e ∙ both (nat_lt 0 a) a b refl h k

pub outside_below : (a b : ℕ) (below : List Iv) → b ≡ 65535 → below ≡ from_below 0 a → below ≡ from_below 0 a ++ from_below (b + 1) 65536
outside_below a b below e f = f ∙ rw e (sym (append-nil (from_below 0 a)))
