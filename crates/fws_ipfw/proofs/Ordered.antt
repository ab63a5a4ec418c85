-- Rules are put by their numbers.
use Rattle.std.proofs.Common.{◌≡◌, Bool, true, nat_le, List, [], ◌∷◌, arith, refl}
use Rattle.std.specs.List.{list_all}
use Rattle.std.proofs.lemmas.Bool.{and_parts, and_from, cond_both, le-leb, leb-false}
use Rattle.fws_ipfw.specs.declared.config.IpfwRule.{IpfwRule}
use Rattle.fws_ipfw.specs.FileText.{ahead, by_number}
use Rattle.fws_ipfw.specs.Soundness.{is_ahead, are_ordered}

-- a rule that isn't greater than another stays ahead where that one is put in
stays_ahead : (s r : IpfwRule) (rs : List IpfwRule) → nat_le s.number r.number ≡ true → is_ahead s rs ≡ true → is_ahead s (ahead r rs) ≡ true
stays_ahead s r [] h k = h
stays_ahead s r (t ∷ ts) h k = cond_both (nat_le r.number t.number) (r ∷ t ∷ ts) (t ∷ ahead r ts) (λ rs. is_ahead s rs ≡ true) (λ e. h) (λ e. k)

ordered_ahead : (r : IpfwRule) (rs : List IpfwRule) → are_ordered rs ≡ true → are_ordered (ahead r rs) ≡ true
ordered_ahead r [] h = refl
ordered_ahead r (s ∷ ss) h =
    cond_both (nat_le r.number s.number) (r ∷ s ∷ ss) (s ∷ ahead r ss) (λ rs. are_ordered rs ≡ true) (λ e. and_from (nat_le r.number s.number) (are_ordered (s ∷ ss)) e h)
    (λ e.
    let both = and_parts (is_ahead s ss) (are_ordered ss) h in
    let below : nat_le s.number r.number ≡ true = le-leb s.number r.number (omega (arith, leb-false r.number s.number e)) in
    and_from (is_ahead s (ahead r ss)) (are_ordered (ahead r ss)) (stays_ahead s r ss below both.0) (ordered_ahead r ss both.1))

pub are_put_ordered : (rs : List IpfwRule) → are_ordered (by_number rs) ≡ true
are_put_ordered [] = refl
are_put_ordered (r ∷ rs) = ordered_ahead r (by_number rs) (are_put_ordered rs)

-- what holds of all rules holds of them by their numbers

all_ahead : (test : IpfwRule → Bool) (r : IpfwRule) (rs : List IpfwRule) → test r ≡ true → list_all test rs ≡ true → list_all test (ahead r rs) ≡ true
all_ahead test r [] h all = and_from (test r) true h refl
all_ahead test r (s ∷ ss) h all =
    cond_both (nat_le r.number s.number) (r ∷ s ∷ ss) (s ∷ ahead r ss) (λ rs. list_all test rs ≡ true) (λ e. and_from (test r) (list_all test (s ∷ ss)) h all)
    (λ e. let both = and_parts (test s) (list_all test ss) all in and_from (test s) (list_all test (ahead r ss)) both.0 (all_ahead test r ss h both.1))

pub all_put : (test : IpfwRule → Bool) (rs : List IpfwRule) → list_all test rs ≡ true → list_all test (by_number rs) ≡ true
all_put test [] all = refl
all_put test (r ∷ rs) all =
    let both = and_parts (test r) (list_all test rs) all in
    all_ahead test r (by_number rs) both.0 (all_put test rs both.1)
