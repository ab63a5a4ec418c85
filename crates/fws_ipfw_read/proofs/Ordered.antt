-- The rules by their numbers: what is sorted by them, and keeps equal ones in their order, is one list.
use Rattle.std.proofs.Common.{◌≡◌, ℕ, suc, ◌≤◌, ◌<◌, Bool, true, false, not, ◌&&◌, List, [], ◌∷◌, length, get_or, cond, filter, nat_eq, nat_le, nat_cmp, is_lt, IsSortedByKey, le_refl, refl, sym, ap, ◌∙◌, true≢false, arith}
use Rattle.std.proofs.lemmas.Bool.{cond_both}
use Rattle.std.proofs.lemmas.Bool.Decides.{nat_tests}
use Rattle.std.proofs.lemmas.List.Sorted.{IsNonDecreasingBy-from_sort}
use Rattle.std.specs.Bool.{⊤}
use Rattle.std.specs.List.Sorted.{IsNonDecreasingBy, IsStableByKey}
use Rattle.fws_ipfw.specs.declared.config.IpfwRule.{IpfwRule}
use Rattle.fws_ipfw.specs.FileText.{ahead, by_number}

-- the other rule has the number of this one
abbrev pub same : IpfwRule → IpfwRule → Bool
same r s = nat_eq r.number s.number

abbrev pub number_of : IpfwRule → ℕ
number_of r = r.number

-- no rule has a lesser number
abbrev AtLeast : ℕ → List IpfwRule → Type 0
AtLeast n [] = ⊤
AtLeast n (r ∷ rs) = (n ≤ r.number) × AtLeast n rs

-- the numbers don't fall
abbrev Up : List IpfwRule → Type 0
Up [] = ⊤
Up (r ∷ rs) = AtLeast r.number rs × Up rs

-- One list

apart : (a b : ℕ) → a < b → nat_eq a b ≡ false
apart a b p = grind (arith, nat_tests)

alike : (a b : ℕ) → a ≡ b → nat_eq a b ≡ true
alike a b p = grind (arith, nat_tests)

none_below : (r : IpfwRule) (n : ℕ) (rs : List IpfwRule) → r.number < n → AtLeast n rs → filter (same r) rs ≡ []
none_below r n [] p h = refl
none_below r n (s ∷ ss) p h =
    let less : r.number < s.number = omega arith in
    ap (λ b. cond b (s ∷ filter (same r) ss) (filter (same r) ss)) (apart r.number s.number less) ∙ none_below r n ss p h.1

here : (r s : IpfwRule) (rs : List IpfwRule) → r.number ≡ s.number → filter (same r) (s ∷ rs) ≡ s ∷ filter (same r) rs
here r s rs e = ap (λ b. cond b (s ∷ filter (same r) rs) (filter (same r) rs)) (alike r.number s.number e)

not_less : (r s : IpfwRule) (rs ss : List IpfwRule) → filter (same r) (r ∷ rs) ≡ filter (same r) (s ∷ ss) → AtLeast s.number ss → r.number < s.number → ⊥
not_less r s rs ss h v p =
    let whole : AtLeast s.number (s ∷ ss) = (le_refl s.number, v) in
    let e : r ∷ filter (same r) rs ≡ [] = sym (here r r rs refl) ∙ h ∙ none_below r s.number (s ∷ ss) p whole in
    cc

neither : (a b : ℕ) → (a < b → ⊥) → (b < a → ⊥) → a ≡ b
neither a b p q = omega arith

behind : (b c : Bool) (r s : IpfwRule) (rs ss : List IpfwRule) → b ≡ c → cond b (r ∷ rs) rs ≡ cond c (s ∷ ss) ss → rs ≡ ss
behind true true r s rs ss e h = cc
behind false false r s rs ss e h = h
behind true false r s rs ss e h = absurd (true≢false e)
behind false true r s rs ss e h = absurd (true≢false (sym e))

one_list : (rs ss : List IpfwRule) → Up rs → Up ss → ((r : IpfwRule) → filter (same r) rs ≡ filter (same r) ss) → rs ≡ ss
one_list [] [] u v h = refl
one_list [] (s ∷ ss) u v h = let e : [] ≡ s ∷ filter (same s) ss = h s ∙ here s s ss refl in cc
one_list (r ∷ rs) [] u v h = let e : r ∷ filter (same r) rs ≡ [] = sym (here r r rs refl) ∙ h r in cc
one_list (r ∷ rs) (s ∷ ss) u v h =
    let e : r.number ≡ s.number = neither r.number s.number (not_less r s rs ss (h r) v.0) (not_less s r ss rs (sym (h s)) u.0) in
    let heads : r ∷ filter (same r) rs ≡ s ∷ filter (same r) ss = sym (here r r rs refl) ∙ h r ∙ here r s ss e in
    let first : r ≡ s = cc in
    let others : rs ≡ ss = one_list rs ss u.1 v.1 (λ t. behind (same t r) (same t s) r s (filter (same t) rs) (filter (same t) ss) (ap (nat_eq t.number) e) (h t)) in
    cc

-- What `by_number` gives

lower : (m n : ℕ) (rs : List IpfwRule) → m ≤ n → AtLeast n rs → AtLeast m rs
lower m n [] p h = h
lower m n (r ∷ rs) p h = let le : m ≤ r.number = omega arith in (le, lower m n rs p h.1)

le_yes : (a b : ℕ) → nat_le a b ≡ true → a ≤ b
le_yes a b e = grind (arith, nat_tests)

le_no : (a b : ℕ) → nat_le a b ≡ false → b < a
le_no a b e = grind (arith, nat_tests)

least_ahead : (n : ℕ) (r : IpfwRule) (rs : List IpfwRule) → n ≤ r.number → AtLeast n rs → AtLeast n (ahead r rs)
least_ahead n r [] p h = (p, h)
least_ahead n r (s ∷ ss) p h =
    cond_both (nat_le r.number s.number) (r ∷ s ∷ ss) (s ∷ ahead r ss) (AtLeast n) (λ e. (p, h)) (λ e. (h.0, least_ahead n r ss p h.1))

up_ahead : (r : IpfwRule) (rs : List IpfwRule) → Up rs → Up (ahead r rs)
up_ahead r [] u = (u, u)
up_ahead r (s ∷ ss) u =
    cond_both (nat_le r.number s.number) (r ∷ s ∷ ss) (s ∷ ahead r ss) Up
    (λ e. ((le_yes r.number s.number e, lower r.number s.number ss (le_yes r.number s.number e) u.0), u))
    (λ e. let le : s.number ≤ r.number = omega (arith, le_no r.number s.number e) in (least_ahead s.number r ss le u.0, up_ahead r ss u.1))

up_by_number : (rs : List IpfwRule) → Up (by_number rs)
up_by_number [] = tt
up_by_number (r ∷ rs) = up_ahead r (by_number rs) (up_by_number rs)

not_both : (n a b : ℕ) → b < a → (nat_eq n a && nat_eq n b) ≡ false
not_both n a b p = grind (arith, nat_tests)

exchanged : (a b : Bool) (r s : IpfwRule) (rs ss : List IpfwRule) → (a && b) ≡ false → ss ≡ cond a (r ∷ rs) rs →
    cond b (s ∷ ss) ss ≡ cond a (r ∷ cond b (s ∷ rs) rs) (cond b (s ∷ rs) rs)
exchanged true true r s rs ss e h = absurd (true≢false e)
exchanged true false r s rs ss e h = h
exchanged false true r s rs ss e h = ap (λ l. s ∷ l) h
exchanged false false r s rs ss e h = h

same_ahead : (t r : IpfwRule) (rs : List IpfwRule) → filter (same t) (ahead r rs) ≡ filter (same t) (r ∷ rs)
same_ahead t r [] = refl
same_ahead t r (s ∷ ss) =
    cond_both (nat_le r.number s.number) (r ∷ s ∷ ss) (s ∷ ahead r ss) (λ l. filter (same t) l ≡ filter (same t) (r ∷ s ∷ ss)) (λ e. refl)
    (λ e. exchanged (same t r) (same t s) r s (filter (same t) ss) (filter (same t) (ahead r ss))
    (not_both t.number r.number s.number (le_no r.number s.number e)) (same_ahead t r ss))

same_by_number : (t : IpfwRule) (rs : List IpfwRule) → filter (same t) (by_number rs) ≡ filter (same t) rs
same_by_number t [] = refl
same_by_number t (r ∷ rs) = same_ahead t r (by_number rs) ∙ ap (λ l. cond (same t r) (r ∷ l) l) (same_by_number t rs)

-- What a stable sort gives

at_least : (n : ℕ) (rs : List IpfwRule) → ((k : ℕ) (d : IpfwRule) → k < length rs → n ≤ (get_or rs k d).number) → AtLeast n rs
at_least n [] h = tt
at_least n (r ∷ rs) h = (h 0 r (omega arith), at_least n rs (λ k d p. h (suc k) d (omega arith)))

up_sorted : (rs : List IpfwRule) → IsNonDecreasingBy number_of rs → Up rs
up_sorted [] h = tt
up_sorted (r ∷ rs) h =
    (at_least r.number rs (λ k d p. h 0 (suc k) d (omega arith) (omega arith)), up_sorted rs (λ i j d p q. h (suc i) (suc j) d (omega arith) (omega arith)))

tied : (a b : ℕ) → (not (is_lt (nat_cmp a b)) && not (is_lt (nat_cmp b a))) ≡ nat_eq a b
tied a b = grind (arith, nat_tests)

-- the rules that tie with this one are those with its number
tied_rules : (r : IpfwRule) (rs : List IpfwRule) →
    filter (λ s. not (is_lt (nat_cmp r.number s.number)) && not (is_lt (nat_cmp s.number r.number))) rs ≡ filter (same r) rs
tied_rules r rs = λ i. filter (λ s. tied r.number s.number i) rs

-- what is sorted by numbers, and keeps the order of equal ones
pub sorted_is : (rs sorted : List IpfwRule) → IsSortedByKey number_of nat_cmp sorted → IsStableByKey number_of nat_cmp rs sorted → sorted ≡ by_number rs
sorted_is rs sorted up stable =
    one_list sorted (by_number rs) (up_sorted sorted (IsNonDecreasingBy-from_sort number_of sorted up)) (up_by_number rs)
    (λ r. sym (tied_rules r sorted) ∙ stable r ∙ tied_rules r rs ∙ sym (same_by_number r rs))
