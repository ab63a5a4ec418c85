-- Where the rules of rules begin.
use Rattle.std.proofs.Common.{◌≡◌, ℕ, zero, suc, ◌+◌, ◌≤◌, ◌<◌, Bool, true, nat_lt, nat_le, max, le_refl, List, [], ◌∷◌, ◌++◌, length, drop, append_assoc, length-append, get_or, slice_index, refl, sym, ap, ◌∙◌, arith}
use Rattle.std.proofs.lemmas.Bool.{le-ltb, lt-ltb, cond-true, cond-false, and_parts, leb-true}
use Rattle.std.specs.List.Sorted.{IsNonDecreasingBy}
use Rattle.fws_ifcl.specs.declared.diagram.Rule.{Rule}
use Rattle.fws_ipfw.specs.declared.config.IpfwRule.{IpfwRule}
use Rattle.fws_ipfw.specs.declared.config.IpfwNat.{IpfwNat}
use Rattle.fws_ipfw.specs.Soundness.{are_ordered}
use Rattle.fws_ipfw_ifcl.specs.Blocks.{width, widths, starts_from, place_from, place_behind, skipping_to, block, blocks}
use Rattle.fws_ipfw_ifcl.proofs.Lengths.{block_length}

-- rules below a number, and from there on at least that
abbrev pub Below : ℕ → List IpfwRule → ℕ → Type 0
Below n rules reached = (k : ℕ) (d : IpfwRule) → k < reached → (get_or rules k d).number < n

abbrev pub Above : ℕ → List IpfwRule → ℕ → Type 0
Above n rules reached = (k : ℕ) (d : IpfwRule) → reached ≤ k → k < length rules → n ≤ (get_or rules k d).number

module _ (nats : List IpfwNat) (translated : Bool) (n : ℕ) where
  abbrev starts : ℕ → List IpfwRule → List ℕ
  starts at rules = starts_from nats translated at rules

  -- the first rule begins at the first place
  begins : (at : ℕ) (rules : List IpfwRule) → slice_index (starts at rules) 0 ≡ at
  begins at [] = refl
  begins at (r ∷ rs) = refl

  from_first : (at : ℕ) (rules : List IpfwRule) (reached : ℕ) → reached ≤ length rules → Below n rules reached → Above n rules reached
      → slice_index (starts at rules) reached ≡ place_from nats translated at rules n
  from_first at [] zero le below above = refl
  from_first at [] (suc m) le below above = absurd (omega (arith, le))
  from_first at (r ∷ rs) zero le below above =
      let least : n ≤ r.number = above 0 r (omega arith) (omega arith) in
      sym (cond-false (nat_lt r.number n) _ _ (le-ltb r.number n least))
  from_first at (r ∷ rs) (suc m) le below above =
      let less : r.number < n = below 0 r (omega arith) in
      from_first (at + width nats translated r) rs m (omega (arith, le)) (λ k d lt. below (suc k) d (omega (arith, lt))) (λ k d from lt. above (suc k) d (omega (arith, from)) (omega (arith, lt)))
      ∙ sym (cond-true (nat_lt r.number n) _ _ (lt-ltb r.number n less))

  no_less : (m : ℕ) → max 0 m ≡ m
  no_less m = omega arith

  no_more : (m : ℕ) → max (suc m) 0 ≡ suc (max m 0)
  no_more m = omega arith

  both_more : (m k : ℕ) → max (suc m) (suc k) ≡ suc (max m k)
  both_more m k = omega arith

  pub placed : (at : ℕ) (rules : List IpfwRule) (behind reached : ℕ) → behind ≤ length rules → reached ≤ length rules → Below n rules reached → Above n rules reached
      → slice_index (starts at rules) (max behind reached) ≡ place_from nats translated (slice_index (starts at rules) behind) (drop behind rules) n
  placed at rules zero reached le within below above =
      ap (slice_index (starts at rules)) (no_less reached)
      ∙ from_first at rules reached within below above ∙ ap (λ m. place_from nats translated m rules n) (sym (begins at rules))
  placed at [] (suc b) reached le within below above = absurd (omega (arith, le))
  placed at (r ∷ rs) (suc b) zero le within below above =
      ap (slice_index (starts at (r ∷ rs))) (no_more b)
      ∙ placed (at + width nats translated r) rs b 0 (omega (arith, le)) (omega arith) (λ k d lt. absurd (omega (arith, lt)))
      (λ k d from lt. above (suc k) d (omega arith) (omega (arith, lt)))
  placed at (r ∷ rs) (suc b) (suc m) le within below above =
      ap (slice_index (starts at (r ∷ rs))) (both_more b m)
      ∙ placed (at + width nats translated r) rs b m (omega (arith, le)) (omega (arith, within)) (λ k d lt. below (suc k) d (omega (arith, lt)))
      (λ k d from lt. above (suc k) d (omega (arith, from)) (omega (arith, lt)))

-- there is one place more than there are rules, and the last is behind all of them

pub starts_count : (nats : List IpfwNat) (translated : Bool) (at : ℕ) (rs : List IpfwRule) → length (starts_from nats translated at rs) ≡ length rs + 1
starts_count nats translated at [] = refl
starts_count nats translated at (r ∷ rs) =
    let rest : length (starts_from nats translated (at + width nats translated r) rs) ≡ length rs + 1 = starts_count nats translated (at + width nats translated r) rs in
    omega (arith, rest)

pub starts_last : (nats : List IpfwNat) (translated : Bool) (at : ℕ) (rs : List IpfwRule)
    → slice_index (starts_from nats translated at rs) (length rs) ≡ at + widths nats translated rs
starts_last nats translated at [] = sym (add-zero at)
  where
    add-zero : (n : ℕ) → n + 0 ≡ n
    add-zero n = omega arith
starts_last nats translated at (r ∷ rs) =
    starts_last nats translated (at + width nats translated r) rs ∙ add-assoc at (width nats translated r) (widths nats translated rs)
  where
    add-assoc : (a b c : ℕ) → (a + b) + c ≡ a + (b + c)
    add-assoc a b c = omega arith

-- the next rule begins behind the rules of this one
pub starts_next : (nats : List IpfwNat) (translated : Bool) (at : ℕ) (rs : List IpfwRule) (k : ℕ) (d : IpfwRule) → k < length rs
    → slice_index (starts_from nats translated at rs) (k + 1) ≡ slice_index (starts_from nats translated at rs) k + width nats translated (get_or rs k d)
starts_next nats translated at [] k d lt = absurd (omega (arith, lt))
starts_next nats translated at (r ∷ rs) zero d lt = begins nats translated 0 (at + width nats translated r) rs
starts_next nats translated at (r ∷ rs) (suc k) d lt =
    let starts = starts_from nats translated (at + width nats translated r) rs in
    let more : suc k + 1 ≡ suc (k + 1) = omega arith in
    ap (slice_index (at ∷ starts)) more ∙ starts_next nats translated (at + width nats translated r) rs k d (omega (arith, lt))

drop_here : (rs : List IpfwRule) (k : ℕ) (d : IpfwRule) → k < length rs → drop k rs ≡ get_or rs k d ∷ drop (k + 1) rs
drop_here [] k d lt = absurd (omega (arith, lt))
drop_here (r ∷ rs) zero d lt = refl
drop_here (r ∷ rs) (suc k) d lt =
    let more : suc k + 1 ≡ suc (k + 1) = omega arith in
    drop_here rs k d (omega (arith, lt)) ∙ ap (λ n. get_or rs k d ∷ drop n (r ∷ rs)) (sym more)

drop_past : (rs : List IpfwRule) (k : ℕ) → length rs ≤ k → drop k rs ≡ []
drop_past [] zero le = refl
drop_past [] (suc k) le = refl
drop_past (r ∷ rs) zero le = absurd (omega (arith, le))
drop_past (r ∷ rs) (suc k) le = drop_past rs k (omega (arith, le))

append_nil : {X : Type 0} (xs : List X) → xs ++ [] ≡ xs
append_nil [] = refl
append_nil (x ∷ xs) = ap (λ l. x ∷ l) (append_nil xs)

-- what is put for one rule, and what is left to put then
module _ (nats : List IpfwNat) (one_pass translated : Bool) (ends at other : ℕ) (all : List IpfwRule) where
  abbrev here : ℕ → ℕ
  here k = slice_index (starts_from nats translated at all) k

  abbrev there : ℕ → ℕ
  there k = slice_index (starts_from nats true other all) k

  abbrev pub Left : List Rule → List Rule → ℕ → Type 0
  Left rules whole k = rules ++ blocks nats one_pass translated ends (here k) (there k) (drop k all) ≡ whole

  pub left_first : (rules : List Rule) → Left rules (rules ++ blocks nats one_pass translated ends at other all) 0
  left_first rules =
      ap (λ n. rules ++ blocks nats one_pass translated ends n (there 0) all) (begins nats translated 0 at all)
      ∙ ap (λ n. rules ++ blocks nats one_pass translated ends at n all) (begins nats true 0 other all)

  pub here_first : here 0 ≡ at
  here_first = begins nats translated 0 at all

  pub none_left : (rules whole : List Rule) (k : ℕ) → length all ≤ k → Left rules whole k → rules ≡ whole
  none_left rules whole k past left =
      sym (append_nil rules) ∙ ap (λ l. rules ++ blocks nats one_pass translated ends (here k) (there k) l) (sym (drop_past all k past)) ∙ left

  pub half_step : (rules made whole : List Rule) (k done to : ℕ) (r : IpfwRule) → k < length all → r ≡ get_or all k r
      → done ≡ place_behind one_pass ends (there (k + 1)) → to ≡ skipping_to nats translated (here (k + 1)) (drop (k + 1) all) r.act
      → Left rules whole k → length rules ≡ here k → made ≡ rules ++ block nats translated ends done to (length rules) r
      → Left made whole (k + 1) × (length made ≡ here (k + 1))
  half_step rules made whole k done to r lt item behind skips left long put =
      let rest = drop (k + 1) all in
      let next : here (k + 1) ≡ here k + width nats translated r =
      starts_next nats translated at all k r lt ∙ ap (λ x. here k + width nats translated x) (sym item) in
      let next_there : there (k + 1) ≡ there k + width nats true r =
      starts_next nats true other all k r lt ∙ ap (λ x. there k + width nats true x) (sym item) in
      let list : drop k all ≡ r ∷ rest = drop_here all k r lt ∙ ap (λ x. x ∷ rest) (sym item) in
      let body = block nats translated ends (place_behind one_pass ends (there k + width nats true r)) (skipping_to nats translated (here k + width nats translated r) rest r.act) (here k) r in
      let is : block nats translated ends done to (length rules) r ≡ body =
      ap (λ n. block nats translated ends n to (length rules) r) (behind ∙ ap (place_behind one_pass ends) next_there)
      ∙ ap (λ n. block nats translated ends (place_behind one_pass ends (there k + width nats true r)) n (length rules) r) (skips ∙ ap (λ n. skipping_to nats translated n rest r.act) next)
      ∙ ap (λ n. block nats translated ends (place_behind one_pass ends (there k + width nats true r)) (skipping_to nats translated (here k + width nats translated r) rest r.act) n r) long in
      let all_made : made ≡ rules ++ body = put ∙ ap (λ l. rules ++ l) is in
      let others = blocks nats one_pass translated ends (here k + width nats translated r) (there k + width nats true r) rest in (
        ap (λ n. made ++ blocks nats one_pass translated ends n (there (k + 1)) rest) next
            ∙ ap (λ n. made ++ blocks nats one_pass translated ends (here k + width nats translated r) n rest) next_there
            ∙ ap (λ l. l ++ others) all_made ∙ append_assoc rules body others
            ∙ ap (λ l. rules ++ blocks nats one_pass translated ends (here k) (there k) l) (sym list) ∙ left,
        ap length all_made ∙ length-append rules body ∙ ap (λ n. n + length body) long
            ∙ ap (λ n. here k + n) (block_length nats translated ends _ _ (here k) r) ∙ sym next,
      )

-- the numbers of rules in their order don't fall

is_least : (n : ℕ) (r : IpfwRule) (rs : List IpfwRule) → n ≤ r.number → are_ordered (r ∷ rs) ≡ true → (j : ℕ) (d : IpfwRule) → j < length (r ∷ rs) → n ≤ (get_or (r ∷ rs) j d).number
is_least n r rs le up zero d lt = le
is_least n r [] le up (suc j) d lt = absurd (omega (arith, lt))
is_least n r (s ∷ ss) le up (suc j) d lt =
    let parts = and_parts (nat_le r.number s.number) (are_ordered (s ∷ ss)) up in
    let next : r.number ≤ s.number = leb-true r.number s.number parts.0 in
    is_least n s ss (omega (arith, le, next)) parts.1 j d (omega (arith, lt))

pub never_fall : (rules : List IpfwRule) → are_ordered rules ≡ true → IsNonDecreasingBy (λ (r : IpfwRule). r.number) rules
never_fall [] up i j d le lt = absurd (omega (arith, lt))
never_fall (r ∷ rs) up zero j d le lt = is_least r.number r rs (le_refl r.number) up j d lt
never_fall (r ∷ rs) up (suc i) zero d le lt = absurd (omega (arith, le))
never_fall (r ∷ []) up (suc i) (suc j) d le lt = absurd (omega (arith, lt))
never_fall (r ∷ s ∷ ss) up (suc i) (suc j) d le lt =
    let parts = and_parts (nat_le r.number s.number) (are_ordered (s ∷ ss)) up in
    never_fall (s ∷ ss) parts.1 i j d (omega (arith, le)) (omega (arith, lt))
