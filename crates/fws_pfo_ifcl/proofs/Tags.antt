-- Which tags a packet has when tags are added and taken away.
use Rattle.std.proofs.Common.{◌≡◌, ◌≢◌, ℕ, zero, suc, ◌+◌, ◌-◌, ◌<◌, ◌≤◌, Bool, true, false, cond, ◌&&◌, ◌||◌, not, nat_eq, List, [], ◌∷◌, ◌++◌, arith, refl, sym, ap, ◌∙◌, append_assoc, inl, inr}
use Rattle.std.specs.List.{list_any, list_all, filter}
use Rattle.std.proofs.lemmas.Bool.{cases_Bool, cases_lt, cond-true, cond-false, eqb-true, eq-eqb, ne_eqb}
use Rattle.std.proofs.lemmas.List.Folds.{list_any-append}
use Rattle.std.proofs.lemmas.Map.Views.{any-filter_same}
use Rattle.fws_net.specs.declared.transit.Transit.{Transit}
use Rattle.fws_net.specs.Transits.{has_tag, with_tag}
use Rattle.fws_ifcl.specs.declared.diagram.Act.{Act}
use Rattle.fws_ifcl.specs.declared.diagram.Act.TheVariants as acts
use Rattle.fws_pfo_ifcl.specs.Blocks.{without_other, without_others}
use Rattle.fws_pfo_ifcl.specs.Held.{bits_of, telling}

or_false : (x : Bool) → (x || false) ≡ x
or_false true = refl
or_false false = refl

or_true : (x : Bool) → (x || true) ≡ true
or_true true = refl
or_true false = refl

nothing_gained : (x b : Bool) → (b ≡ true → x ≡ true) → x ≡ (x || b)
nothing_gained true b h = refl
nothing_gained false true h = h refl
nothing_gained false false h = refl

-- Tags

abbrev pub has : ℕ → List ℕ → Bool
has m tags = list_any (nat_eq m) tags

abbrev pub added : ℕ → List ℕ → List ℕ
added n tags = cond (has n tags) tags (tags ++ n ∷ [])

abbrev pub taken : ℕ → List ℕ → List ℕ
taken n tags = filter (λ tag. not (nat_eq n tag)) tags

pub with_tag_is : (n : ℕ) (t : Transit) → with_tag n t ≡ record t { tags = added n t.tags }
with_tag_is n t = by (has_tag n t)
  where
    by : (b : Bool) → cond b t (record t { tags = t.tags ++ n ∷ [] }) ≡ record t { tags = cond b t.tags (t.tags ++ n ∷ []) }
    by true = refl
    by false = refl

pub has_added : (m n : ℕ) (tags : List ℕ) → has m (added n tags) ≡ (has m tags || nat_eq m n)
has_added m n tags = elim (cases_Bool (has n tags)) [
  | inl e ↦ ap (has m) (cond-true (has n tags) tags (tags ++ n ∷ []) e)
      ∙ nothing_gained (has m tags) (nat_eq m n) (λ h. ap (λ j. has j tags) (eqb-true m n h) ∙ e)
  | inr e ↦ ap (has m) (cond-false (has n tags) tags (tags ++ n ∷ []) e)
      ∙ list_any-append (nat_eq m) tags (n ∷ []) ∙ ap (λ b. has m tags || b) (or_false (nat_eq m n))
]

pub has_taken : (m n : ℕ) (tags : List ℕ) → has m (taken n tags) ≡ (not (nat_eq n m) && has m tags)
has_taken m n tags = any-filter_same (nat_eq m) (λ tag. not (nat_eq n tag)) (not (nat_eq n m)) (λ j e. ap (λ i. not (nat_eq n i)) (sym (eqb-true m j e))) tags

-- a tag that is added is there, and one that is taken away isn't
pub added_there : (n : ℕ) (tags : List ℕ) → has n (added n tags) ≡ true
added_there n tags = has_added n n tags ∙ ap (λ b. has n tags || b) (eq-eqb n n refl) ∙ or_true (has n tags)

pub taken_gone : (n : ℕ) (tags : List ℕ) → has n (taken n tags) ≡ false
taken_gone n tags = has_taken n n tags ∙ ap (λ b. not b && has n tags) (eq-eqb n n refl)

-- all others stay
pub added_others : (m n : ℕ) → m ≢ n → (tags : List ℕ) → has m (added n tags) ≡ has m tags
added_others m n apart tags = has_added m n tags ∙ ap (λ b. has m tags || b) (ne_eqb m n apart) ∙ or_false (has m tags)

pub taken_others : (m n : ℕ) → m ≢ n → (tags : List ℕ) → has m (taken n tags) ≡ has m tags
taken_others m n apart tags = has_taken m n tags ∙ ap (λ b. not b && has m tags) (ne_eqb n m (λ e. apart (sym e)))

-- Acts on tags alone

abbrev pub is_tagging : Act → Bool
is_tagging (acts.AddTag n) = true
is_tagging (acts.OnlyTag n) = true
is_tagging (acts.DelTag n) = true
is_tagging _ = false

abbrev pub retagged : Act → List ℕ → List ℕ
retagged (acts.AddTag n) tags = added n tags
retagged (acts.OnlyTag n) tags = n ∷ []
retagged (acts.DelTag n) tags = taken n tags
retagged _ tags = tags

abbrev pub tags_behind : List Act → List ℕ → List ℕ
tags_behind [] tags = tags
tags_behind (act ∷ more) tags = tags_behind more (retagged act tags)

pub tags_append : (xs ys : List Act) (tags : List ℕ) → tags_behind (xs ++ ys) tags ≡ tags_behind ys (tags_behind xs tags)
tags_append [] ys tags = refl
tags_append (x ∷ xs) ys tags = tags_append xs ys (retagged x tags)

-- Tags that tell bits

-- tags, of which the first has this number, tell these bits
abbrev pub Tells : ℕ → List Bool → List ℕ → Type 0
Tells tag [] tags = Unit {0}
Tells tag (b ∷ bits) tags = (has tag tags ≡ b) × Tells (suc tag) bits tags

-- so do other tags that have the same from there on
pub tells_same : (tag : ℕ) (bits : List Bool) (xs ys : List ℕ) → ((m : ℕ) → tag ≤ m → has m ys ≡ has m xs) → Tells tag bits xs → Tells tag bits ys
tells_same tag [] xs ys same h = tt
tells_same tag (b ∷ bits) xs ys same h =
    (same tag (omega arith) ∙ h.0, tells_same (suc tag) bits xs ys (λ m le. same m (omega (arith, le))) h.1)

-- one tag is put as it tells a bit
put_bit : (tag : ℕ) (b : Bool) (tags : List ℕ) → has tag (retagged (cond b (acts.AddTag tag) (acts.DelTag tag)) tags) ≡ b
put_bit tag true tags = added_there tag tags
put_bit tag false tags = taken_gone tag tags

put_others : (tag m : ℕ) (b : Bool) → m ≢ tag → (tags : List ℕ) → has m (retagged (cond b (acts.AddTag tag) (acts.DelTag tag)) tags) ≡ has m tags
put_others tag m true apart tags = added_others m tag apart tags
put_others tag m false apart tags = taken_others m tag apart tags

-- acts that make tags tell bits leave those below as they are
pub telling_below : (tag : ℕ) (bits : List Bool) (tags : List ℕ) (m : ℕ) → m < tag → has m (tags_behind (telling tag bits) tags) ≡ has m tags
telling_below tag [] tags m lt = refl
telling_below tag (b ∷ bits) tags m lt =
    telling_below (suc tag) bits (retagged (cond b (acts.AddTag tag) (acts.DelTag tag)) tags) m (omega (arith, lt))
    ∙ put_others tag m b (λ e. below e) tags
  where
    below : m ≡ tag → ⊥
    below e = omega (arith, lt, e)

-- and make them tell these
pub telling_tells : (tag : ℕ) (bits : List Bool) (tags : List ℕ) → Tells tag bits (tags_behind (telling tag bits) tags)
telling_tells tag [] tags = tt
telling_tells tag (b ∷ bits) tags =
    let after = retagged (cond b (acts.AddTag tag) (acts.DelTag tag)) tags in
    (telling_below (suc tag) bits after tag (omega arith) ∙ put_bit tag b tags, telling_tells (suc tag) bits after)

pub telling_tags : (tag : ℕ) (bits : List Bool) → list_all is_tagging (telling tag bits) ≡ true
telling_tags tag [] = refl
telling_tags tag (true ∷ bits) = telling_tags (suc tag) bits
telling_tags tag (false ∷ bits) = telling_tags (suc tag) bits

-- No bits

-- the bits of 0, of which none is told where no tag is from there on
none_half : (w tag : ℕ) (tags : List ℕ) → ((m : ℕ) → tag ≤ m → has m tags ≡ false) → Tells tag (bits_of w 0) tags
none_half zero tag tags none = tt
none_half (suc w) tag tags none = (none tag (omega arith), none_half w (suc tag) tags (λ m le. none m (omega (arith, le))))

pub tells_none : (w tag : ℕ) (tags : List ℕ) → ((m : ℕ) → tag ≤ m → has m tags ≡ false) → Tells tag (bits_of w 0) tags
tells_none w tag tags none = none_half w tag tags none

-- fewer bits of 0 are told too
pub tells_fewer : (w more tag : ℕ) (tags : List ℕ) → w ≤ more → Tells tag (bits_of more 0) tags → Tells tag (bits_of w 0) tags
tells_fewer zero more tag tags le h = tt
tells_fewer (suc w) zero tag tags le h = absurd (impossible le)
  where
    impossible : suc w ≤ 0 → ⊥
    impossible few = omega (arith, few)
tells_fewer (suc w) (suc more) tag tags le h = (h.0, tells_fewer w more (suc tag) tags (omega (arith, le)) h.1)

-- The one tag of a name

-- one more may be taken away ahead of others
either_list : (b : Bool) (first : ℕ) (rest : List Act) (tags : List ℕ) (m : ℕ) (x : Bool) → has m (tags_behind rest tags) ≡ x
    → has m (tags_behind rest (taken first tags)) ≡ x → has m (tags_behind (cond b [] (acts.DelTag first ∷ []) ++ rest) tags) ≡ x
either_list true first rest tags m x kept gone = kept
either_list false first rest tags m x kept gone = gone

-- where all other names' tags from one on are taken away
pub others_below : (n first count : ℕ) (tags : List ℕ) (m : ℕ) → m < first → has m (tags_behind (without_others n first count) tags) ≡ has m tags
others_below n first zero tags m lt = refl
others_below n first (suc count) tags m lt =
    either_list (nat_eq n first) first (without_others n (suc first) count) tags m (has m tags) (others_below n (suc first) count tags m (omega (arith, lt)))
    (others_below n (suc first) count (taken first tags) m (omega (arith, lt)) ∙ taken_others m first (λ e. apart e) tags)
  where
    apart : m ≡ first → ⊥
    apart e = omega (arith, lt, e)

pub others_above : (n first count : ℕ) (tags : List ℕ) (m : ℕ) → first + count ≤ m → has m (tags_behind (without_others n first count) tags) ≡ has m tags
others_above n first zero tags m le = refl
others_above n first (suc count) tags m le =
    either_list (nat_eq n first) first (without_others n (suc first) count) tags m (has m tags) (others_above n (suc first) count tags m (omega (arith, le)))
    (others_above n (suc first) count (taken first tags) m (omega (arith, le)) ∙ taken_others m first (λ e. apart e) tags)
  where
    apart : m ≡ first → ⊥
    apart e = omega (arith, le, e)

-- none is left but the one
gone_here : (n first count : ℕ) (tags : List ℕ) (m : ℕ) → m ≡ first → m ≢ n → has m (tags_behind (without_others n first (suc count)) tags) ≡ false
gone_here n first count tags m is apart =
    ap (λ b. has m (tags_behind (cond b [] (acts.DelTag first ∷ []) ++ without_others n (suc first) count) tags)) (ne_eqb n first (λ e. apart (is ∙ sym e)))
    ∙ others_below n (suc first) count (taken first tags) m (omega (arith, is))
    ∙ ap (λ k. has k (taken first tags)) is ∙ taken_gone first tags

pub others_gone : (n first count : ℕ) (tags : List ℕ) (m : ℕ) → first ≤ m → m < first + count → m ≢ n → has m (tags_behind (without_others n first count) tags) ≡ false
others_gone n first zero tags m le lt apart = absurd (impossible lt)
  where
    impossible : m < first + 0 → ⊥
    impossible low = omega (arith, low, le)
others_gone n first (suc count) tags m le lt apart = elim (cases_lt first m) [
  | inl far ↦ either_list (nat_eq n first) first (without_others n (suc first) count) tags m false
      (others_gone n (suc first) count tags m (omega (arith, far)) (omega (arith, lt)) apart)
      (others_gone n (suc first) count (taken first tags) m (omega (arith, far)) (omega (arith, lt)) apart)
  | inr near ↦ gone_here n first count tags m (omega (arith, le, near)) apart
]

either_tags : (b : Bool) (first : ℕ) (rest : List Act) → list_all is_tagging rest ≡ true → list_all is_tagging (cond b [] (acts.DelTag first ∷ []) ++ rest) ≡ true
either_tags true first rest all = all
either_tags false first rest all = all

pub others_tags : (n first count : ℕ) → list_all is_tagging (without_others n first count) ≡ true
others_tags n first zero = refl
others_tags n first (suc count) = either_tags (nat_eq n first) first (without_others n (suc first) count) (others_tags n (suc first) count)

-- they are put one by one
pub others_put : (n count i : ℕ) (list after all : List Act) → i < count → after ≡ list ++ without_other n i → list ++ without_others n i (count - i) ≡ all
    → after ++ without_others n (i + 1) (count - (i + 1)) ≡ all
others_put n count i list after all lt put inv =
    let less : count - i ≡ suc (count - (i + 1)) = omega (arith, lt) in
    let next : i + 1 ≡ suc i = omega arith in
    ap (λ j. after ++ without_others n j (count - (i + 1))) next
    ∙ ap (λ l. l ++ without_others n (suc i) (count - (i + 1))) put
    ∙ append_assoc list (without_other n i) (without_others n (suc i) (count - (i + 1)))
    ∙ ap (λ k. list ++ without_others n i k) (sym less)
    ∙ inv
