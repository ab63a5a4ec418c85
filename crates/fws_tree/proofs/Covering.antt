-- Masks and the bits that they cover.
use Rattle.std.proofs.Common.{◌≡◌, ℕ, zero, suc, ◌+◌, ◌-◌, ◌^◌, ◌<◌, ◌≤◌, min, max, List, [], ◌∷◌, ◌++◌, length, get_or, take, inl, inr, refl, sym, ◌∙◌, ap, subst, arith, All, bit_and, bit_or, length-append}
use Rattle.std.proofs.lemmas.Bool.{cases_order}
use Rattle.std.proofs.lemmas.Grind.{common_steps}
use Rattle.std.specs.Int.{bit_at}
use Rattle.std.proofs.lemmas.Nat.Bits.{bit_at-zero, bit_at_and, bit_at_or, bit_at_ones, bit_at_above, bit_at-lt, same_from_bits}
use Rattle.fws_tree.specs.declared.store.Step.{Step}
use Rattle.fws_tree.specs.declared.store.Cell.{Cell}
use Rattle.fws_tree.specs.Building.{Extends}
use Rattle.fws_tree.specs.Bits.{bits_in, Covers, AreMasks}
use Rattle.std.proofs.Common.{Some, slice_get}
use Rattle.std.proofs.lemmas.List.{take_more}
use Rattle.std.proofs.lemmas.List.Elements.{All-push}
use Rattle.fws_tree.specs.declared.store.Cell.TheVariants.{Leaf, Cut}
use Rattle.fws_tree.specs.Held.{child_at, held_at, AreOrderedFrom, IsCellBelow}
use Rattle.fws_tree.proofs.Cells.{child_has, held_cell, cell_below, held-extends, length-extends}

-- no bit is common where none is common with a number that has more bits
bits_case : (a b w x y : ℕ) → a < 2 → b < 2 → w < 2 → x ≡ min a w → y ≡ min b w → x ≡ 0 → (a ≡ 0 → b ≡ 0) → y ≡ 0
bits_case zero b w x y la lb lw ex ey none less = let z : b ≡ 0 = less refl in omega arith
bits_case (suc a) b w x y la lb lw ex ey none less = omega arith

more_bits : (a b : ℕ) → ((i : ℕ) → bit_at a i ≡ 0 → bit_at b i ≡ 0) → Covers a b
more_bits a b less w none = same_from_bits (bit_and b w) 0 (λ i.
    let e : bit_at (bit_and a w) i ≡ 0 = ap (λ n. bit_at n i) none ∙ bit_at-zero i in
    bits_case (bit_at a i) (bit_at b i) (bit_at w i) (bit_at (bit_and a w) i) (bit_at (bit_and b w) i) (bit_at-lt a i) (bit_at-lt b i) (bit_at-lt w i) (bit_at_and a w i) (bit_at_and b w i) e (less i) ∙ sym (bit_at-zero i))

max_left : (m a b : ℕ) → m ≡ max a b → m ≡ 0 → a ≡ 0
max_left m a b e z = omega arith

max_right : (m a b : ℕ) → m ≡ max a b → m ≡ 0 → b ≡ 0
max_right m a b e z = omega arith

pub or_left : (a b : ℕ) → Covers (bit_or a b) a
or_left a b = more_bits (bit_or a b) a (λ i z. max_left (bit_at (bit_or a b) i) (bit_at a i) (bit_at b i) (bit_at_or a b i) z)

pub or_right : (a b : ℕ) → Covers (bit_or a b) b
or_right a b = more_bits (bit_or a b) b (λ i z. max_right (bit_at (bit_or a b) i) (bit_at a i) (bit_at b i) (bit_at_or a b i) z)

one_not_zero : (n : ℕ) → n ≡ 1 → n ≡ 0 → ⊥
one_not_zero n e z = omega arith

-- all 64 bits cover those of each number that has no others
all_bits : (b : ℕ) → b < 2 ^ 64 → Covers (2 ^ 64 - 1) b
all_bits b lt = more_bits (2 ^ 64 - 1) b (λ i z. elim (cases_order i 64) [
  | inl e ↦ bit_at_above b 64 i lt (let l : 64 ≤ i = omega arith in l)
  | inr d ↦ elim d [
    | inl below ↦ absurd (one_not_zero (bit_at (2 ^ 64 - 1) i) (bit_at_ones 64 i below) z)
    | inr above ↦ bit_at_above b 64 i lt (let l : 64 ≤ i = omega arith in l)
  ]
])

pub Covers-trans : (a b c : ℕ) → Covers a b → Covers b c → Covers a c
Covers-trans a b c x y w h = y w (x w h)

-- what was covered is covered when values are added
covers-extends : (old new : List ℕ) (mask n : ℕ) → Extends old new → All (λ b. b < 2 ^ 64) new → Covers mask (bits_in old n) → Covers mask (bits_in new n)
covers-extends old new mask n e bounded covers = elim (cases_order n (length old)) [
  | inl at ↦ past (let l : length old ≤ n = omega arith in l)
  | inr d ↦ elim d [
    | inl lt ↦ subst (λ b. Covers mask b) (sym (ap (λ xs. get_or xs n (2 ^ 64 - 1)) e.1 ∙ front old e.0 n lt)) covers
    | inr gt ↦ past (let l : length old ≤ n = omega arith in l)
  ]
]
  where
    front : (xs ys : List ℕ) (i : ℕ) → i < length xs → get_or (xs ++ ys) i (2 ^ 64 - 1) ≡ get_or xs i (2 ^ 64 - 1)
    front xs ys i lt = grind (arith, common_steps)

    beyond : (xs : List ℕ) (i : ℕ) → length xs ≤ i → get_or xs i (2 ^ 64 - 1) ≡ 2 ^ 64 - 1
    beyond xs i le = grind (arith, common_steps)

    past : length old ≤ n → Covers mask (bits_in new n)
    past le = Covers-trans mask (2 ^ 64 - 1) (bits_in new n) (subst (λ b. Covers mask b) (beyond old n le) covers) (elim (cases_order n (length new)) [
      | inl at ↦ (subst (λ b. Covers (2 ^ 64 - 1) b) (sym (beyond new n (let l : length new ≤ n = omega arith in l))) (λ w h. h))
      | inr d ↦ elim d [
        | inl lt ↦ all_bits (bits_in new n) (bounded n (2 ^ 64 - 1) lt)
        | inr gt ↦ (subst (λ b. Covers (2 ^ 64 - 1) b) (sym (beyond new n (let l : length new ≤ n = omega arith in l))) (λ w h. h))
      ]
    ])

pub masks-extend : (values more : List ℕ) (old new : List Cell) (masks : List ℕ) → Extends values more → All (λ b. b < 2 ^ 64) more → Extends old new → AreMasks values old masks → AreMasks more new masks
masks-extend values more old new masks v bounded e are at lt =
    let h = are at lt in
    let inside = h.0 in
    let l = length-extends old new e in (
      omega arith,
      λ p. covers-extends values more (get_or masks at 0) (held_at new at p) v bounded
          (subst (λ n. Covers (get_or masks at 0) (bits_in values n)) (sym (held-extends old new at p e inside)) (h.1 p)),
    )

-- one more mask
pub masks-push : (values : List ℕ) (cells : List Cell) (masks more : List ℕ) (mask : ℕ) → AreMasks values cells masks → more ≡ masks ++ mask ∷ [] → length masks < length cells
    → ((p : List ℕ) → Covers mask (bits_in values (held_at cells (length masks) p))) → AreMasks values cells more
masks-push values cells masks more mask are e inside covers = subst (λ ms. AreMasks values cells ms) (sym e) (λ at lt. elim (cases_order at (length masks)) [
  | inl same ↦ (let l : at < length cells = omega arith in (
    l,
    λ p. subst (λ m. Covers m (bits_in values (held_at cells at p))) (sym (ap (λ k. get_or (masks ++ mask ∷ []) k 0) same ∙ behind masks mask))
        (subst (λ k. Covers mask (bits_in values (held_at cells k p))) (sym same) (covers p)),
  ))
  | inr d ↦ elim d [
    | inl below ↦ (let h = are at below in
        (h.0, λ p. subst (λ m. Covers m (bits_in values (held_at cells at p))) (sym (front masks (mask ∷ []) at below)) (h.1 p)))
    | inr above ↦ absurd (let n = length-append masks (mask ∷ []) in omega arith)
  ]
])
  where
    front : (xs ys : List ℕ) (i : ℕ) → i < length xs → get_or (xs ++ ys) i 0 ≡ get_or xs i 0
    front xs ys i lt = grind (arith, common_steps)

    behind : (xs : List ℕ) (x : ℕ) → get_or (xs ++ x ∷ []) (length xs) 0 ≡ x
    behind xs x = grind (arith, common_steps)

-- the mask of a cut, by those of the cells that it names
pub mask_cut : (values : List ℕ) (cells : List Cell) (masks : List ℕ) (f last at mask : ℕ) (ss ts : List Step) (c : Cell) (p : List ℕ) → AreOrderedFrom 0 cells → slice_get cells at ≡ Some c → c ≡ Cut f ss last → ts ≡ ss → at ≡ length masks
    → AreMasks values cells masks → ((x b : ℕ) → Covers (get_or masks (child_at ts last x) 0) b → Covers mask b) → Covers mask (bits_in values (held_at cells at p))
mask_cut values cells masks f last at mask ss ts c p ordered is e same next are joined =
    let x : ℕ = get_or p f 0 in
    let there : slice_get cells at ≡ Some (Cut f ss last) = is ∙ ap Some e in
    let below : IsCellBelow at (Cut f ss last) = cell_below cells at (Cut f ss last) ordered there in
    let child : child_at ss last x < at = child_has (λ k. k < at) ss last x below.0 below.1 in
    let h = are (child_at ss last x) (let l : child_at ss last x < length masks = omega arith in l) in
    subst (λ n. Covers mask (bits_in values n)) (sym (held_cell cells at (Cut f ss last) p ordered there))
    (joined x (bits_in values (held_at cells (child_at ss last x) p)) (subst (λ us. Covers (get_or masks (child_at us last x) 0) (bits_in values (held_at cells (child_at ss last x) p))) (sym same) (h.1 p)))

-- the cells that a cut names have masks
pub cut_inside : (cells : List Cell) (masks : List ℕ) (f last at : ℕ) (ss ts : List Step) (c : Cell) → AreOrderedFrom 0 cells → slice_get cells at ≡ Some c → c ≡ Cut f ss last → ts ≡ ss → at ≡ length masks
    → All (λ s. s.node < length masks) ts × (last < length masks)
cut_inside cells masks f last at ss ts c ordered is e same next =
    let below : IsCellBelow at (Cut f ss last) = cell_below cells at (Cut f ss last) ordered (is ∙ ap Some e) in
    subst (λ n. All (λ s. s.node < n) ts × (last < n)) next (subst (λ us. All (λ s. s.node < at) us) (sym same) below.0, below.1)

pub mask_leaf : (values : List ℕ) (cells : List Cell) (at n mask : ℕ) (c : Cell) (p : List ℕ) → AreOrderedFrom 0 cells → slice_get cells at ≡ Some c → c ≡ Leaf n → mask ≡ bits_in values n → Covers mask (bits_in values (held_at cells at p))
mask_leaf values cells at n mask c p ordered is e m =
    subst (λ k. Covers mask (bits_in values k)) (sym (held_cell cells at (Leaf n) p ordered (is ∙ ap Some e))) (subst (λ k. Covers k (bits_in values n)) (sym m) (λ w h. h))

-- a mask joined with one more
pub joined-more : (masks : List ℕ) (ss : List Step) (i : ℕ) (d : Step) (mask w : ℕ) → i < length ss → (bit_and mask w ≡ 0 → All (λ s. bit_and (get_or masks s.node 0) w ≡ 0) (take i ss))
    → bit_and (bit_or mask (get_or masks (get_or ss i d).node 0)) w ≡ 0 → All (λ s. bit_and (get_or masks s.node 0) w ≡ 0) (take (i + 1) ss)
joined-more masks ss i d mask w lt so_far none =
    let one : ℕ = get_or masks (get_or ss i d).node 0 in
    subst (λ us. All (λ s. bit_and (get_or masks s.node 0) w ≡ 0) us) (sym (take_more ss i d lt))
    (All-push (λ s. bit_and (get_or masks s.node 0) w ≡ 0) _ _ (so_far (or_left mask one w none)) (or_right mask one w none))

-- masks stay when cells are added alone
pub masks-store : (values : List ℕ) (old new : List Cell) (masks : List ℕ) → Extends old new → AreMasks values old masks → AreMasks values new masks
masks-store values old new masks e are at lt =
    let h = are at lt in
    let inside = h.0 in
    let l = length-extends old new e in
    (omega arith, λ p. subst (λ n. Covers (get_or masks at 0) (bits_in values n)) (sym (held-extends old new at p e inside)) (h.1 p))
