-- Lists in which stretches come again.
use Rattle.std.proofs.Common.{◌≡◌, ℕ, zero, suc, ◌+◌, ◌≤◌, Bool, true, false, ◌&&◌, List, [], ◌∷◌, ◌++◌, length, take, drop, refl, sym, ap, ◌∙◌, append-nil, append_assoc, arith}
use Rattle.std.proofs.lemmas.List.{length-append, length-take-le, length-drop}
use Rattle.std.specs.List.{list_all}
use Rattle.fws_pf.specs.declared.value_draft.Item.{Item}
use Rattle.fws_pf_words.specs.declared.lists.Mark.{Mark}
use Rattle.fws_pf_words.specs.declared.lists.Mark.TheVariants as marks
use Rattle.fws_pf_words.specs.Stretches.{ones, unfolded}

-- A further mark

pub one_more : (all : List Item) (ms : List Mark) (kept : List Item) (x : Item) → ones ms ≡ length kept
    → unfolded all (ms ++ marks.One ∷ []) (kept ++ x ∷ []) ≡ unfolded all ms kept ++ x ∷ []
one_more all [] [] x e = refl
one_more all [] (k ∷ kept) x e = absurd (omega arith)
one_more all (marks.One ∷ ms) [] x e = absurd (omega arith)
one_more all (marks.One ∷ ms) (k ∷ kept) x e = one_more (all ++ k ∷ []) ms kept x (omega arith)
one_more all (marks.Again from count ∷ ms) kept x e = one_more (all ++ take count (drop from all)) ms kept x e

pub again_more : (all : List Item) (ms : List Mark) (kept : List Item) (from count : ℕ)
    → unfolded all (ms ++ marks.Again from count ∷ []) kept ≡ unfolded all ms kept ++ take count (drop from (unfolded all ms kept))
again_more all [] kept from count = refl
again_more all (marks.One ∷ ms) [] from count = again_more all ms [] from count
again_more all (marks.One ∷ ms) (k ∷ kept) from count = again_more (all ++ k ∷ []) ms kept from count
again_more all (marks.Again f c ∷ ms) kept from count = again_more (all ++ take c (drop f all)) ms kept from count

pub one_counted : (ms : List Mark) → ones (ms ++ marks.One ∷ []) ≡ suc (ones ms)
one_counted [] = refl
one_counted (marks.One ∷ ms) = ap suc (one_counted ms)
one_counted (marks.Again from count ∷ ms) = one_counted ms

pub again_counted : (ms : List Mark) (from count : ℕ) → ones (ms ++ marks.Again from count ∷ []) ≡ ones ms
again_counted [] from count = refl
again_counted (marks.One ∷ ms) from count = ap suc (again_counted ms from count)
again_counted (marks.Again f c ∷ ms) from count = again_counted ms from count

pub stretch_length : (from count : ℕ) (xs : List Item) → from + count ≤ length xs → length (take count (drop from xs)) ≡ count
stretch_length from count xs h = let e = length-drop from xs in length-take-le count (drop from xs) (omega arith)

-- What all items pass

and_then_all : (test : Item → Bool) (xs ys : List Item) → list_all test (xs ++ ys) ≡ (list_all test xs && list_all test ys)
and_then_all test [] ys = refl
and_then_all test (x ∷ xs) ys = split (test x) (list_all test (xs ++ ys)) (list_all test xs) (list_all test ys) (and_then_all test xs ys)
  where
    split : (a b c d : Bool) → b ≡ (c && d) → (a && b) ≡ (a && c && d)
    split true b c d e = e
    split false b c d e = refl

taken_pass : (test : Item → Bool) (n : ℕ) (xs : List Item) → list_all test xs ≡ true → list_all test (take n xs) ≡ true
taken_pass test zero xs h = refl
taken_pass test (suc n) [] h = refl
taken_pass test (suc n) (x ∷ xs) h = both (test x) (list_all test xs) (list_all test (take n xs)) h (taken_pass test n xs)
  where
    both : (a b c : Bool) → (a && b) ≡ true → (b ≡ true → c ≡ true) → (a && c) ≡ true
    both true b c e f = f e
    both false b c e f = e

left_pass : (test : Item → Bool) (n : ℕ) (xs : List Item) → list_all test xs ≡ true → list_all test (drop n xs) ≡ true
left_pass test zero xs h = h
left_pass test (suc n) [] h = refl
left_pass test (suc n) (x ∷ xs) h = left_pass test n xs (second (test x) (list_all test xs) h)
  where
    second : (a b : Bool) → (a && b) ≡ true → b ≡ true
    second true b e = e
    second false true e = refl
    second false false e = e

implied : (a b : Bool) → (a ≡ true → b ≡ true) → (a && b) ≡ a
implied true b h = h refl
implied false b h = refl

stretch_passes : (test : Item → Bool) (from count : ℕ) (xs : List Item) → list_all test (xs ++ take count (drop from xs)) ≡ list_all test xs
stretch_passes test from count xs =
    and_then_all test xs (take count (drop from xs))
    ∙ implied (list_all test xs) (list_all test (take count (drop from xs))) (λ h. taken_pass test count (drop from xs) (left_pass test from xs h))

one_passes : (test : Item → Bool) (all : List Item) (x : Item) (b : Bool) → (list_all test (all ++ x ∷ []) && b) ≡ (list_all test all && (test x && b))
one_passes test all x b = ap (λ a. a && b) (and_then_all test all (x ∷ [])) ∙ regroup (list_all test all) (test x) b
  where
    regroup : (a c b : Bool) → (a && (c && true) && b) ≡ (a && (c && b))
    regroup true true b = refl
    regroup true false b = refl
    regroup false c b = refl

all_pass : (test : Item → Bool) (all : List Item) (ms : List Mark) (kept : List Item) → ones ms ≡ length kept
    → list_all test (unfolded all ms kept) ≡ (list_all test all && list_all test kept)
all_pass test all [] [] e = sym (alone (list_all test all))
  where
    alone : (a : Bool) → (a && true) ≡ a
    alone true = refl
    alone false = refl
all_pass test all [] (k ∷ kept) e = absurd (omega arith)
all_pass test all (marks.One ∷ ms) [] e = absurd (omega arith)
all_pass test all (marks.One ∷ ms) (k ∷ kept) e =
    all_pass test (all ++ k ∷ []) ms kept (omega arith) ∙ one_passes test all k (list_all test kept)
all_pass test all (marks.Again from count ∷ ms) kept e =
    all_pass test (all ++ take count (drop from all)) ms kept e ∙ ap (λ a. a && list_all test kept) (stretch_passes test from count all)

pub kept_pass : (ms : List Mark) (kept shown list : List Item) → ones ms ≡ length kept → unfolded [] ms kept ≡ list → shown ≡ kept
    → (test : Item → Bool) → list_all test shown ≡ list_all test list
kept_pass ms kept shown list e view s test = ap (list_all test) s ∙ sym (all_pass test [] ms kept e) ∙ ap (list_all test) view

-- A list with a further mark

pub put_list : (ms now : List Mark) (kept more list : List Item) (x : Item) → ones ms ≡ length kept → unfolded [] ms kept ≡ list → now ≡ ms ++ marks.One ∷ [] → more ≡ kept ++ x ∷ []
    → unfolded [] now more ≡ list ++ x ∷ []
put_list ms now kept more list x e view n m =
    (λ i. unfolded [] (n i) (m i)) ∙ one_more [] ms kept x e ∙ ap (λ l. l ++ x ∷ []) view

pub put_ones : (ms now : List Mark) (kept more : List Item) (x : Item) → ones ms ≡ length kept → now ≡ ms ++ marks.One ∷ [] → more ≡ kept ++ x ∷ [] → ones now ≡ length more
put_ones ms now kept more x e n m =
    let a = one_counted ms in
    let b = length-append kept (x ∷ []) in
    ap ones n ∙ a ∙ ap suc e ∙ (let k : suc (length kept) ≡ length (kept ++ x ∷ []) = omega arith in k) ∙ ap length (sym m)

pub put_count : (ms now : List Mark) (kept more : List Item) (x : Item) (count new : ℕ) → ones ms ≡ length kept → now ≡ ms ++ marks.One ∷ [] → more ≡ kept ++ x ∷ []
    → count ≡ length (unfolded [] ms kept) → new ≡ count + 1 → new ≡ length (unfolded [] now more)
put_count ms now kept more x count new e n m c k =
    let a = length-append (unfolded [] ms kept) (x ∷ []) in
    let b : unfolded [] now more ≡ unfolded [] ms kept ++ x ∷ [] = put_list ms now kept more (unfolded [] ms kept) x e refl n m in
    let d = ap length b in omega arith

pub again_list : (ms now : List Mark) (kept list : List Item) (from count : ℕ) → unfolded [] ms kept ≡ list → now ≡ ms ++ marks.Again from count ∷ []
    → unfolded [] now kept ≡ list ++ take count (drop from list)
again_list ms now kept list from count view n =
    ap (λ l. unfolded [] l kept) n ∙ again_more [] ms kept from count ∙ ap (λ l. l ++ take count (drop from l)) view

pub again_count : (ms now : List Mark) (kept list : List Item) (from count had new : ℕ) → unfolded [] ms kept ≡ list → now ≡ ms ++ marks.Again from count ∷ []
    → had ≡ length (unfolded [] ms kept) → from + count ≤ length list → new ≡ had + count → new ≡ length (unfolded [] now kept)
again_count ms now kept list from count had new view n h room k =
    let a = length-append list (take count (drop from list)) in
    let b = ap length (again_list ms now kept list from count view n) in
    let d = stretch_length from count list room in
    let f = ap length view in omega arith

-- A list of which no stretch comes again

ones_few : (ms : List Mark) → ones ms ≤ length ms
ones_few [] = omega arith
ones_few (marks.One ∷ ms) = let few = ones_few ms in omega (arith, few)
ones_few (marks.Again from count ∷ ms) = let few = ones_few ms in omega (arith, few)

-- marks that are as many as the kept items put these alone
pub all_once : (ms : List Mark) (kept all : List Item) → ones ms ≡ length kept → length ms ≡ length kept → unfolded all ms kept ≡ all ++ kept
all_once [] [] all o l = sym (append-nil all)
all_once [] (item ∷ kept) all o l = absurd (omega (arith, l))
all_once (marks.One ∷ ms) [] all o l = absurd (omega (arith, l))
all_once (marks.One ∷ ms) (item ∷ kept) all o l =
    all_once ms kept (all ++ item ∷ []) (omega (arith, o)) (omega (arith, l)) ∙ append_assoc all (item ∷ []) kept
all_once (marks.Again from count ∷ ms) kept all o l = let few = ones_few ms in absurd (omega (arith, few, o, l))
