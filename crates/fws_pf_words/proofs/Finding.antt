-- Tables that a list names are found, however often a stretch of it comes again.
use Rattle.std.proofs.Common.{◌≡◌, ℕ, zero, suc, Bool, true, false, nat_eq, cond, Option, Some, None, List, [], ◌∷◌, ◌++◌, length, take, drop, arith, refl, sym, ap, ◌∙◌, eq-eqb}
use Rattle.std.specs.List.{list_any}
use Rattle.std.proofs.lemmas.Bool.{or_left, or_right}
use Rattle.std.proofs.lemmas.List.Folds.{list_any-append}
use Rattle.fws_pf.specs.declared.tables.Table.{Table}
use Rattle.fws_pf.specs.declared.value_draft.Item.{Item}
use Rattle.fws_pf.specs.declared.value_draft.Part.{Part}
use Rattle.fws_pf.specs.declared.value_draft.Part.TheVariants as parts
use Rattle.fws_pf_words.specs.declared.lists.Mark.{Mark}
use Rattle.fws_pf_words.specs.declared.lists.Mark.TheVariants as marks
use Rattle.fws_pf_words.specs.Members.{names_of, with_name}
use Rattle.fws_pf_words.specs.Reached.{AreFound, IsPlace, table_position, with_found, with_place, with_places}
use Rattle.fws_pf_words.specs.Stretches.{ones, unfolded}

-- Names of values

name_ahead : (part : Part) (xs ys : List (List ℕ)) → with_name part (xs ++ ys) ≡ with_name part xs ++ ys
name_ahead parts.Every xs ys = refl
name_ahead (parts.Set set) xs ys = refl
name_ahead (parts.Table name) xs ys = refl

names-append : (xs ys : List Item) → names_of (xs ++ ys) ≡ names_of xs ++ names_of ys
names-append [] ys = refl
names-append (x ∷ xs) ys = ap (with_name x.part) (names-append xs ys) ∙ name_ahead x.part (names_of xs) (names_of ys)

places-append : (tables : List Table) (xs ys : List (List ℕ)) (places : List ℕ) → with_places tables places (xs ++ ys) ≡ with_places tables (with_places tables places xs) ys
places-append tables [] ys places = refl
places-append tables (x ∷ xs) ys places = places-append tables xs ys (with_place tables places x)

both_found : (tables : List Table) (xs ys : List Item) (places : List ℕ)
    → with_places tables places (names_of (xs ++ ys)) ≡ with_places tables (with_places tables places (names_of xs)) (names_of ys)
both_found tables xs ys places = ap (with_places tables places) (names-append xs ys) ∙ places-append tables (names_of xs) (names_of ys) places

-- What is found stays found

stays_by : (o : Option ℕ) (places : List ℕ) → ((p : ℕ) → o ≡ Some p → IsPlace places p) → with_found places o ≡ places
stays_by None places f = refl
stays_by (Some p) places f = ap (λ b. cond b places (places ++ p ∷ [])) (f p refl)

all_stay : (tables : List Table) (names : List (List ℕ)) (places : List ℕ) → AreFound tables places names → with_places tables places names ≡ places
all_stay tables [] places f = refl
all_stay tables (name ∷ names) places f =
    ap (λ (l : List ℕ). with_places tables l names) (stays_by (table_position tables name) places f.0) ∙ all_stay tables names places f.1

in_more : (places more : List ℕ) (p : ℕ) → IsPlace places p → IsPlace (places ++ more) p
in_more places more p on = list_any-append (nat_eq p) places more ∙ or_left (list_any (nat_eq p) places) (list_any (nat_eq p) more) on

in_last : (places : List ℕ) (p : ℕ) → IsPlace (places ++ p ∷ []) p
in_last places p =
    list_any-append (nat_eq p) places (p ∷ [])
    ∙ or_right (list_any (nat_eq p) places) (list_any (nat_eq p) (p ∷ [])) (or_left (nat_eq p p) false (eq-eqb p p refl))

grown_by : (b : Bool) (places : List ℕ) (p q : ℕ) → IsPlace places q → IsPlace (cond b places (places ++ p ∷ [])) q
grown_by true places p q on = on
grown_by false places p q on = in_more places (p ∷ []) q on

there_by : (b : Bool) (places : List ℕ) (p : ℕ) → list_any (nat_eq p) places ≡ b → IsPlace (cond b places (places ++ p ∷ [])) p
there_by true places p on = on
there_by false places p on = in_last places p

still_one : (o : Option ℕ) (places : List ℕ) (q : ℕ) → IsPlace places q → IsPlace (with_found places o) q
still_one None places q on = on
still_one (Some p) places q on = grown_by (list_any (nat_eq p) places) places p q on

still_all : (tables : List Table) (names : List (List ℕ)) (places : List ℕ) (q : ℕ) → IsPlace places q → IsPlace (with_places tables places names) q
still_all tables [] places q on = on
still_all tables (name ∷ names) places q on = still_all tables names (with_place tables places name) q (still_one (table_position tables name) places q on)

found_one : (o : Option ℕ) (places : List ℕ) (p : ℕ) → o ≡ Some p → IsPlace (with_found places o) p
found_one None places p e = absurd (let k : None ≡ Some p = e in cc)
found_one (Some q) places p e = ap (λ n. list_any (nat_eq n) (with_found places (Some q))) (sym (let same : q ≡ p = cc in same)) ∙ there_by (list_any (nat_eq q) places) places q refl

all_found : (tables : List Table) (names : List (List ℕ)) (places : List ℕ) → AreFound tables (with_places tables places names) names
all_found tables [] places = tt
all_found tables (name ∷ names) places = (
  λ p e. still_all tables names (with_place tables places name) p (found_one (table_position tables name) places p e),
  all_found tables names (with_place tables places name),
)

-- Stretches of what is found

first_found : (tables : List Table) (places : List ℕ) (part : Part) (xs ys : List (List ℕ)) → AreFound tables places (with_name part xs) → (AreFound tables places xs → AreFound tables places ys)
    → AreFound tables places (with_name part ys)
first_found tables places parts.Every xs ys f g = g f
first_found tables places (parts.Set set) xs ys f g = g f
first_found tables places (parts.Table name) xs ys f g = (f.0, g f.1)

rest_found : (tables : List Table) (places : List ℕ) (part : Part) (xs : List (List ℕ)) → AreFound tables places (with_name part xs) → AreFound tables places xs
rest_found tables places parts.Every xs f = f
rest_found tables places (parts.Set set) xs f = f
rest_found tables places (parts.Table name) xs f = f.1

taken_found : (tables : List Table) (places : List ℕ) (n : ℕ) (xs : List Item) → AreFound tables places (names_of xs) → AreFound tables places (names_of (take n xs))
taken_found tables places zero xs f = tt
taken_found tables places (suc n) [] f = tt
taken_found tables places (suc n) (x ∷ xs) f = first_found tables places x.part (names_of xs) (names_of (take n xs)) f (taken_found tables places n xs)

left_found : (tables : List Table) (places : List ℕ) (n : ℕ) (xs : List Item) → AreFound tables places (names_of xs) → AreFound tables places (names_of (drop n xs))
left_found tables places zero xs f = f
left_found tables places (suc n) [] f = tt
left_found tables places (suc n) (x ∷ xs) f = left_found tables places n xs (rest_found tables places x.part (names_of xs) f)

again_found : (tables : List Table) (places : List ℕ) (from count : ℕ) (xs : List Item)
    → with_places tables places (names_of (xs ++ take count (drop from xs))) ≡ with_places tables places (names_of xs)
again_found tables places from count xs =
    both_found tables xs (take count (drop from xs)) places
    ∙ all_stay tables (names_of (take count (drop from xs))) (with_places tables places (names_of xs))
    (taken_found tables (with_places tables places (names_of xs)) count (drop from xs)
    (left_found tables (with_places tables places (names_of xs)) from xs (all_found tables (names_of xs) places)))

kept_found : (tables : List Table) (places : List ℕ) (all : List Item) (ms : List Mark) (kept : List Item) → ones ms ≡ length kept
    → with_places tables places (names_of (unfolded all ms kept)) ≡ with_places tables (with_places tables places (names_of all)) (names_of kept)
kept_found tables places all [] [] e = refl
kept_found tables places all [] (k ∷ kept) e = absurd (omega arith)
kept_found tables places all (marks.One ∷ ms) [] e = absurd (omega arith)
kept_found tables places all (marks.One ∷ ms) (k ∷ kept) e =
    kept_found tables places (all ++ k ∷ []) ms kept (omega arith)
    ∙ ap (λ (l : List ℕ). with_places tables l (names_of kept)) (both_found tables all (k ∷ []) places)
    ∙ sym (both_found tables (k ∷ []) kept (with_places tables places (names_of all)))
kept_found tables places all (marks.Again from count ∷ ms) kept e =
    kept_found tables places (all ++ take count (drop from all)) ms kept e
    ∙ ap (λ (l : List ℕ). with_places tables l (names_of kept)) (again_found tables places from count all)

-- What the code shows of these

pub names_kept : (ms : List Mark) (kept shown list : List Item) → ones ms ≡ length kept → unfolded [] ms kept ≡ list → shown ≡ kept
    → (tables : List Table) (places : List ℕ) → with_places tables places (names_of shown) ≡ with_places tables places (names_of list)
names_kept ms kept shown list e view s tables places =
    ap (λ (l : List Item). with_places tables places (names_of l)) s ∙ sym (kept_found tables places [] ms kept e)
    ∙ ap (λ (l : List Item). with_places tables places (names_of l)) view
