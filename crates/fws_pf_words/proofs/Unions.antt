-- The numbers of the values of a list, however often a stretch of it comes again.
use Rattle.std.proofs.Common.{◌≡◌, ℕ, ◌+◌, ◌-◌, ◌<◌, ◌≤◌, Bool, true, false, ◌&&◌, ◌||◌, not, nat_le, nat_lt, List, [], ◌∷◌, ◌++◌, refl, sym, ap, subst, ◌∙◌, ◌^◌, arith, if◌then◌else◌}
use Rattle.std.specs.List.{AllByRecursion, list_all}
use Rattle.std.proofs.lemmas.List.{append-nil, append_assoc}
use Rattle.std.proofs.lemmas.List.Elements.{All-from_recursion}
use Rattle.std.proofs.lemmas.List.Folds.{list_any-append}
use Rattle.std.proofs.lemmas.Bool.{false≢true}
use Rattle.std.proofs.lemmas.Bool.Decides.{nat_tests}
use Rattle.fws_rules.specs.Literals.{one}
use Rattle.fws_iv.specs.declared.iv.Iv.{Iv}
use Rattle.fws_iv.specs.Ivs.{AreRanges, IsRegular, IsRegularFrom, RangesAddMembers, RangesAreRegular, SameMembersSameList, has, in_part, with_range, with_ranges}
use Rattle.fws_pf.specs.declared.tables.Table.{Table}
use Rattle.fws_pf.specs.declared.value_draft.Item.{Item}
use Rattle.fws_pf.specs.declared.value_draft.Part.{Part}
use Rattle.fws_pf.specs.declared.value_draft.Part.TheVariants as parts
use Rattle.fws_pf.specs.FileText.{skipped_ranges, with_skipped}
use Rattle.fws_pf.specs.Tables.{empty_table, with_member, with_members}
use Rattle.fws_pf.specs.Values.{from_below}
use Rattle.fws_pf_words.specs.Members.{all_ranges, is_own, is_ranged, item_ranges, names_of, own_ranges, with_name}

abbrev pub Ranged : List Iv → Type 0
Ranged rs = AllByRecursion (λ (x : Iv). x.lo ≤ x.hi) rs

-- Ranges behind a set

stay_regular : RangesAreRegular → (rs s : List Iv) → Ranged rs → IsRegular s → IsRegular (with_ranges s rs)
stay_regular regular [] s r g = g
stay_regular regular (x ∷ rs) s r g = stay_regular regular rs (with_range x.lo x.hi s) r.1 (regular x.lo x.hi s r.0 g)

or_none : (a : Bool) → a ≡ (a || false)
or_none true = refl
or_none false = refl

or_groups : (a b c : Bool) → (a || b || c) ≡ (a || (b || c))
or_groups true b c = refl
or_groups false b c = refl

has_more : RangesAreRegular → RangesAddMembers → (rs s : List Iv) → Ranged rs → IsRegular s → (v : ℕ) → has (with_ranges s rs) v ≡ (has s v || has rs v)
has_more regular adds [] s r g v = or_none (has s v)
has_more regular adds (x ∷ rs) s r g v =
    has_more regular adds rs (with_range x.lo x.hi s) r.1 (regular x.lo x.hi s r.0 g) v
    ∙ ap (λ b. b || has rs v) (adds x.lo x.hi s r.0 g v)
    ∙ or_groups (has s v) (nat_le x.lo v && nat_le v x.hi) (has rs v)

-- Ranges of values

not_either : (a b c : Bool) → not b ≡ c → not (a || b) ≡ (not a && c)
not_either true b c h = refl
not_either false b c h = h

not_has : (f : Item → List Iv) (items : List Item) (v : ℕ) → not (has (all_ranges f items) v) ≡ list_all (λ (i : Item). not (has (f i) v)) items
not_has f [] v = refl
not_has f (i ∷ items) v =
    ap not (list_any-append (λ x. in_part x v) (f i) (all_ranges f items))
    ∙ not_either (has (f i) v) (has (all_ranges f items) v) (list_all (λ (x : Item). not (has (f x) v)) items) (not_has f items v)

same_by_not : (a b : Bool) → not a ≡ not b → a ≡ b
same_by_not true true h = refl
same_by_not false false h = refl
same_by_not true false h = sym h
same_by_not false true h = sym h

-- two lists that pass the same tests have the same numbers
pub same_numbers : RangesAreRegular → RangesAddMembers → SameMembersSameList → (f : Item → List Iv) (s : List Iv) (kept list : List Item)
    → IsRegular s → Ranged (all_ranges f kept) → Ranged (all_ranges f list) → ((test : Item → Bool) → list_all test kept ≡ list_all test list)
    → with_ranges s (all_ranges f kept) ≡ with_ranges s (all_ranges f list)
same_numbers regular adds same f s kept list g a b tests =
    same (with_ranges s (all_ranges f kept)) (with_ranges s (all_ranges f list)) (stay_regular regular (all_ranges f kept) s a g) (stay_regular regular (all_ranges f list) s b g)
    (λ v.
    has_more regular adds (all_ranges f kept) s a g v
    ∙ ap (λ b. has s v || b)
    (same_by_not (has (all_ranges f kept) v) (has (all_ranges f list) v)
    (not_has f kept v ∙ tests (λ (i : Item). not (has (f i) v)) ∙ sym (not_has f list v)))
    ∙ sym (has_more regular adds (all_ranges f list) s b g v))

pub with_ranges-append : (s xs ys : List Iv) → with_ranges s (xs ++ ys) ≡ with_ranges (with_ranges s xs) ys
with_ranges-append s [] ys = refl
with_ranges-append s (x ∷ xs) ys = with_ranges-append (with_range x.lo x.hi s) xs ys

pub ranged_both : (xs ys : List Iv) → Ranged xs → Ranged ys → Ranged (xs ++ ys)
ranged_both [] ys a b = b
ranged_both (x ∷ xs) ys a b = (a.0, ranged_both xs ys a.1 b)

-- Tables

tested : (x : Iv) → x.lo ≤ x.hi → nat_le x.lo x.hi ≡ true
tested x h = grind (arith, nat_tests)

ordered : (x : Iv) → nat_le x.lo x.hi ≡ true → x.lo ≤ x.hi
ordered x h = grind (arith, nat_tests)

regular_tests : (n : ℕ) (set : List Iv) → IsRegularFrom n set → list_all (λ (x : Iv). nat_le x.lo x.hi) set ≡ true
regular_tests n [] r = refl
regular_tests n (x ∷ set) r = ap (λ b. b && list_all (λ (y : Iv). nat_le y.lo y.hi) set) (tested x r.1) ∙ regular_tests (x.hi + 2) set r.2

pub set_is_ranged : (part : Part) (set : List Iv) → part ≡ parts.Set set → IsRegular set → list_all (λ (x : Iv). nat_le x.lo x.hi) (own_ranges part) ≡ true
set_is_ranged part set is regular = ap (λ p. list_all (λ (x : Iv). nat_le x.lo x.hi) (own_ranges p)) is ∙ regular_tests 0 set regular

left : (a b : Bool) → (a && b) ≡ true → a ≡ true
left true b h = refl
left false b h = h

right : (a b : Bool) → (a && b) ≡ true → b ≡ true
right true b h = h
right false true h = refl
right false false h = h

ranged_by_test : (rs : List Iv) → list_all (λ (x : Iv). nat_le x.lo x.hi) rs ≡ true → Ranged rs
ranged_by_test [] h = tt
ranged_by_test (x ∷ rs) h = (
  ordered x (left (nat_le x.lo x.hi) (list_all (λ (y : Iv). nat_le y.lo y.hi) rs) h),
  ranged_by_test rs (right (nat_le x.lo x.hi) (list_all (λ (y : Iv). nat_le y.lo y.hi) rs) h),
)

all_ranged : (items : List Item) → list_all is_ranged items ≡ true → Ranged (all_ranges item_ranges items)
all_ranged [] h = tt
all_ranged (i ∷ items) h =
    ranged_both (own_ranges i.part) (all_ranges item_ranges items) (ranged_by_test (own_ranges i.part) (left (is_ranged i) (list_all is_ranged items) h))
    (all_ranged items (right (is_ranged i) (list_all is_ranged items) h))

-- the ranges of values are none of them empty
pub ranges_there : (items : List Item) (ranges shown : List Iv) → list_all is_ranged items ≡ true → ranges ≡ all_ranges item_ranges items → shown ≡ ranges → AreRanges shown
ranges_there items ranges shown h r s =
    subst AreRanges (sym (s ∙ r)) (All-from_recursion (λ (x : Iv). x.lo ≤ x.hi) (all_ranges item_ranges items) (all_ranged items h))

abbrev table : List ℕ → List Iv → List (List ℕ) → Table
table name own named = record { name = name; own = own; named = named }

next_member : (part : Part) (name : List ℕ) (own rest : List Iv) (named names : List (List ℕ)) (items : List Item)
    → ((o : List Iv) (n : List (List ℕ)) → with_members items (table name o n) ≡ table name (with_ranges o rest) (n ++ names))
    → with_members items (with_member part (table name own named)) ≡ table name (with_ranges own (own_ranges part ++ rest)) (named ++ with_name part names)
next_member parts.Every name own rest named names items h = h (with_range 0 (2 ^ 32 - 1) own) named
next_member (parts.Set set) name own rest named names items h =
    h (with_ranges own set) named ∙ ap (λ (o : List Iv). table name o (named ++ names)) (sym (with_ranges-append own set rest))
next_member (parts.Table t) name own rest named names items h =
    h own (named ++ t ∷ []) ∙ ap (λ (n : List (List ℕ)). table name (with_ranges own rest) n) (append_assoc named (t ∷ []) names)

-- a table by the ranges and the names of its members
gathered_by : (name : List ℕ) (items : List Item) (own : List Iv) (named : List (List ℕ))
    → with_members items (table name own named) ≡ table name (with_ranges own (all_ranges item_ranges items)) (named ++ names_of items)
gathered_by name [] own named = ap (λ (n : List (List ℕ)). table name own n) (sym (append-nil named))
gathered_by name (i ∷ items) own named = next_member i.part name own (all_ranges item_ranges items) named (names_of items) items (gathered_by name items)

pub table_given : RangesAreRegular → RangesAddMembers → SameMembersSameList → (name : List ℕ) (kept list : List Item) (own : List Iv)
    → own ≡ with_ranges [] (all_ranges item_ranges kept) → list_all is_ranged kept ≡ true → ((test : Item → Bool) → list_all test kept ≡ list_all test list)
    → table name own (names_of list) ≡ with_members list (empty_table name)
table_given regular adds same name kept list own is ranged tests =
    ap (λ (o : List Iv). table name o (names_of list))
    (is ∙ same_numbers regular adds same item_ranges [] kept list tt (all_ranged kept ranged) (all_ranged list (sym (tests is_ranged) ∙ ranged)) tests)
    ∙ sym (gathered_by name list [] [])

-- Interfaces that are skipped

below_ranged : (lo end : ℕ) → Ranged (from_below lo end)
below_ranged lo end = by_test (nat_lt lo end) refl
  where
    by_test : (b : Bool) → nat_lt lo end ≡ b → Ranged (if b then one lo (end - 1) else [])
    by_test true e = (let h : lo < end = grind (arith, nat_tests) in omega arith, tt)
    by_test false e = tt

skipped_ranged : (last : ℕ) (negated : Bool) (part : Part) → Ranged (skipped_ranges last negated part)
skipped_ranged last negated parts.Every = tt
skipped_ranged last negated (parts.Table name) = tt
skipped_ranged last negated (parts.Set []) = tt
skipped_ranged last true (parts.Set (x ∷ xs)) = ranged_both (from_below 1 x.lo) (from_below (x.lo + 1) (last + 1)) (below_ranged 1 x.lo) (below_ranged (x.lo + 1) (last + 1))
skipped_ranged last false (parts.Set (x ∷ xs)) = (omega arith, tt)

abbrev item_skipped : ℕ → Item → List Iv
item_skipped last item = skipped_ranges last item.negated item.part

all_skipped : (last : ℕ) (items : List Item) → Ranged (all_ranges (item_skipped last) items)
all_skipped last [] = tt
all_skipped last (i ∷ items) = ranged_both (item_skipped last i) (all_ranges (item_skipped last) items) (skipped_ranged last i.negated i.part) (all_skipped last items)

skipped_by : (last : ℕ) (items : List Item) (skip : List Iv) → with_skipped last skip items ≡ with_ranges skip (all_ranges (item_skipped last) items)
skipped_by last [] skip = refl
skipped_by last (i ∷ items) skip =
    skipped_by last items (with_ranges skip (item_skipped last i)) ∙ sym (with_ranges-append skip (item_skipped last i) (all_ranges (item_skipped last) items))

pub same_skipped : RangesAreRegular → RangesAddMembers → SameMembersSameList → (last : ℕ) (skip : List Iv) (kept list : List Item) → IsRegular skip
    → ((test : Item → Bool) → list_all test kept ≡ list_all test list) → with_skipped last skip kept ≡ with_skipped last skip list
same_skipped regular adds same last skip kept list g tests =
    skipped_by last kept skip ∙ same_numbers regular adds same (item_skipped last) skip kept list g (all_skipped last kept) (all_skipped last list) tests
    ∙ sym (skipped_by last list skip)

none_named : (part : Part) (rest : Bool) (names : List (List ℕ)) → (is_own part && rest) ≡ true → (rest ≡ true → names ≡ []) → with_name part names ≡ []
none_named parts.Every rest names h f = f h
none_named (parts.Set set) rest names h f = f h
none_named (parts.Table name) rest names h f = absurd (false≢true h)

-- values of which none is a table name none
pub names_none : (items : List Item) → list_all (λ (i : Item). is_own i.part) items ≡ true → names_of items ≡ []
names_none [] h = refl
names_none (i ∷ items) h = none_named i.part (list_all (λ (x : Item). is_own x.part) items) (names_of items) h (names_none items)
