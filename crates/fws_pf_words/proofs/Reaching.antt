-- The tables that are reached from a name have what its table has.
use Rattle.std.proofs.Common.{◌≡◌, ℕ, zero, suc, ◌+◌, ◌<◌, ◌≤◌, Bool, true, false, ◌||◌, nat_eq, nat_lt, Option, Some, None, option_map, List, [], ◌∷◌, ◌++◌, length, get_or, slice_get, position, arith, refl, sym, ap, ◌∙◌, subst, ⊎_elim, eqb-true, eq-eqb}
use Rattle.std.specs.List.{list_any, AllByRecursion, position_or_len}
use Rattle.std.specs.Option.{option_map_or}
use Rattle.std.specs.Str.{bytes_eq}
use Rattle.std.proofs.lemmas.Bool.{false≢true, or_cases, or_left, or_right, cond_both}
use Rattle.std.proofs.lemmas.Bool.Decides.{nat_tests}
use Rattle.std.proofs.lemmas.List.Elements.{All-from_recursion}
use Rattle.std.proofs.lemmas.List.Folds.{find_at, list_any-append}
use Rattle.std.proofs.lemmas.Option.{slice_get-get_or}
use Rattle.fws_iv.specs.declared.iv.Iv.{Iv}
use Rattle.fws_iv.specs.Ivs.{has, in_part, AreRanges, IsRegular, IsRegularFrom, with_range, with_ranges, SameMembersSameList, RangesAreRegular, RangesAddMembers, ManyRangesAddMembers}
use Rattle.fws_pf.specs.declared.tables.Table.{Table}
use Rattle.fws_pf.specs.Tables.{addresses_within, empty_table, table_named, table_set, with_sets}
use Rattle.fws_pf_words.specs.Reached.{AreFound, AreRegularAt, IsClosure, IsFound, IsPlace, own_ranges, reaches, table_at, table_has, table_position}

-- Names and places

named_by : (f : Table → Bool) (tables : List Table) (e : Table) → slice_get tables (position_or_len f tables) ≡ option_map (λ p. get_or tables p e) (position f tables)
named_by f tables e =
    cond_both (nat_lt (position_or_len f tables) (length tables)) (Some (position_or_len f tables)) None
    (λ o. slice_get tables (position_or_len f tables) ≡ option_map (λ p. get_or tables p e) o)
    (λ yes. slice_get-get_or tables (position_or_len f tables) e (inside (position_or_len f tables) (length tables) yes))
    (λ no. outside tables (position_or_len f tables) (past (position_or_len f tables) (length tables) no))
  where
    inside : (a b : ℕ) → nat_lt a b ≡ true → a < b
    inside a b e = grind (arith, nat_tests)

    past : (a b : ℕ) → nat_lt a b ≡ false → b ≤ a
    past a b e = grind (arith, nat_tests)

    outside : (xs : List Table) (i : ℕ) → length xs ≤ i → slice_get xs i ≡ None
    outside [] i le = refl
    outside (x ∷ xs) zero le = absurd (omega arith)
    outside (x ∷ xs) (suc i) le = outside xs i (omega arith)

pub named_at : (tables : List Table) (name : List ℕ) → table_named tables name ≡ option_map (table_at tables) (table_position tables name)
named_at tables name = find_at (λ (t : Table). bytes_eq t.name name) tables ∙ named_by (λ (t : Table). bytes_eq t.name name) tables (empty_table [])

-- Sets

or_none : (a : Bool) → a ≡ (a || false)
or_none true = refl
or_none false = refl

or_grouped : (a b c : Bool) → ((a || b) || c) ≡ (a || (b || c))
or_grouped true b c = refl
or_grouped false b c = refl

with_ranges_is : (reg : RangesAreRegular) (adds : RangesAddMembers) (n : ℕ) (ranges set : List Iv) → IsRegularFrom n ranges → IsRegular set →
    IsRegular (with_ranges set ranges) × ((v : ℕ) → has (with_ranges set ranges) v ≡ (has set v || has ranges v))
with_ranges_is reg adds n [] set o r = (r, λ v. or_none (has set v))
with_ranges_is reg adds n (x ∷ ranges) set o r =
    let more = with_ranges_is reg adds (x.hi + 2) ranges (with_range x.lo x.hi set) o.2 (reg x.lo x.hi set o.1 r) in
    (more.0, λ v. more.1 v ∙ ap (λ b. b || has ranges v) (adds x.lo x.hi set o.1 r v) ∙ or_grouped (has set v) (in_part x v) (has ranges v))

-- a set with those of names, of which each is what it is known to be
with_sets_is : (reg : RangesAreRegular) (adds : RangesAddMembers) (tables : List Table) (places : List ℕ) (f : List ℕ → List Iv) (r : ℕ → List ℕ → Bool) →
    ((name : List ℕ) → IsFound tables places name → IsRegular (f name) × ((v : ℕ) → has (f name) v ≡ r v name)) →
    (names : List (List ℕ)) (set : List Iv) → AreFound tables places names → IsRegular set →
    IsRegular (with_sets f set names) × ((v : ℕ) → has (with_sets f set names) v ≡ (has set v || list_any (r v) names))
with_sets_is reg adds tables places f r each [] set found is = (is, λ v. or_none (has set v))
with_sets_is reg adds tables places f r each (name ∷ names) set found is =
    let one = each name found.0 in
    let both = with_ranges_is reg adds 0 (f name) set one.0 is in
    let more = with_sets_is reg adds tables places f r each names (with_ranges set (f name)) found.1 both.0 in
    (more.0, λ v. more.1 v ∙ ap (λ b. b || list_any (r v) names) (both.1 v ∙ ap (λ b. has set v || b) (one.1 v)) ∙ or_grouped (has set v) (r v name) (list_any (r v) names))

regular_at : (tables : List Table) (places : List ℕ) (p : ℕ) → AreRegularAt tables places → IsPlace places p → IsRegular (table_at tables p).own
regular_at tables [] p regular on = absurd (false≢true on)
regular_at tables (q ∷ places) p regular on =
    ⊎_elim (λ here. subst (λ x. IsRegular (table_at tables x).own) (sym (eqb-true p q here)) regular.0)
    (regular_at tables places p regular.1)
    (or_cases (nat_eq p q) (list_any (nat_eq p) places) on)

-- where tables are closed, what definition and tests say of a name is one
pub within_is : (reg : RangesAreRegular) (adds : RangesAddMembers) (tables : List Table) (places : List ℕ) →
    ((p : ℕ) → IsPlace places p → AreFound tables places (table_at tables p).named) → AreRegularAt tables places → (n : ℕ) (name : List ℕ) →
    IsFound tables places name → IsRegular (addresses_within n tables name) × ((v : ℕ) → has (addresses_within n tables name) v ≡ reaches n tables v name)
within_is reg adds tables places closed regular zero name found = (tt, λ v. refl)
within_is reg adds tables places closed regular (suc n) name found =
    by (within_is reg adds tables places closed regular n) (table_position tables name) (table_named tables name) (named_at tables name) found
  where
    by : ((each : List ℕ) → IsFound tables places each →
        IsRegular (addresses_within n tables each) × ((v : ℕ) → has (addresses_within n tables each) v ≡ reaches n tables v each)) →
        (o : Option ℕ) (t : Option Table) → t ≡ option_map (table_at tables) o → ((p : ℕ) → o ≡ Some p → IsPlace places p) →
        IsRegular (option_map_or (λ (x : Table). with_sets (addresses_within n tables) x.own x.named) t [])
        × ((v : ℕ) → has (option_map_or (λ (x : Table). with_sets (addresses_within n tables) x.own x.named) t []) v
        ≡ option_map_or (table_has (reaches n tables v) v) t false)
    by each None None e there = (tt, λ v. refl)
    by each (Some p) (Some x) e there =
        let is : x ≡ table_at tables p = cc in
        let on : IsPlace places p = there p refl in
        with_sets_is reg adds tables places (addresses_within n tables) (reaches n tables) each x.named x.own
        (subst (λ (t : Table). AreFound tables places t.named) (sym is) (closed p on))
        (subst (λ (t : Table). IsRegular t.own) (sym is) (regular_at tables places p regular on))
    by each None (Some x) e there = cc
    by each (Some p) None e there = cc

-- What the places have

has_append : (xs ys : List Iv) (v : ℕ) → has (xs ++ ys) v ≡ (has xs v || has ys v)
has_append xs ys v = list_any-append (λ x. in_part x v) xs ys

own_here : (tables : List Table) (v p : ℕ) (places : List ℕ) → IsPlace places p → has (table_at tables p).own v ≡ true → has (own_ranges tables places) v ≡ true
own_here tables v p [] on h = absurd (false≢true on)
own_here tables v p (q ∷ places) on h =
    has_append (table_at tables q).own (own_ranges tables places) v
    ∙ ⊎_elim
    (λ here. or_left (has (table_at tables q).own v) (has (own_ranges tables places) v) (subst (λ x. has (table_at tables x).own v ≡ true) (eqb-true p q here) h))
    (λ more. or_right (has (table_at tables q).own v) (has (own_ranges tables places) v) (own_here tables v p places more h))
    (or_cases (nat_eq p q) (list_any (nat_eq p) places) on)

pub own_cases : (tables : List Table) (v : ℕ) (places : List ℕ) → has (own_ranges tables places) v ≡ true → (p : ℕ) × IsPlace places p × (has (table_at tables p).own v ≡ true)
own_cases tables v [] h = absurd (false≢true h)
own_cases tables v (q ∷ places) h =
    ⊎_elim (λ here. (q, or_left (nat_eq q q) (list_any (nat_eq q) places) (eq-eqb q q refl), here))
    (λ more. let at = own_cases tables v places more in (at.0, or_right (nat_eq at.0 q) (list_any (nat_eq at.0) places) at.1, at.2))
    (or_cases (has (table_at tables q).own v) (has (own_ranges tables places) v) (sym (has_append (table_at tables q).own (own_ranges tables places) v) ∙ h))

-- some name has it, of names that are found
any_of : (P : Type 0) (tables : List Table) (places : List ℕ) (f : List ℕ → Bool) → ((name : List ℕ) → IsFound tables places name → f name ≡ true → P) →
    (names : List (List ℕ)) → AreFound tables places names → list_any f names ≡ true → P
any_of P tables places f each [] found h = absurd (false≢true h)
any_of P tables places f each (name ∷ names) found h =
    ⊎_elim (each name found.0) (any_of P tables places f each names found.1) (or_cases (f name) (list_any f names) h)

pub only_own : (tables : List Table) (places : List ℕ) → ((p : ℕ) → IsPlace places p → AreFound tables places (table_at tables p).named) →
    (n v : ℕ) (name : List ℕ) → IsFound tables places name → reaches n tables v name ≡ true → has (own_ranges tables places) v ≡ true
only_own tables places closed zero v name found h = absurd (false≢true h)
only_own tables places closed (suc n) v name found h =
    by (only_own tables places closed n v) (table_position tables name) (table_named tables name) (named_at tables name) found h
  where
    by : ((each : List ℕ) → IsFound tables places each → reaches n tables v each ≡ true → has (own_ranges tables places) v ≡ true) →
        (o : Option ℕ) (t : Option Table) → t ≡ option_map (table_at tables) o → ((p : ℕ) → o ≡ Some p → IsPlace places p) →
        option_map_or (table_has (reaches n tables v) v) t false ≡ true → has (own_ranges tables places) v ≡ true
    by each o None e there h = absurd (false≢true h)
    by each None (Some x) e there h = cc
    by each (Some p) (Some x) e there h =
        let is : x ≡ table_at tables p = cc in
        let on : IsPlace places p = there p refl in
        ⊎_elim (λ here. own_here tables v p places on (subst (λ (t : Table). has t.own v ≡ true) is here))
        (any_of (has (own_ranges tables places) v ≡ true) tables places (reaches n tables v) each x.named
        (subst (λ (t : Table). AreFound tables places t.named) (sym is) (closed p on)))
        (or_cases (has x.own v) (list_any (reaches n tables v) x.named) h)

pub same_truth : (a b : Bool) → (a ≡ true → b ≡ true) → (b ≡ true → a ≡ true) → a ≡ b
same_truth true b f g = sym (f refl)
same_truth false true f g = g refl
same_truth false false f g = refl

regular_ranges : (n : ℕ) (ranges : List Iv) → IsRegularFrom n ranges → AllByRecursion (λ (x : Iv). x.lo ≤ x.hi) ranges
regular_ranges n [] r = tt
regular_ranges n (x ∷ ranges) r = (r.1, regular_ranges (x.hi + 2) ranges r.2)

all_both : (xs ys : List Iv) → AllByRecursion (λ (x : Iv). x.lo ≤ x.hi) xs → AllByRecursion (λ (x : Iv). x.lo ≤ x.hi) ys → AllByRecursion (λ (x : Iv). x.lo ≤ x.hi) (xs ++ ys)
all_both [] ys a b = b
all_both (x ∷ xs) ys a b = (a.0, all_both xs ys a.1 b)

own_are_ranges : (tables : List Table) (places : List ℕ) → AreRegularAt tables places → AllByRecursion (λ (x : Iv). x.lo ≤ x.hi) (own_ranges tables places)
own_are_ranges tables [] r = tt
own_are_ranges tables (p ∷ places) r =
    all_both (table_at tables p).own (own_ranges tables places) (regular_ranges 0 (table_at tables p).own r.0) (own_are_ranges tables places r.1)

pub are_ranges : (tables : List Table) (places : List ℕ) (ranges : List Iv) → ranges ≡ own_ranges tables places → AreRegularAt tables places → AreRanges ranges
are_ranges tables places ranges is r = subst AreRanges (sym is) (All-from_recursion (λ (x : Iv). x.lo ≤ x.hi) (own_ranges tables places) (own_are_ranges tables places r))

-- the addresses of a table are those that stand in the tables that it reaches
pub closure_is : (same : SameMembersSameList) (reg : RangesAreRegular) (adds : RangesAddMembers) (many : ManyRangesAddMembers) (tables : List Table) (name places : List ℕ) →
    (ranges set : List Iv) → IsClosure tables name places → AreRegularAt tables places → ranges ≡ own_ranges tables places → set ≡ with_ranges [] ranges →
    set ≡ table_set tables name
closure_is same reg adds many tables name places ranges set c r are is =
    let made = many ranges (are_ranges tables places ranges are r) in
    let defined = within_is reg adds tables places c.closed r (length tables) name c.root in
    is
    ∙ same (with_ranges [] ranges) (table_set tables name) made.0 defined.0
    (λ v. made.1 v ∙ ap (λ l. has l v) are
    ∙ same_truth (has (own_ranges tables places) v) (reaches (length tables) tables v name)
    (λ on. let at = own_cases tables v places on in c.within at.0 v at.1 at.2)
    (only_own tables places c.closed (length tables) v name c.root)
    ∙ sym (defined.1 v))

-- what the code shows of these
pub shown_ranges : (tables shown : List Table) (places keys : List ℕ) (ranges items : List Iv) → shown ≡ tables → keys ≡ places → ranges ≡ own_ranges shown keys →
    items ≡ ranges → AreRegularAt shown keys → (items ≡ own_ranges tables places) × AreRegularAt tables places
shown_ranges tables shown places keys ranges items s k are is r = (
  is ∙ are ∙ ap (λ (ts : List Table). own_ranges ts keys) s ∙ ap (own_ranges tables) k,
  subst (λ (l : List ℕ). AreRegularAt tables l) k (subst (λ (ts : List Table). AreRegularAt ts keys) s r),
)

-- the addresses of a table that names no other are its own
pub own_alone : (tables : List Table) (name : List ℕ) (p : ℕ) (t : Table) → table_position tables name ≡ Some p → t ≡ table_at tables p → t.named ≡ [] → t.own ≡ table_set tables name
own_alone [] name p t at is none = absurd (let k : None ≡ Some p = at in cc)
own_alone (u ∷ tables) name p t at is none =
    let all = u ∷ tables in
    let named : table_named all name ≡ Some t = named_at all name ∙ ap (option_map (table_at all)) at ∙ ap (λ (x : Table). Some x) (sym is) in
    let within = addresses_within (length tables) all in
    sym
    (ap (λ (o : Option Table). option_map_or (λ (x : Table). with_sets within x.own x.named) o []) named
    ∙ ap (with_sets within t.own) none)
