-- Entries are counted through all lists.
use Rattle.std.proofs.Common.{◌≡◌, ℕ, suc, ◌+◌, ◌≤◌, Bool, true, false, cond, Option, Some, None, List, [], ◌∷◌, map, sum, length, find, slice_get, arith, refl, sym, ap, ◌∙◌}
use Rattle.std.proofs.lemmas.List.Sums.{sum-map, sum_by-cons}
use Rattle.std.specs.List.{position_from}
use Rattle.std.specs.Option.{option_map_or}
use Rattle.std.specs.Str.{bytes_eq}
use Rattle.fws_net.specs.declared.connection.Kind.{Kind}
use Rattle.fws_net.specs.declared.site.Site.{Site}
use Rattle.fws_net.specs.declared.transit.Transit.{Transit}
use Rattle.fws_ios.specs.declared.config.IosList.{IosList}
use Rattle.fws_ios.specs.Uses.{entries_used, list_used}
use Rattle.fws_ios.specs.Walk.{list_named}
use Rattle.fws_ios_ifcl.specs.Placed.{first_entry, first_entries}
use Rattle.fws_ios_ifcl.proofs.Named.{none, one}

-- how many entries lists have
abbrev pub entries_in : List IosList → ℕ
entries_in lists = sum (map (λ (l : IosList). length l.entries) lists)

pub entries_more : (l : IosList) (lists : List IosList) → entries_in (l ∷ lists) ≡ length l.entries + entries_in lists
entries_more l lists =
    let many : IosList → ℕ = λ (l : IosList). length l.entries in
    sum-map many (l ∷ lists) ∙ sum_by-cons many l lists ∙ ap (λ n. length l.entries + n) (sym (sum-map many lists))

none_given : (l : IosList) → ◌≡◌ {A = Option IosList} None (Some l) → ⊥
none_given l h = cc

one_given : (x l : IosList) → Some x ≡ Some l → x ≡ l
one_given x l h = cc

-- The first entry of a list

-- the entries of the list of a name are among all of them
pub first_within : (total n : ℕ) (name : List ℕ) (lists : List IosList) (l : IosList) → list_named name lists ≡ Some l → n + entries_in lists ≤ total
    → first_entry n name lists + length l.entries ≤ total
first_within total n name [] l is le = absurd (none_given l is)
first_within total n name (x ∷ lists) l is le =
    let all : entries_in (x ∷ lists) ≡ length x.entries + entries_in lists = entries_more x lists in
    by_name (bytes_eq x.name name) (λ h. first_within total (n + length x.entries) name lists l h (omega (arith, le, all))) (omega (arith, le, all)) is
  where
    by_name : (b : Bool) → (find (λ l. bytes_eq l.name name) lists ≡ Some l → first_entry (n + length x.entries) name lists + length l.entries ≤ total)
        → n + length x.entries ≤ total → cond b (Some x) (find (λ l. bytes_eq l.name name) lists) ≡ Some l
        → cond b n (first_entry (n + length x.entries) name lists) + length l.entries ≤ total
    by_name true later near h =
        let same : x ≡ l = one_given x l h in
        let many : length x.entries ≡ length l.entries = ap (λ (l : IosList). length l.entries) same in
        omega (arith, near, many)
    by_name false later near h = later h

-- what a list uses, by the number of its first entry
pub list_used_is : (site : Site) (k : Kind) (outward : Bool) (n : ℕ) (name : List ℕ) (lists : List IosList) (t : Transit)
    → option_map_or (λ (l : IosList). entries_used site k outward (first_entry n name lists) l.entries t) (list_named name lists) []
    ≡ list_used site k outward n name lists t
list_used_is site k outward n name [] t = refl
list_used_is site k outward n name (x ∷ lists) t =
    by_name (bytes_eq x.name name) (first_entry (n + length x.entries) name lists) (list_named name lists) (list_used site k outward (n + length x.entries) name lists t)
    (list_used_is site k outward (n + length x.entries) name lists t)
  where
    by_name : (b : Bool) (later : ℕ) (found : Option IosList) (rest : List ℕ)
        → option_map_or (λ (l : IosList). entries_used site k outward later l.entries t) found [] ≡ rest
        → option_map_or (λ (l : IosList). entries_used site k outward (cond b n later) l.entries t) (cond b (Some x) found) []
        ≡ cond b (entries_used site k outward n x.entries t) rest
    by_name true later found rest is = refl
    by_name false later found rest is = is

-- The numbers that are kept

pub as_many : (n : ℕ) (lists : List IosList) → length (first_entries n lists) ≡ length lists
as_many n [] = refl
as_many n (l ∷ lists) = ap suc (as_many (n + length l.entries) lists)

module _ (name : List ℕ) where
  abbrev bears : IosList → Bool
  bears l = bytes_eq l.name name

  -- the number that stands where the list of the name stands, counted from the first one's place
  abbrev Counted : ℕ → ℕ → ℕ → List IosList → Type 0
  Counted at i n lists = (k : ℕ) × (i ≡ at + k) × (slice_get (first_entries n lists) k ≡ Some (first_entry n name lists))

  counted : (at i n : ℕ) (lists : List IosList) → position_from bears at lists ≡ Some i → Counted at i n lists
  counted at i n [] is = absurd (none i is)
  counted at i n (l ∷ lists) is = by_name (bears l) (counted (at + 1) i (n + length l.entries) lists) is
    where
      by_name : (b : Bool) → (position_from bears (at + 1) lists ≡ Some i → Counted (at + 1) i (n + length l.entries) lists)
          → cond b (Some at) (position_from bears (at + 1) lists) ≡ Some i
          → (k : ℕ) × (i ≡ at + k) × (slice_get (first_entries n (l ∷ lists)) k ≡ Some (cond b n (first_entry (n + length l.entries) name lists)))
      by_name true later h = let same : at ≡ i = one at i h in (0, omega (arith, same), refl)
      by_name false later h = let there = later h in (suc there.0, omega (arith, there.1), there.2)

  pub counted_there : (lists : List IosList) (i : ℕ) → Some i ≡ position_from bears 0 lists → slice_get (first_entries 0 lists) i ≡ Some (first_entry 0 name lists)
  counted_there lists i is =
      let there = counted 0 i 0 lists (sym is) in
      let same : i ≡ there.0 = omega (arith, there.1) in
      ap (slice_get (first_entries 0 lists)) same ∙ there.2

  pub uncounted : (n : ℕ) (lists : List IosList) (at : ℕ) → position_from bears at lists ≡ None → first_entry n name lists ≡ 0
  uncounted n [] at is = refl
  uncounted n (l ∷ lists) at is = by_name (bears l) (uncounted (n + length l.entries) lists (at + 1)) is
    where
      by_name : (b : Bool) → (position_from bears (at + 1) lists ≡ None → first_entry (n + length l.entries) name lists ≡ 0)
          → cond b (Some at) (position_from bears (at + 1) lists) ≡ None → cond b n (first_entry (n + length l.entries) name lists) ≡ 0
      by_name true later h = absurd (none at (sym h))
      by_name false later h = later h
