-- Tables of a circle have the same addresses.
use Rattle.std.proofs.Common.{◌≡◌, ℕ, zero, suc, ◌+◌, ◌<◌, ◌≤◌, Bool, true, false, not, ◌&&◌, ◌||◌, nat_eq, nat_lt, cond, Option, Some, None, option_map, List, [], ◌∷◌, ◌++◌, length, drop, get_or, slice_get, arith, refl, sym, ap, ◌∙◌, subst, ⊎_elim, ◌⊎◌, inl, inr, eqb-true, eq-eqb}
use Rattle.std.specs.List.{list_any, list_all}
use Rattle.std.specs.Option.{option_map_or}
use Rattle.std.proofs.lemmas.Bool.{false≢true, or_cases, or_left, or_right}
use Rattle.std.proofs.lemmas.Bool.Decides.{nat_tests}
use Rattle.indexmap.specs.IndexSet.{insert_key}
use Rattle.fws_iv.specs.declared.iv.Iv.{Iv}
use Rattle.fws_iv.specs.Ivs.{has, SameMembersSameList, RangesAreRegular, RangesAddMembers}
use Rattle.fws_pf.specs.declared.tables.Table.{Table}
use Rattle.fws_pf.specs.declared.value_draft.Item.{Item}
use Rattle.fws_pf.specs.declared.value_draft.Part.{Part}
use Rattle.fws_pf.specs.declared.value_draft.Part.TheVariants as parts
use Rattle.fws_pf.specs.Tables.{table_set}
use Rattle.fws_pf_words.specs.Circles.{HasNoSet, IsBack, IsSetAt, LeadsBack, NamesOneOf}
use Rattle.fws_pf_words.specs.Members.{names_of, with_name}
use Rattle.fws_pf_words.specs.Reached.{AreRegularAt, IsClosure, IsFound, IsPlace, IsReached, reaches, table_at, table_has, table_position, with_found, with_place, with_places}
use Rattle.fws_pf_words.proofs.Found.{all_reached, first_reached, in_longer, named_reaches, next_reached, no_more_than_tables}
use Rattle.fws_pf_words.proofs.Reaching.{named_at, only_own, own_cases, same_truth, within_is}

-- Ways that are long enough

-- the places that a name reaches
closure_from : (fuel : ℕ) (tables : List Table) (name places : List ℕ) (next : ℕ) → IsReached tables name places next → length tables ≤ next + fuel
    → (l : List ℕ) × IsClosure tables name l
closure_from zero tables name places next r le =
    let few : length places ≤ length tables = no_more_than_tables tables name places next r in (places, all_reached tables name places next r (omega arith))
closure_from (suc fuel) tables name places next r le =
    by (nat_lt next (length places)) refl (λ more further. closure_from fuel tables name more (next + 1) further (omega arith))
  where
    inside : (a b : ℕ) → nat_lt a b ≡ true → a < b
    inside a b e = grind (arith, nat_tests)

    past : (a b : ℕ) → nat_lt a b ≡ false → b ≤ a
    past a b e = grind (arith, nat_tests)

    by : (b : Bool) → nat_lt next (length places) ≡ b → ((more : List ℕ) → IsReached tables name more (next + 1) → (l : List ℕ) × IsClosure tables name l)
        → (l : List ℕ) × IsClosure tables name l
    by false e on = (places, all_reached tables name places next r (past next (length places) e))
    by true e on =
        let t = table_at tables (get_or places next 0) in
        let more = with_places tables places t.named in
        on more (next_reached tables name places more next t r (inside next (length places) e) refl refl)

-- what a name reaches, it reaches by way of no more tables than there are
stays : (tables : List Table) (name : List ℕ) (n v : ℕ) → reaches n tables v name ≡ true → reaches (length tables) tables v name ≡ true
stays tables name n v h =
    let c = closure_from (length tables) tables name (with_place tables [] name) 0 (first_reached tables name (with_place tables [] name) refl) (omega arith) in
    let at = own_cases tables v c.0 (only_own tables c.0 c.1.closed n v name c.1.root h) in
    c.1.within at.0 v at.1 at.2

-- a place that is reached from a name, and leads back to it, has the same table under any name that it is found for
pub same_set : SameMembersSameList → RangesAreRegular → RangesAddMembers → (tables : List Table) (name places : List ℕ) (p : ℕ) (s : List Iv)
    → IsClosure tables name places → AreRegularAt tables places → s ≡ table_set tables name → IsPlace places p → LeadsBack tables name p → IsSetAt tables s p
same_set same reg adds tables name places p s c regular is on lead other found =
    let n = length tables in
    let there : IsFound tables places other = λ q e. let here : p ≡ q = cc in subst (λ x. IsPlace places x) here on in
    let one = within_is reg adds tables places c.closed regular n name c.root in
    let two = within_is reg adds tables places c.closed regular n other there in
    is
    ∙ same (table_set tables name) (table_set tables other) one.0 two.0
    (λ v. one.1 v
    ∙ same_truth (reaches n tables v name) (reaches n tables v other)
    (λ h. let at = lead n v h in stays tables other (suc at.0) v (named_reaches tables other p at.0 v found at.1))
    (λ h. let at = own_cases tables v places (only_own tables places c.closed n v other there h) in c.within at.0 v at.1 at.2)
    ∙ sym (two.1 v))

-- Which places lead back

-- that of the name itself
root_leads : (tables : List Table) (name : List ℕ) (p : ℕ) → table_position tables name ≡ Some p → LeadsBack tables name p
root_leads tables name p is zero v h = absurd (false≢true h)
root_leads tables name p is (suc n) v h = (
  n,
  sym (ap (λ t. option_map_or (table_has (reaches n tables v) v) t false) (named_at tables name ∙ ap (option_map (table_at tables)) is)) ∙ h,
)

found_back : (tables : List Table) (name all : List ℕ) (o : Option ℕ) → table_position tables name ≡ o → IsFound tables all name → IsBack tables name all (with_found [] o)
found_back tables name all None is root = record { among = λ p on. absurd (false≢true on); lead = λ p on. absurd (false≢true on) }
found_back tables name all (Some q) is root = record {
  among = λ p on. subst (λ x. IsPlace all x) (sym (only p q on)) (root q is);
  lead = λ p on. subst (LeadsBack tables name) (sym (only p q on)) (root_leads tables name q is);
}
  where
    only : (a b : ℕ) → IsPlace (b ∷ []) a → a ≡ b
    only a b on = ⊎_elim (eqb-true a b) (λ none. absurd (false≢true none)) (or_cases (nat_eq a b) false on)

pub first_back : (tables : List Table) (name all new : List ℕ) → new ≡ with_place tables [] name → IsFound tables all name → IsBack tables name all new
first_back tables name all new is root =
    subst (IsBack tables name all) (sym is) (found_back tables name all (table_position tables name) refl root)

-- one that names such a place
names_back : (tables : List Table) (name : List ℕ) (p : ℕ) (places : List ℕ) → ((q : ℕ) → IsPlace places q → LeadsBack tables name q)
    → NamesOneOf tables places (table_at tables p).named → LeadsBack tables name p
names_back tables name p places lead one n v h =
    let at = lead one.place one.among n v h in
    let t = table_at tables p in (
      suc at.0,
      or_right (has t.own v) (list_any (reaches (suc at.0) tables v) t.named)
          (one.one (reaches (suc at.0) tables v) (named_reaches tables one.name one.place at.0 v one.found at.1)),
    )

pub one_more : (tables : List Table) (name all places new : List ℕ) (p : ℕ) → new ≡ insert_key nat_eq places p → IsPlace all p
    → NamesOneOf tables places (table_at tables p).named → IsBack tables name all places → IsBack tables name all new
one_more tables name all places new p is on one b = subst (IsBack tables name all) (sym is) (by (list_any (nat_eq p) places))
  where
    by : (c : Bool) → IsBack tables name all (cond c places (places ++ p ∷ []))
    by true = b
    by false = record {
      among = in_longer (IsPlace all) places p b.among on;
      lead = in_longer (LeadsBack tables name) places p b.lead (names_back tables name p places b.lead one);
    }

pub further : (tables : List Table) (places : List ℕ) (part : Part) (names : List (List ℕ)) → NamesOneOf tables places names → NamesOneOf tables places (with_name part names)
further tables places parts.Every names o = o
further tables places (parts.Set s) names o = o
further tables places (parts.Table name) names o = record {
  name = o.name;
  place = o.place;
  found = o.found;
  among = o.among;
  one = λ f h. or_right (f name) (list_any f names) (o.one f h);
}

names_at : (items : List Item) (i : ℕ) (d : Item) → i < length items → names_of (drop i items) ≡ with_name (get_or items i d).part (names_of (drop (i + 1) items))
names_at [] i d lt = absurd (omega arith)
names_at (x ∷ items) zero d lt = refl
names_at (x ∷ items) (suc i) d lt =
    let up : suc (i + 1) ≡ suc i + 1 = omega arith in
    names_at items i d (omega arith) ∙ ap (λ k. with_name (get_or items i d).part (names_of (drop k (x ∷ items)))) up

pub next_names : (items : List Item) (i : ℕ) (item : Item) → i < length items → item ≡ get_or items i item
    → names_of (drop i items) ≡ with_name item.part (names_of (drop (i + 1) items))
next_names items i item lt is = names_at items i item lt ∙ ap (λ (x : Item). with_name x.part (names_of (drop (i + 1) items))) (sym is)

-- whether some name of members is so

abbrev named : (List ℕ → Bool) → Item → Bool
named f item = not (list_any f (with_name item.part []))

none_by : (f : List ℕ → Bool) (part : Part) (names : List (List ℕ)) → not (list_any f (with_name part names)) ≡ (not (list_any f (with_name part [])) && not (list_any f names))
none_by f parts.Every names = refl
none_by f (parts.Set s) names = refl
none_by f (parts.Table name) names = by (f name) (list_any f names)
  where
    by : (a b : Bool) → not (a || b) ≡ (not (a || false) && not b)
    by true b = refl
    by false b = refl

none_named : (f : List ℕ → Bool) (items : List Item) → not (list_any f (names_of items)) ≡ list_all (named f) items
none_named f [] = refl
none_named f (item ∷ items) = none_by f item.part (names_of items) ∙ ap (λ b. named f item && b) (none_named f items)

same_by_not : (a b : Bool) → not a ≡ not b → a ≡ b
same_by_not true true h = refl
same_by_not false false h = refl
same_by_not true false h = absurd (false≢true h)
same_by_not false true h = absurd (false≢true (sym h))

pub same_named : (f : List ℕ → Bool) (kept list : List Item) → ((test : Item → Bool) → list_all test kept ≡ list_all test list)
    → list_any f (names_of kept) ≡ list_any f (names_of list)
same_named f kept list tests =
    same_by_not (list_any f (names_of kept)) (list_any f (names_of list)) (none_named f kept ∙ tests (named f) ∙ sym (none_named f list))

-- Sets at places

pub none_put : (sets : List (Option (List Iv))) → HasNoSet sets → HasNoSet (sets ++ None ∷ [])
none_put [] none zero s = λ e. let no : None ≡ Some s = cc in cc
none_put [] none (suc p) s = λ e. cc
none_put (x ∷ sets) none zero s = none zero s
none_put (x ∷ sets) none (suc p) s = none_put sets (λ q. none (suc q)) p s
