-- The redirects of rows.
use Rattle.std.proofs.Common.{◌≡◌, ℕ, ◌+◌, ◌<◌, ◌≤◌, true, false, Option, Some, None, List, [], ◌∷◌, ◌++◌, ◌⊎◌, inl, inr, refl, sym, ◌∙◌, ap, subst, arith, length, get_or, take, All}
use Rattle.std.proofs.lemmas.Bool.{both_ways, cases_lt}
use Rattle.std.proofs.lemmas.List.{get_or_default, get_or_past, get_or_read, get_or-take, length-take-le, take_all, take_more}
use Rattle.std.proofs.lemmas.List.Elements.{All-nil, All-weaker, Contains-append_left, Contains-push_cases}
use Rattle.std.proofs.lemmas.List.Quantifiers.{Any-push}
use Rattle.std.specs.Prelude.{Any, Contains}
use Rattle.fws_iv.specs.declared.iv.Iv.{Iv}
use Rattle.fws_iv.specs.Ivs.{has}
use Rattle.fws_net.specs.declared.outcome.End.{End}
use Rattle.fws_net.specs.declared.outcome.Outcome.{Outcome}
use Rattle.fws_tree.specs.declared.row.Row.{Row}
use Rattle.fws_place.specs.declared.redirect.Redirect.{Redirect}
use Rattle.fws_place.specs.Gathered.{IsGathered, IsOfAddress, IsOfEnd, plain_redirect, served_redirect}
use Rattle.fws_place.proofs.Counting.{get_or_any}
use Rattle.fws_place.specs.RowRedirects.{AreAllOf, destination_of, HasNowhere, HaveSame, IsFewWith, IsFirstMany, IsManyWith, IsOfDestination, IsOfRow, IsOfRows, IsServed}

-- Some of the rows up to a place

any_before : {X : Type 0} (P : X → Type 0) (xs : List X) (at : ℕ) (d : X) → at < length xs → Any P (take at xs) → Any P (take (at + 1) xs)
any_before P xs at d lt any =
    let there = Contains-append_left (take at xs) (get_or xs at d ∷ []) any.1 (any.0, any.2, any.3) in
    subst (λ l. Any P l) (sym (take_more xs at d lt)) (there.0, any.1, there.1, there.2, any.4)

any_here : {X : Type 0} (P : X → Type 0) (xs : List X) (at : ℕ) (x : X) → at < length xs → x ≡ get_or xs at x → P x → Any P (take (at + 1) xs)
any_here P xs at x lt is p =
    subst (λ l. Any P l) (sym (take_more xs at x lt)) (Any-push P (take at xs) (get_or xs at x) (subst P is p))

any_cases : {X : Type 0} (P : X → Type 0) (xs : List X) (at : ℕ) (x : X) → at < length xs → x ≡ get_or xs at x → Any P (take (at + 1) xs) → Any P (take at xs) ⊎ P x
any_cases P xs at x lt is any =
    let there : Any P (take at xs ++ get_or xs at x ∷ []) = subst (λ l. Any P l) (take_more xs at x lt) any in
    elim (Contains-push_cases (take at xs) (get_or xs at x) there.1 (there.0, there.2, there.3)) [
      | inl early ↦ inl (early.0, there.1, early.1, early.2, there.4)
      | inr same ↦ inr (subst P (sym (is ∙ same)) there.4)
    ]

-- One row

addr_of : (port : Option ℕ) (e : End) (protos ports : List Iv) (x : ℕ) (r : Redirect) → IsOfAddress port e protos ports x r → r.public.addr ≡ x
addr_of None e protos ports x r of = ap (λ (s : Redirect). s.public.addr) of
addr_of (Some q) e protos ports x r of = ap (λ (s : Redirect). s.public.addr) of.3.3

-- an outcome that writes no destination
pub none_passed : (row : Row Outcome) (keys : List Redirect) → destination_of row.leaf ≡ None → length keys ≤ 4096 → IsFewWith row keys keys
none_passed row keys e few =
    let never : (r : Redirect) → IsOfRow row r → ⊥ = λ r of. subst (λ d. IsOfDestination row.sides d r) e of in
    record {
      gathered = record {
        different = λ d. d;
        longer = omega arith;
        kept = λ r there. there;
        within = λ r there. inl there;
        covered = λ few_keys r of. absurd (never r of);
      };
      few = few;
      somewhere = λ nowhere. never nowhere.0 nowhere.1;
    }

-- 0.0.0.0 is among the addresses
pub nowhere_passed : (row : Row Outcome) (old new : List Redirect) (e : End) → destination_of row.leaf ≡ Some e → IsServed row → has (get_or row.sides 2 []) 0 ≡ true → IsManyWith row old new
nowhere_passed row old new e is served there = inl (by e.port refl)
  where
    by : (port : Option ℕ) → e.port ≡ port → HasNowhere (λ r. IsOfRow row r)
    by None plain =
        let r : Redirect = plain_redirect e 0 in
        let of : IsOfAddress e.port e (get_or row.sides 1 []) (get_or row.sides 3 []) 0 r
        = subst (λ q. IsOfAddress q e (get_or row.sides 1 []) (get_or row.sides 3 []) 0 r) (sym plain) refl in
        (r, subst (λ d. IsOfDestination row.sides d r) (sym is) (0, there, omega arith, of), refl)
    by (Some port) written =
        let r : Redirect = served_redirect e 0 served.proto served.port in
        let of : IsOfAddress e.port e (get_or row.sides 1 []) (get_or row.sides 3 []) 0 r
        = subst (λ q. IsOfAddress q e (get_or row.sides 1 []) (get_or row.sides 3 []) 0 r) (sym written)
        (served.proto, served.proto_there, served.proto_low, (served.port, served.port_there, served.port_low, refl)) in
        (r, subst (λ d. IsOfDestination row.sides d r) (sym is) (0, there, omega arith, of), refl)

of_row : (row : Row Outcome) (old new : List Redirect) (e : End) → destination_of row.leaf ≡ Some e
    → IsGathered (λ r. IsOfEnd e (get_or row.sides 2 []) (get_or row.sides 1 []) (get_or row.sides 3 []) r) old new → IsGathered (λ r. IsOfRow row r) old new
of_row row old new e is g = subst (λ d. IsGathered (λ r. IsOfDestination row.sides d r) old new) (sym is) g

-- there are few with the row's redirects
pub few_passed : (row : Row Outcome) (old new : List Redirect) (e : End) → destination_of row.leaf ≡ Some e → has (get_or row.sides 2 []) 0 ≡ false
    → IsGathered (λ r. IsOfEnd e (get_or row.sides 2 []) (get_or row.sides 1 []) (get_or row.sides 3 []) r) old new → length new ≤ 4096 → IsFewWith row old new
few_passed row old new e is absent g few = record {
  gathered = of_row row old new e is g;
  few = few;
  somewhere = λ nowhere.
      let of : IsOfEnd e (get_or row.sides 2 []) (get_or row.sides 1 []) (get_or row.sides 3 []) nowhere.0 = subst (λ d. IsOfDestination row.sides d nowhere.0) is nowhere.1 in
      let zero_there : has (get_or row.sides 2 []) 0 ≡ true = subst (λ x. has (get_or row.sides 2 []) x ≡ true)
      (sym (addr_of e.port e (get_or row.sides 1 []) (get_or row.sides 3 []) of.0 nowhere.0 of.3) ∙ nowhere.2) of.1 in
      both_ways (has (get_or row.sides 2 []) 0) absent zero_there;
}

-- there are too many
pub many_passed : (row : Row Outcome) (old new : List Redirect) (e : End) → destination_of row.leaf ≡ Some e
    → IsGathered (λ r. IsOfEnd e (get_or row.sides 2 []) (get_or row.sides 1 []) (get_or row.sides 3 []) r) old new → 4096 < length new → IsManyWith row old new
many_passed row old new e is g many = inr (of_row row old new e is g, many)

-- the sides of a row that has a protocol and a port, whatever stands for those that it hasn't
long : (row : Row Outcome) → IsServed row → 3 < length row.sides
long row served = elim (cases_lt 3 (length row.sides)) [
  | inl lt ↦ lt
  | inr le ↦ absurd (both_ways (has (get_or row.sides 3 []) served.port) (ap (λ s. has s served.port) (get_or_past row.sides 3 [] le)) served.port_there)
]

pub side_is : (row : Row Outcome) → IsServed row → (k : ℕ) (d : List Iv) → k ≤ 3 → get_or row.sides k d ≡ get_or row.sides k []
side_is row served k d le = let lt : 3 < length row.sides = long row served in get_or_default row.sides k d [] (omega arith)

pub sides_gathered : (row : Row Outcome) → IsServed row → (old new : List Redirect) (e : End) (c d f : List Iv)
    → IsGathered (λ r. IsOfEnd e (get_or row.sides 2 c) (get_or row.sides 1 d) (get_or row.sides 3 f) r) old new
    → IsGathered (λ r. IsOfEnd e (get_or row.sides 2 []) (get_or row.sides 1 []) (get_or row.sides 3 []) r) old new
sides_gathered row served old new e c d f g =
    subst (λ s. IsGathered (λ r. IsOfEnd e s (get_or row.sides 1 []) (get_or row.sides 3 []) r) old new) (side_is row served 2 c (omega arith))
    (subst (λ s. IsGathered (λ r. IsOfEnd e (get_or row.sides 2 c) s (get_or row.sides 3 []) r) old new) (side_is row served 1 d (omega arith))
    (subst (λ s. IsGathered (λ r. IsOfEnd e (get_or row.sides 2 c) (get_or row.sides 1 d) s r) old new) (side_is row served 3 f (omega arith)) g))

-- rows with the same redirects
same_of : (row other : Row Outcome) → HaveSame row other → (r : Redirect) → IsOfRow other r → IsOfRow row r
same_of row other same r of = by (destination_of row.leaf) (destination_of other.leaf) same.destination of
  where
    of_sides : (d : Option End) → IsOfDestination other.sides d r → IsOfDestination row.sides d r
    of_sides None h = absurd h
    of_sides (Some e) h =
        subst (λ s. IsOfEnd e s (get_or row.sides 1 []) (get_or row.sides 3 []) r) (sym same.addrs)
        (subst (λ s. IsOfEnd e (get_or other.sides 2 []) s (get_or row.sides 3 []) r) (sym same.protos)
        (subst (λ s. IsOfEnd e (get_or other.sides 2 []) (get_or other.sides 1 []) s r) (sym same.ports) h))

    by : (c d : Option End) → c ≡ d → IsOfDestination other.sides d r → IsOfDestination row.sides c r
    by c d e h = of_sides c (subst (λ x. IsOfDestination other.sides x r) (sym e) h)

-- a row that brings none beside those of an earlier one
pub brings_same : (rows : List (Row Outcome)) (earlier at : ℕ) (first here row : Row Outcome) (r : Redirect) → earlier < at → at < length rows
    → first ≡ get_or rows earlier first → here ≡ get_or rows at here → HaveSame first here → IsOfRow (get_or rows at row) r → IsOfRows (take at rows) r
brings_same rows earlier at first here row r lt low is_first is_here same of =
    let is : here ≡ get_or rows at row = get_or_read rows at here low is_here row in
    let many : length (take at rows) ≡ at = length-take-le at rows (omega arith) in (
      earlier,
      first,
      omega arith,
      get_or-take at rows earlier first lt ∙ sym is_first,
      same_of first here same r (subst (λ x. IsOfRow x r) (sym is) of),
    )

pub brings_nothing : (rows : List (Row Outcome)) (at : ℕ) (here row : Row Outcome) (r : Redirect) → at < length rows → here ≡ get_or rows at here
    → destination_of here.leaf ≡ None → IsOfRow (get_or rows at row) r → IsOfRows (take at rows) r
brings_nothing rows at here row r low is_here none of =
    let is : here ≡ get_or rows at row = get_or_read rows at here low is_here row in
    let mine : IsOfRow here r = subst (λ x. IsOfRow x r) (sym is) of in
    absurd (subst (λ d. IsOfDestination here.sides d r) none mine)

-- Rows, one after another

pub rows_start : (rows : List (Row Outcome)) → AreAllOf (take 0 rows) []
rows_start rows = record {
  different = λ i j d lt le. absurd (omega arith);
  shown = All-nil _;
  covered = λ r any. absurd (let lt : any.0 < 0 = any.2 in omega arith);
  few = omega arith;
  somewhere = λ nowhere. let lt : nowhere.1.0 < 0 = nowhere.1.2 in omega arith;
}

pub rows_skip : (rows : List (Row Outcome)) (at : ℕ) (row : Row Outcome) (keys : List Redirect) → at < length rows → row ≡ get_or rows at row
    → ((r : Redirect) → IsOfRow row r → IsOfRows (take at rows) r) → AreAllOf (take at rows) keys → AreAllOf (take (at + 1) rows) keys
rows_skip rows at row keys lt is none old =
    let back : (r : Redirect) → IsOfRows (take (at + 1) rows) r → IsOfRows (take at rows) r
    = λ r any. elim (any_cases (λ x. IsOfRow x r) rows at row lt is any) [ inl early ↦ early | inr here ↦ none r here ] in
    record {
      different = old.different;
      shown = All-weaker (λ r. IsOfRows (take at rows) r) (λ r. IsOfRows (take (at + 1) rows) r) (λ r any. any_before (λ x. IsOfRow x r) rows at row lt any) keys old.shown;
      covered = λ r any. old.covered r (back r any);
      few = old.few;
      somewhere = λ nowhere. old.somewhere (nowhere.0, back nowhere.0 nowhere.1, nowhere.2);
    }

-- what was gathered is of the rows
grown : (rows : List (Row Outcome)) (at : ℕ) (row : Row Outcome) (old new : List Redirect) → at < length rows → row ≡ get_or rows at row
    → All (λ r. IsOfRows (take at rows) r) old → IsGathered (λ r. IsOfRow row r) old new → All (λ r. IsOfRows (take (at + 1) rows) r) new
grown rows at row old new lt is shown g k d low =
    let r : Redirect = get_or new k d in
    elim (g.within r (k, low, get_or_any new k r d low)) [
      | inl there ↦ any_before (λ x. IsOfRow x r) rows at row lt (at_item r there)
      | inr here ↦ any_here (λ x. IsOfRow x r) rows at row lt is here
    ]
  where
    at_item : (r : Redirect) → Contains old r → IsOfRows (take at rows) r
    at_item r there = subst (λ s. IsOfRows (take at rows) s) there.2 (shown there.0 r there.1)

pub rows_next : (rows : List (Row Outcome)) (at : ℕ) (row : Row Outcome) (old new : List Redirect) → at < length rows → row ≡ get_or rows at row
    → AreAllOf (take at rows) old → IsFewWith row old new → AreAllOf (take (at + 1) rows) new
rows_next rows at row old new lt is all added = record {
  different = added.gathered.different all.different;
  shown = grown rows at row old new lt is all.shown added.gathered;
  covered = λ r any. elim (any_cases (λ x. IsOfRow x r) rows at row lt is any) [
    | inl early ↦ added.gathered.kept r (all.covered r early)
    | inr here ↦ added.gathered.covered added.few r here
  ];
  few = added.few;
  somewhere = λ nowhere. elim (any_cases (λ x. IsOfRow x nowhere.0) rows at row lt is nowhere.1) [
    | inl early ↦ all.somewhere (nowhere.0, early, nowhere.2)
    | inr here ↦ added.somewhere (nowhere.0, here, nowhere.2)
  ];
}

pub rows_many : (rows : List (Row Outcome)) (at : ℕ) (row : Row Outcome) (old new : List Redirect) → at < length rows → row ≡ get_or rows at row
    → AreAllOf (take at rows) old → IsManyWith row old new → IsFirstMany rows at
rows_many rows at row old new lt is all many = record {
  within = lt;
  keys = old;
  before = all;
  here = elim many [
    | inl nowhere ↦ inl (nowhere.0, any_here (λ x. IsOfRow x nowhere.0) rows at row lt is nowhere.1, nowhere.2)
    | inr above ↦ inr (record {
      redirects = new;
      many = above.1;
      different = above.0.different all.different;
      shown = grown rows at row old new lt is all.shown above.0;
    })
  ];
}

-- all rows were passed
pub rows_end : (rows : List (Row Outcome)) (at : ℕ) (keys : List Redirect) → length rows ≤ at → AreAllOf (take at rows) keys → AreAllOf rows keys
rows_end rows at keys le all = subst (λ l. AreAllOf l keys) (take_all at rows le) all
