-- What is gathered for each source.
use Rattle.std.proofs.Common.{◌≡◌, ◌≢◌, ℕ, zero, suc, ◌+◌, ◌<◌, Bool, true, false, cond, ◌&&◌, not, nat_eq, IsTrue, slice_get, slice_set, slice_index, slice_index_or, get_or, take, Option, Some, None, position, List, [], ◌∷◌, ◌++◌, length, All, eq-eqb, inl, inr, arith, refl, sym, ap, ◌∙◌, subst}
use Rattle.std.proofs.lemmas.Bool.{and_from, and_parts, cases_Bool, eqb-true, false≢true, lt-ltb}
use Rattle.std.proofs.lemmas.List.Elements.{All-head, All-more, All-tail, All-weaker}
use Rattle.std.specs.List.{position_or_len}
use Rattle.std.specs.Option.{option_eq}
use Rattle.fws_box.specs.Sides.{IsWithin, sides_have}
use Rattle.fws_iv.specs.declared.iv.Iv.{Iv}
use Rattle.fws_iv.specs.Ivs.{has}
use Rattle.fws_net.specs.declared.outcome.End.{End}
use Rattle.fws_net.specs.declared.outcome.Outcome.{Outcome}
use Rattle.fws_net.specs.declared.outcome.Outcome.TheVariants.{Accept}
use Rattle.fws_tree.specs.declared.row.Row.{Row}
use Rattle.fws_tree.specs.Plain.{Plain, value}
use Rattle.fws_tree.specs.Rows.{row_hits}
use Rattle.fws_pf_put.specs.Gathered.{AreSets, Covers, CoversAll, Extends, HaveSources, IsAmong, IsAmongIf, IsWithinSet, PutsRow, TellSources, source_of}
use Rattle.fws_pf_put.specs.Sources.{same_end}

some_is : {X : Type 0} {x y : X} → Some x ≡ Some y → x ≡ y
some_is h = cc

none_is : {X : Type 0} {x : X} → None ≡ Some x → ⊥
none_is h = cc

-- Sources

got_more : (xs more : List End) (i : ℕ) (e : End) → slice_get xs i ≡ Some e → slice_get (xs ++ more) i ≡ Some e
got_more [] more i e h = absurd (none_is h)
got_more (x ∷ xs) more zero e h = h
got_more (x ∷ xs) more (suc i) e h = got_more xs more i e h

still_among : (old new : List End) → Extends old new → (end : Option End) → IsAmongIf old end → IsAmongIf new end
still_among old new extends None at = tt
still_among old new extends (Some e) at = (at.0, ap (λ l. slice_get l at.0) extends.1 ∙ got_more old extends.0 at.0 e at.1)

-- one more row
pub sources_more : (old new : List End) (rows : List (Row Outcome)) (i : ℕ) (row : Row Outcome) → i < length rows → row ≡ get_or rows i row
    → HaveSources old (take i rows) → IsAmongIf new (source_of row.leaf) → Extends old new → HaveSources new (take (i + 1) rows)
sources_more old new rows i row below is before here extends =
    let P : Row Outcome → Type 0 = λ (r : Row Outcome). IsAmongIf old (source_of r.leaf) in
    let Q : Row Outcome → Type 0 = λ (r : Row Outcome). IsAmongIf new (source_of r.leaf) in
    All-more Q rows i row below (All-weaker P Q (λ r h. still_among old new extends (source_of r.leaf) h) (take i rows) before) (subst Q is here)

-- Sets

covers_more : (e : End) (old new : List Iv) (rows : List (Row Outcome)) (i : ℕ) (row : Row Outcome) → i < length rows → row ≡ get_or rows i row
    → CoversAll e old (take i rows) → (source_of row.leaf ≡ Some e → Covers new row) → IsWithinSet old new → CoversAll e new (take (i + 1) rows)
covers_more e old new rows i row below is before here grows =
    let P : Row Outcome → Type 0 = λ (r : Row Outcome). source_of r.leaf ≡ Some e → Covers old r in
    let Q : Row Outcome → Type 0 = λ (r : Row Outcome). source_of r.leaf ≡ Some e → Covers new r in
    All-more Q rows i row below
    (All-weaker P Q (λ r covers leaf. let c = covers leaf in record { twelve = c.twelve; sources = λ v h. grows v (c.sources v h) }) (take i rows) before)
    (subst Q is here)

-- an item that is put at its place, and those at other places
put_here : (xs : List (List Iv)) (k : ℕ) (y u : List Iv) → slice_get (slice_set xs k y) k ≡ Some u → (u ≡ y) × (v : List Iv) × (slice_get xs k ≡ Some v)
put_here [] k y u at = absurd (none_is at)
put_here (x ∷ xs) zero y u at = (sym (some_is at), x, refl)
put_here (x ∷ xs) (suc k) y u at = put_here xs k y u at

put_there : (xs : List (List Iv)) (i k : ℕ) (y u : List Iv) → i ≢ k → slice_get (slice_set xs k y) i ≡ Some u → slice_get xs i ≡ Some u
put_there [] i k y u other at = at
put_there (x ∷ xs) zero zero y u other at = absurd (other refl)
put_there (x ∷ xs) zero (suc k) y u other at = at
put_there (x ∷ xs) (suc i) zero y u other at = at
put_there (x ∷ xs) (suc i) (suc k) y u other at = put_there xs i k y u (λ same. other (ap suc same)) at

-- a row that writes no source, or none among these
pub puts_none : (ends : List End) (row : Row Outcome) (sets : List (List Iv)) → source_of row.leaf ≡ None → PutsRow ends row sets sets
puts_none ends row sets none = λ e i u place at. (λ writes. absurd (none_is (sym none ∙ writes)), u, at, λ v h. h)

pub puts_other : (ends : List End) (row : Row Outcome) (sets : List (List Iv)) (end : End) → source_of row.leaf ≡ Some end → position (same_end end) ends ≡ None → PutsRow ends row sets sets
puts_other ends row sets end leaf none = λ e i u place at. (
  λ writes.
      let same : e ≡ end = some_is (sym writes ∙ leaf) in
      absurd (none_is (sym none ∙ ap (λ x. position (same_end x) ends) (sym same) ∙ place)),
  u,
  at,
  λ v h. h,
)

-- what is searched for and not found
pub none_found : (o q : Option ℕ) → o ≡ q → ((x : ℕ) → o ≡ Some x → ⊥) → q ≡ None
none_found None q e h = sym e
none_found (Some x) q e h = absurd (h x refl)

pub none_of : (o q : Option End) → o ≡ q → ((x : End) → o ≡ Some x → ⊥) → q ≡ None
none_of None q e h = sym e
none_of (Some x) q e h = absurd (h x refl)

-- a row whose source has a place
pub puts_here : (ends : List End) (row : Row Outcome) (old new : List (List Iv)) (end : End) (k : ℕ) (before more : List Iv) → source_of row.leaf ≡ Some end
    → position (same_end end) ends ≡ Some k → slice_get old k ≡ Some before → new ≡ slice_set old k more → Covers more row → IsWithinSet before more → PutsRow ends row old new
puts_here ends row old new end k before more leaf here was is covers grows = λ e i u place at.
    let found : slice_get (slice_set old k more) i ≡ Some u = ap (λ l. slice_get l i) (sym is) ∙ at in
    elim (cases_Bool (nat_eq i k)) [
      | inl at_it ↦ (let same : i ≡ k = eqb-true i k at_it in
          let put = put_here old k more u (subst (λ n. slice_get (slice_set old k more) n ≡ Some u) same found) in
          (λ writes. subst (λ v. Covers v row) (sym put.0) covers, before, ap (slice_get old) same ∙ was, subst (IsWithinSet before) (sym put.0) grows))
      | inr off ↦ (let other : i ≢ k = λ same. false≢true (sym off ∙ eq-eqb i k same) in (
        λ writes.
            let same : e ≡ end = some_is (sym writes ∙ leaf) in
            absurd (other (some_is (sym place ∙ ap (λ x. position (same_end x) ends) same ∙ here))),
        u,
        put_there old i k more u other found,
        λ v h. h,
      ))
    ]

-- one more row
pub sets_more : (ends : List End) (old new : List (List Iv)) (rows : List (Row Outcome)) (i : ℕ) (row : Row Outcome) → i < length rows → row ≡ get_or rows i row
    → AreSets ends old (take i rows) → PutsRow ends row old new → AreSets ends new (take (i + 1) rows)
sets_more ends old new rows i row below is before puts = λ e k u place at.
    let p = puts e k u place at in
    covers_more e p.1 u rows i row below is (before e k p.1 place p.2) p.0 p.3

-- Places

port_itself : (port : Option ℕ) → option_eq nat_eq port port ≡ true
port_itself None = refl
port_itself (Some n) = eq-eqb n n refl

end_itself : (e : End) → same_end e e ≡ true
end_itself e =
    and_from (nat_eq e.addr e.addr) (nat_eq e.len e.len && option_eq nat_eq e.port e.port) (eq-eqb e.addr e.addr refl)
    (and_from (nat_eq e.len e.len) (option_eq nat_eq e.port e.port) (eq-eqb e.len e.len refl) (port_itself e.port))

got_below : {X : Type 0} (xs : List X) (i : ℕ) (x : X) → slice_get xs i ≡ Some x → i < length xs
got_below [] i x is = absurd (none_is is)
got_below (y ∷ xs) zero x is = omega arith
got_below (y ∷ xs) (suc i) x is = let le = got_below xs i x is in omega (arith, le)

got : {X : Type 0} (xs : List X) (i : ℕ) → i < length xs → (x : X) × (slice_get xs i ≡ Some x)
got [] i low = absurd (omega (arith, low))
got (x ∷ xs) zero low = (x, refl)
got (x ∷ xs) (suc i) low = got xs i (omega (arith, low))

first_low : (p : End → Bool) (xs : List End) (i : ℕ) (x : End) → slice_get xs i ≡ Some x → p x ≡ true → position_or_len p xs < length xs
first_low p [] i x is passes = absurd (none_is is)
first_low p (y ∷ xs) i x is passes = by_first (p y) refl i is (λ j at. first_low p xs j x at passes) where
  by_first : (b : Bool) → p y ≡ b → (j : ℕ) → slice_get (y ∷ xs) j ≡ Some x → ((j : ℕ) → slice_get xs j ≡ Some x → position_or_len p xs < length xs)
      → cond (not b) (1 + position_or_len p xs) 0 < suc (length xs)
  by_first true here j at later = omega arith
  by_first false fails zero at later = absurd (false≢true (sym fails ∙ ap p (some_is at) ∙ passes))
  by_first false fails (suc j) at later = let low = later j at in omega (arith, low)

place_of_end : (ends : List End) (e : End) → IsAmong ends e → (i : ℕ) × (position (same_end e) ends ≡ Some i) × (i < length ends)
place_of_end ends e at =
    let low = first_low (same_end e) ends at.0 e at.1 (end_itself e) in
    (position_or_len (same_end e) ends, ap (λ b. cond b (Some (position_or_len (same_end e) ends)) None) (lt-ltb (position_or_len (same_end e) ends) (length ends) low), low)

-- Points

record RowAt (P : Row Outcome → Type 0) (p : List ℕ) : Type 0 where
  pub row : Row Outcome
  pub holds : sides_have row.sides p ≡ true
  pub such : P row

row_step : (P : Row Outcome → Type 0) (r : Row Outcome) (p : List ℕ) (hits : ℕ) → P r → (here : Bool) → sides_have r.sides p ≡ here → cond here 1 0 + hits ≢ 0 → (hits ≢ 0 → RowAt P p) → RowAt P p
row_step P r p hits such true is some later = record { row = r; holds = is; such = such }
row_step P r p hits such false is some later = later (λ none. some (ap (λ n. 0 + n) none))

row_at : (P : Row Outcome → Type 0) (rows : List (Row Outcome)) (p : List ℕ) → All P rows → row_hits rows p ≢ 0 → RowAt P p
row_at P [] p all some = absurd (some refl)
row_at P (r ∷ rows) p all some =
    row_step P r p (row_hits rows p) (All-head P r rows all) (sides_have r.sides p) refl some (row_at P rows p (All-tail P r rows all))

side_has : (sides : List (List Iv)) (p : List ℕ) (f : ℕ) → f < length sides → sides_have sides p ≡ true → has (slice_index_or sides f []) (slice_index p f) ≡ true
side_has [] p f low h = absurd (omega (arith, low))
side_has (s ∷ sides) [] f low h = absurd (false≢true h)
side_has (s ∷ sides) (x ∷ p) zero low h = (and_parts (has s x) (sides_have sides p) h).0
side_has (s ∷ sides) (x ∷ p) (suc f) low h = side_has sides p f (omega (arith, low)) (and_parts (has s x) (sides_have sides p) h).1

-- what rows tell of the sources of a tree
pub sources_told : (tops : List ℕ) (t : Plain Outcome) (rows : List (Row Outcome)) (ends : List End) (sets : List (List Iv)) → HaveSources ends rows → length sets ≡ length ends → AreSets ends sets rows
    → ((p : List ℕ) → IsWithin tops p → row_hits rows p ≡ 1)
    → ((p : List ℕ) → IsWithin tops p → All (λ (row : Row Outcome). IsTrue (sides_have row.sides p) → value t p ≡ Some row.leaf) rows)
    → TellSources tops t ends sets
sources_told tops t rows ends sets have size are once right p w e within is src =
    let P : Row Outcome → Type 0 = λ (row : Row Outcome). IsAmongIf ends (source_of row.leaf) in
    let Q : Row Outcome → Type 0 = λ (row : Row Outcome). IsTrue (sides_have row.sides p) → value t p ≡ Some row.leaf in
    let R : List Iv → Row Outcome → Type 0 = λ (s : List Iv) (row : Row Outcome). source_of row.leaf ≡ Some e → Covers s row in
    let one = once p within in
    let some : row_hits rows p ≢ 0 = λ none. omega (arith, one, none) in
    let first = row_at (λ row. P row × Q row) rows p (λ k d below. (have k d below, right p within k d below)) some in
    let leaf : first.row.leaf ≡ Accept w = some_is (sym (first.such.1 first.holds) ∙ is) in
    let writes : source_of first.row.leaf ≡ Some e = ap source_of leaf ∙ src in
    let place = place_of_end ends e (subst (IsAmongIf ends) writes first.such.0) in
    let low = place.2 in
    let set = got sets place.0 (omega (arith, low, size)) in
    let at = row_at (λ row. Q row × R set.0 row) rows p (λ k d below. (right p within k d below, are e place.0 set.0 place.1 set.1 k d below)) some in
    let leaf_at : at.row.leaf ≡ Accept w = some_is (sym (at.such.0 at.holds) ∙ is) in
    let covers : Covers set.0 at.row = at.such.1 (ap source_of leaf_at ∙ src) in
    let twelve = covers.twelve in
    record {
      place = place.0;
      set = set.0;
      found = place.1;
      there = set.1;
      among = covers.sources (slice_index p 4) (side_has at.row.sides p 4 (omega (arith, twelve)) at.holds);
    }
