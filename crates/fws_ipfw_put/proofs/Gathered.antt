-- Ends that are gathered from rows and from redirects.
use Rattle.std.proofs.Common.{◌≡◌, ◌≢◌, ℕ, zero, suc, ◌+◌, ◌<◌, Bool, true, cond, false, IsTrue, Option, Some, None, slice_get, get_or, take, length, List, [], ◌∷◌, ◌++◌, All, arith, refl, sym, ap, ◌∙◌, subst}
use Rattle.std.proofs.lemmas.List.Elements.{All-head, All-more, All-tail, All-weaker}
use Rattle.fws_box.specs.Sides.{IsWithin, sides_have}
use Rattle.fws_net.specs.declared.outcome.End.{End}
use Rattle.fws_net.specs.declared.outcome.Outcome.{Outcome}
use Rattle.fws_net.specs.declared.outcome.Outcome.TheVariants.{Drop, Accept}
use Rattle.fws_place.specs.declared.redirect.Redirect.{Redirect as Shown}
use Rattle.fws_tree.specs.declared.row.Row.{Row}
use Rattle.fws_tree.specs.Plain.{Plain, value}
use Rattle.fws_tree.specs.Rows.{row_hits}
use Rattle.fws_ipfw_put.specs.Ends.{Extends, FitsEnd, HasSources, HaveDestinations, HaveSources, IsAmong, IsAmongIf, IsSourceOf}
use Rattle.fws_ipfw_put.proofs.Nats.{none_is, some_is}

got_more : (xs more : List End) (i : ℕ) (e : End) → slice_get xs i ≡ Some e → slice_get (xs ++ more) i ≡ Some e
got_more [] more i e h = absurd (none_is h)
got_more (x ∷ xs) more zero e h = h
got_more (x ∷ xs) more (suc i) e h = got_more xs more i e h

still_among : (old new : List End) → Extends old new → (e : End) → IsAmong old e → IsAmong new e
still_among old new extends e at = (at.0, ap (λ l. slice_get l at.0) extends.1 ∙ got_more old extends.0 at.0 e at.1)

still_source : (old new : List End) → Extends old new → (o : Outcome) → IsSourceOf old o → IsSourceOf new o
still_source old new extends Drop h = tt
still_source old new extends (Accept w) h = by_source w.src h where
  by_source : (src : Option End) → IsAmongIf old src → IsAmongIf new src
  by_source None h = tt
  by_source (Some e) h = still_among old new extends e h

-- one more row
pub sources_more : (old new : List End) (rows : List (Row Outcome)) (i : ℕ) (row : Row Outcome) → i < length rows → row ≡ get_or rows i row
    → HaveSources old (take i rows) → IsSourceOf new row.leaf → Extends old new → HaveSources new (take (i + 1) rows)
sources_more old new rows i row below is before here extends =
    let P : Row Outcome → Type 0 = λ (r : Row Outcome). IsSourceOf old r.leaf in
    let Q : Row Outcome → Type 0 = λ (r : Row Outcome). IsSourceOf new r.leaf in
    All-more Q rows i row below (All-weaker P Q (λ r h. still_source old new extends r.leaf h) (take i rows) before) (subst Q is here)

-- one more redirect
pub destinations_more : (old new : List End) (rs : List Shown) (i : ℕ) (r : Shown) → i < length rs → r ≡ get_or rs i r
    → HaveDestinations old (take i rs) → IsAmong new r.local → Extends old new → HaveDestinations new (take (i + 1) rs)
destinations_more old new rs i r below is before here extends =
    let P : Shown → Type 0 = λ (x : Shown). IsAmong old x.local in
    let Q : Shown → Type 0 = λ (x : Shown). IsAmong new x.local in
    All-more Q rs i r below (All-weaker P Q (λ x h. still_among old new extends x.local h) (take i rs) before) (subst Q is here)

pub fit_more : (rs : List Shown) (i : ℕ) (r : Shown) → i < length rs → r ≡ get_or rs i r → All (λ (x : Shown). FitsEnd x.local) (take i rs) → FitsEnd r.local
    → All (λ (x : Shown). FitsEnd x.local) (take (i + 1) rs)
fit_more rs i r below is before here = let Q : Shown → Type 0 = λ (x : Shown). FitsEnd x.local in All-more Q rs i r below before (subst Q is here)

-- Rows

-- the row in which a point lies
record RowAt (P : Row Outcome → Type 0) (p : List ℕ) : Type 0 where
  pub row : Row Outcome
  pub holds : sides_have row.sides p ≡ true
  pub such : P row

row_step : (P : Row Outcome → Type 0) (r : Row Outcome) (p : List ℕ) (hits : ℕ) → P r → (here : Bool) → sides_have r.sides p ≡ here → cond here 1 0 + hits ≢ 0 → (hits ≢ 0 → RowAt P p) → RowAt P p
row_step P r p hits such true is some later = record { row = r; holds = is; such = such }
row_step P r p hits such false is some later = later (λ none. some (ap (λ n. 0 + n) none))

row_at : (P : Row Outcome → Type 0) (rows : List (Row Outcome)) (p : List ℕ) → All P rows → row_hits rows p ≢ 0 → RowAt P p
row_at P [] p all some = absurd (some refl)
row_at P (r ∷ rows) p all some =
    row_step P r p (row_hits rows p) (All-head P r rows all) (sides_have r.sides p) refl some (row_at P rows p (All-tail P r rows all))

-- what rows give
pub has_sources : (tops : List ℕ) (t : Plain Outcome) (rows : List (Row Outcome)) (ends : List End) → HaveSources ends rows
    → ((p : List ℕ) → IsWithin tops p → row_hits rows p ≡ 1)
    → ((p : List ℕ) → IsWithin tops p → All (λ (row : Row Outcome). IsTrue (sides_have row.sides p) → value t p ≡ Some row.leaf) rows)
    → HasSources tops t ends
has_sources tops t rows ends have once right p w e within is src =
    let P : Row Outcome → Type 0 = λ (row : Row Outcome). IsSourceOf ends row.leaf in
    let Q : Row Outcome → Type 0 = λ (row : Row Outcome). IsTrue (sides_have row.sides p) → value t p ≡ Some row.leaf in
    let one = once p within in
    let found = row_at (λ row. P row × Q row) rows p (λ k d below. (have k d below, right p within k d below)) (λ none. omega (arith, one, none)) in
    let leaf : found.row.leaf ≡ Accept w = some_is (sym (found.such.1 found.holds) ∙ is) in
    subst (IsAmongIf ends) src (subst (IsSourceOf ends) leaf found.such.0)
