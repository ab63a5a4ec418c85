-- What is gathered for each rewriting.
use Rattle.std.proofs.Common.{◌≡◌, ◌≢◌, ℕ, zero, suc, ◌+◌, ◌<◌, true, slice_get, slice_set, get_or, take, Option, Some, None, position, List, [], ◌∷◌, length, eq-eqb, inl, inr, nat_eq, arith, refl, sym, ap, ◌∙◌, subst}
use Rattle.std.proofs.lemmas.Bool.{cases_Bool, eqb-true, false≢true}
use Rattle.fws_net.specs.declared.outcome.Outcome.{Outcome}
use Rattle.fws_net.specs.declared.outcome.Outcome.TheVariants.{Drop, Accept}
use Rattle.fws_net.specs.declared.outcome.Rewrite.{Rewrite}
use Rattle.fws_tree.specs.declared.row.Row.{Row}
use Rattle.fws_ipt_put.specs.declared.telling.Uses.{Uses}
use Rattle.fws_ipt_put.specs.Gathered.{AreUses, Covers, Grows, IsAmong, PutsRow}
use Rattle.fws_ipt_put.specs.Marks.{same_rewrite}
use Rattle.fws_ipt_put.proofs.Lists.{none_is, position_found, some_is}
use Rattle.fws_ipt_put.proofs.Rows.{covers_more}
use Rattle.fws_ipt_put.proofs.Written.{rewrite_itself}

-- an item that is put at its place, and those at other places
put_here : (xs : List Uses) (k : ℕ) (y u : Uses) → slice_get (slice_set xs k y) k ≡ Some u → (u ≡ y) × (v : Uses) × (slice_get xs k ≡ Some v)
put_here [] k y u at = absurd (none_is at)
put_here (x ∷ xs) zero y u at = (sym (some_is at), x, refl)
put_here (x ∷ xs) (suc k) y u at = put_here xs k y u at

put_there : (xs : List Uses) (i k : ℕ) (y u : Uses) → i ≢ k → slice_get (slice_set xs k y) i ≡ Some u → slice_get xs i ≡ Some u
put_there [] i k y u other at = at
put_there (x ∷ xs) zero zero y u other at = absurd (other refl)
put_there (x ∷ xs) zero (suc k) y u other at = at
put_there (x ∷ xs) (suc i) zero y u other at = at
put_there (x ∷ xs) (suc i) (suc k) y u other at = put_there xs i k y u (λ same. other (ap suc same)) at

set_size : (xs : List Uses) (k : ℕ) (y : Uses) → length (slice_set xs k y) ≡ length xs
set_size [] k y = refl
set_size (x ∷ xs) zero y = refl
set_size (x ∷ xs) (suc k) y = ap suc (set_size xs k y)

grows_itself : (u : Uses) → Grows u u
grows_itself u = record { entries = λ v h. h; protos = λ v h. h; dsts = λ v h. h; srcs = λ v h. h }

same_accept : (v w : Rewrite) → Accept v ≡ Accept w → v ≡ w
same_accept v w h = cc

-- a row that is dropped, or whose rewriting isn't among these
pub puts_dropped : (rewrites : List Rewrite) (row : Row Outcome) (uses : List Uses) → row.leaf ≡ Drop → PutsRow rewrites row uses uses
puts_dropped rewrites row uses leaf = λ w i u place at. (λ accepted. absurd (cc), u, at, grows_itself u)

pub puts_other : (rewrites : List Rewrite) (row : Row Outcome) (uses : List Uses) (rewrite : Rewrite) → row.leaf ≡ Accept rewrite → position (same_rewrite rewrite) rewrites ≡ None
    → PutsRow rewrites row uses uses
puts_other rewrites row uses rewrite leaf none = λ w i u place at. (
  λ accepted.
      let same : w ≡ rewrite = same_accept w rewrite (sym accepted ∙ leaf) in
      absurd (none_is (sym none ∙ ap (λ v. position (same_rewrite v) rewrites) (sym same) ∙ place)),
  u,
  at,
  grows_itself u,
)

-- what is searched for and not found
pub none_found : (o q : Option ℕ) → o ≡ q → ((x : ℕ) → o ≡ Some x → ⊥) → q ≡ None
none_found None q e h = sym e
none_found (Some x) q e h = absurd (h x refl)

-- a row whose rewriting has a place
pub puts_here : (rewrites : List Rewrite) (row : Row Outcome) (old new : List Uses) (rewrite : Rewrite) (k : ℕ) (before more : Uses) → row.leaf ≡ Accept rewrite
    → position (same_rewrite rewrite) rewrites ≡ Some k → slice_get old k ≡ Some before → new ≡ slice_set old k more → Covers more row → Grows before more → PutsRow rewrites row old new
puts_here rewrites row old new rewrite k before more leaf here was is covers grows = λ w i u place at.
    let found : slice_get (slice_set old k more) i ≡ Some u = ap (λ l. slice_get l i) (sym is) ∙ at in
    elim (cases_Bool (nat_eq i k)) [
      | inl at_it ↦ (let same : i ≡ k = eqb-true i k at_it in
          let put = put_here old k more u (subst (λ n. slice_get (slice_set old k more) n ≡ Some u) same found) in
          (λ accepted. subst (λ v. Covers v row) (sym put.0) covers, before, ap (slice_get old) same ∙ was, subst (Grows before) (sym put.0) grows))
      | inr off ↦ (let other : i ≢ k = λ same. false≢true (sym off ∙ eq-eqb i k same) in (
        λ accepted.
            let same : w ≡ rewrite = same_accept w rewrite (sym accepted ∙ leaf) in
            absurd (other (some_is (sym place ∙ ap (λ v. position (same_rewrite v) rewrites) same ∙ here))),
        u,
        put_there old i k more u other found,
        grows_itself u,
      ))
    ]

-- one more row
pub uses_more : (rewrites : List Rewrite) (old new : List Uses) (rows : List (Row Outcome)) (i : ℕ) (row : Row Outcome) → i < length rows → row ≡ get_or rows i row
    → AreUses rewrites old (take i rows) → PutsRow rewrites row old new → AreUses rewrites new (take (i + 1) rows)
uses_more rewrites old new rows i row below is before puts = λ w k u place at.
    let p = puts w k u place at in
    covers_more w p.1 u rows i row below is (before w k p.1 place p.2) p.0 p.3.entries p.3.protos p.3.dsts p.3.srcs

-- a rewriting among these has a place
pub has_place : (rewrites : List Rewrite) (w : Rewrite) → IsAmong rewrites w → position (same_rewrite w) rewrites ≡ None → ⊥
has_place rewrites w there none =
    let found = position_found (same_rewrite w) rewrites there.0 w there.1 (rewrite_itself w) in
    none_is (sym none ∙ found.1)
