use Rattle.std.proofs.Common.{◌≡◌, ℕ, Bool, false, Some, List, sym, ◌∙◌, ap, subst}
use Rattle.std.proofs.lemmas.Result.{IfOk-weaker}
use Rattle.fws_box.specs.Sides.{IsWithin}
use Rattle.fws_tree.specs.declared.row.Row.{Row}
use Rattle.fws_tree.specs.Plain.{Plain, value}
use Rattle.fws_tree.specs.Rows.{first_leaf}
use Rattle.fws_place.specs.AheadOfLookup.{exchanged, exchanged_rows}
use Rattle.fws_place.proofs.Exchanging.{exchanged_value}
use Rattle.fws_place.proofs.drops_ahead_of_lookup.exchanged.Goals as goal

pub returns-clause-value : goal.returns-clause-value
returns-clause-value c =
    let tree = c.args.tree.now in
    let rows : List (Row Bool) = c.deref-2.result.now in
    let tops : List ℕ = c.tops-tops.result.now in
    let P : List ℕ × Plain Bool → Type 0 = λ t. (q : List ℕ) → IsWithin tops q → value t.1 q ≡ Some (first_leaf rows false q) in
    let Q : List ℕ × Plain Bool → Type 0 = λ t. (q : List ℕ) → IsWithin tree.0 q → IsWithin tree.0 (exchanged q) → value t.1 q ≡ value tree.1 (exchanged q) in
    let made : rows ≡ exchanged_rows c.in_ok-paths.paths.items
    = c.deref-2.ensures.value ∙ c.in_ok-rows.ensures ∙ ap (λ (l : List (Row Bool)). exchanged_rows l) c.deref.ensures.value in
    IfOk-weaker c.from_rows.result P Q
    (λ t h q w v. h q (subst (λ ts. IsWithin ts q) (sym c.tops-tops.ensures.value) w)
    ∙ exchanged_value tree.0 tree.1 c.in_ok-paths.paths.items rows c.tops-tops.ensures.twelve c.tops-tops.ensures.reduced c.in_ok-paths.ensures.rows made c.in_ok-paths.ensures.once
    c.in_ok-paths.ensures.right q w v)
    c.from_rows.ensures.value
