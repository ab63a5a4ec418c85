use Rattle.std.proofs.Common.{◌≡◌, List, Bool, true, sym, ◌∙◌, subst}
use Rattle.std.specs.List.{list_all}
use Rattle.fws_tree.specs.declared.row.Row.{Row}
use Rattle.fws_tree.specs.Plain.{value}
use Rattle.fws_ios_put_cover.proofs.Rows.{rows_true}
use Rattle.fws_ios_put_cover.proofs.boxes.is_true.Goals as goal

pub returns : goal.returns
returns c = λ all y within.
    let rows = c.in_ok-rows.rows.items in
    let every : list_all (λ row. row.leaf) rows ≡ true = subst (λ (l : List (Row Bool)). list_all (λ row. row.leaf) l ≡ true) c.deref.ensures.value (sym c.all_true.ensures ∙ all) in
    rows_true rows y (value c.args.tree.now.1 y) (c.in_ok-rows.ensures.once y within) (c.in_ok-rows.ensures.right y within) every
