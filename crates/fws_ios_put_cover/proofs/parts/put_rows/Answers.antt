use Rattle.std.proofs.Common.{◌≡◌, ◌++◌, ◌∷◌, [], List, Bool, get_or, sym, ◌∙◌, ap, subst, take}
use Rattle.std.proofs.lemmas.List.{take_more}
use Rattle.fws_tree.specs.declared.row.Row.{Row}
use Rattle.fws_ios_put_entries.specs.declared.path.Path.{Path}
use Rattle.fws_ios_put_cover.specs.Inside.{AreFurther, HaveBox, HaveRows}
use Rattle.fws_ios_put_cover.proofs.Covered.{row_kept, row_passed}
use Rattle.fws_ios_put_cover.proofs.parts.put_rows.Goals.{then-row+in_ok-put_box, else-row}
use Rattle.fws_ios_put_cover.proofs.parts.put_rows.Goals as goal

pub loop-row-preserved : goal.loop-row-preserved
loop-row-preserved c =
    let site = c.args.site.now in
    let e = c.args.established in
    let within = c.args.within.now.1 in
    let rows = c.args.rows.now in
    let at = c.loop-row.row-index in
    let row : Row Bool = c.row-item.result in
    let old = c.args.kept.now.keys in
    let mid = c.loop-row.kept.keys in
    let new = c.if-row.kept.keys in
    let P : List (Row Bool) → Type 0 = λ l. AreFurther site e within old new × HaveRows site e l new in
    let there : (get_or rows at row) ≡ row = sym c.row-item.is in
    let step : P (take at rows ++ row ∷ []) = elim c.if-row.branch [
      | then-row+in_ok-put_box w ↦ (let box = w.put_box.new.kept.keys in
          let Q : List Path → Type 0 = λ l. AreFurther site e within mid l × HaveBox site e row.sides l in
          row_kept site e within (take at rows) row old mid new w.if-row.true c.loop-row.invariant (subst Q (sym (ap (λ k. k.keys) w.kept-is)) w.in_ok-put_box.ensures))
      | else-row w ↦ row_passed site e within (take at rows) row old mid new w.if-row.false (ap (λ k. k.keys) w.kept-is) c.loop-row.invariant
    ] in
    subst P (sym (take_more rows at row c.loop-row-test.true ∙ ap (λ (r : Row Bool). take at rows ++ r ∷ []) there)) step
