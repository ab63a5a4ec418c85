use Rattle.std.proofs.Common.{sym, ◌∙◌, ap, subst}
use Rattle.std.proofs.lemmas.Option.{same_Some}
use Rattle.fws_box.specs.Sides.{IsWithin}
use Rattle.fws_tree.specs.Plain.{IsReduced}
use Rattle.fws_tree.specs.Rows.{paths_of}
use Rattle.fws_exec.proofs.rows.execute.Goals as goal

pub returns-clause-paths : goal.returns-clause-paths
returns-clause-paths c = (c.in_ok-tree.tree.1, subst (λ ts. IsReduced ts c.in_ok-tree.tree.1) c.in_ok-tree.ensures.tops c.in_ok-tree.ensures.reduced, c.in_ok-tree.ensures.value, c.in_ok-rows.ensures.rows ∙ ap (λ ts. paths_of ts c.in_ok-tree.tree.1) c.in_ok-tree.ensures.tops)

pub returns-clause-once : goal.returns-clause-once
returns-clause-once c p w = c.in_ok-rows.ensures.once p (subst (λ ts. IsWithin ts p) (sym c.in_ok-tree.ensures.tops) w)

pub returns-clause-right : goal.returns-clause-right
returns-clause-right c p w k d below has = same_Some _ _ (sym (c.in_ok-tree.ensures.value p w) ∙ c.in_ok-rows.ensures.right p (subst (λ ts. IsWithin ts p) (sym c.in_ok-tree.ensures.tops) w) k d below has)
