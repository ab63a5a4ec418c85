use Rattle.std.proofs.Common.{◌-◌, arith, length, refl, subst}
use Rattle.fws_tree.specs.Plain.{IsReduced}
use Rattle.fws_tree.specs.Rows.{paths_of}
use Rattle.fws_tree.proofs.FirstPath.{IsFirst}
use Rattle.fws_tree.proofs.PathPoints.{paths_once, paths_right}
use Rattle.fws_tree.proofs.tree.Tree+bool.first_true.Goals as goal

pub returns-clause-first : goal.returns-clause-first
returns-clause-first c =
    subst (λ v. IsFirst (paths_of v.0 v.1) c.in_ok-found.found) c.self.view_is
    (rw (c.len.ensures, c.in_ok-sides.ensures, c.as_slice.ensures, c.as_slice-2.ensures) at c.in_ok-found.ensures)

reduced : (c : goal.After-array_drop-sides-2) → IsReduced c.args.self.now.0 c.args.self.now.1
reduced c = let some = c.self.invariant.shared.some in
    subst (λ v. IsReduced v.0 v.1) c.self.view_is (c.self.invariant.shared.reduced (length c.self.inside.nodes - 1) (omega arith))

pub returns-clause-once : goal.returns-clause-once
returns-clause-once c = paths_once c.args.self.now.0 c.args.self.now.1 (paths_of c.args.self.now.0 c.args.self.now.1) (reduced c) refl

pub returns-clause-right : goal.returns-clause-right
returns-clause-right c = paths_right c.args.self.now.0 c.args.self.now.1 (paths_of c.args.self.now.0 c.args.self.now.1) (reduced c) refl
