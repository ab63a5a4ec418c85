use Rattle.std.proofs.Common.{cond, Some, ◌∙◌, ap}
use Rattle.fws_box.specs.Sides.{whole_sides}
use Rattle.fws_flat.specs.Walk.{means}
use Rattle.fws_net.specs.declared.outcome.Outcome.TheVariants as outcomes
use Rattle.fws_net.specs.Points.{packet_of}
use Rattle.fws_exec.specs.Classes.{kind_of}
use Rattle.fws_exec.proofs.Reached.{have_all}
use Rattle.fws_exec.proofs.execution.execute_tree.Goals as goal

pub returns-clause-value : goal.returns-clause-value
returns-clause-value c p w =
    c.in_ok-tree.ensures.value p w
    ∙ ap (λ b. Some (cond b (means c.args.f.now c.args.site.now (packet_of p) (kind_of c.args.state p)) outcomes.Drop)) (have_all c.args.site.now c.in_ok-sides.sides (c.in_ok-sides.ensures ∙ ap whole_sides c.tops.ensures) p w)
