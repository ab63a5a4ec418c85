use Rattle.std.proofs.Common.{◌∙◌, ap}
use Rattle.fws_box.specs.Sides.{whole_sides}
use Rattle.fws_exec.proofs.Reached.{have_all}
use Rattle.fws_exec.proofs.reaching.reached.Goals as goal

pub returns-clause-unreached : goal.returns-clause-unreached
returns-clause-unreached c = c.in_ok-sheet.ensures.unreached (have_all c.args.purpose.now.site.now c.in_ok-sides.sides (c.in_ok-sides.ensures ∙ ap whole_sides c.tops.ensures))
