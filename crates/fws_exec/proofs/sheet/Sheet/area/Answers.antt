use Rattle.std.proofs.Common.{◌∙◌, ap}
use Rattle.fws_box.specs.Sides.{sides_have}
use Rattle.fws_net.specs.Points.{tops_of}
use Rattle.fws_exec.proofs.Dividing.{in_whole}
use Rattle.fws_exec.proofs.sheet.Sheet.area.Goals as goal

pub returns-then-is_crowd-clause-covers : goal.returns-then-is_crowd-clause-covers
returns-then-is_crowd-clause-covers c p w a = ap (λ s. sides_have s p) c.requires.ground.whole ∙ in_whole (tops_of c.args.ground.now.site.now) p w
