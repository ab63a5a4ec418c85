use Rattle.std.proofs.Common.{◌≡◌, true, take}
use Rattle.fws_exec.specs.Views.{shows_code}
use Rattle.fws_exec.proofs.views.Sides.of_code.Given as goal

abbrev pub invariant-loop-ins : goal.invariant-loop-ins
invariant-loop-ins l = shows_code l.sides (take l.ins-index l.code) ≡ true
