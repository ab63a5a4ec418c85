use Rattle.std.proofs.Common.{◌≡◌, take}
use Rattle.std.specs.List.{list_all}
use Rattle.fws_net.specs.declared.view.View.{View}
use Rattle.fws_net.specs.Conditions.{lit_holds}
use Rattle.fws_exec.specs.Looks.{Tells, Shows}
use Rattle.fws_exec.proofs.look.Look.holds.Given as goal

abbrev pub invariant-loop-lit : goal.invariant-loop-lit
invariant-loop-lit l = (v : View) → Shows l.self v → v.tags ≡ l.progress.tags → Tells l.all (list_all (lit_holds v) (take l.lit-index l.cond))
