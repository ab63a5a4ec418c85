use Rattle.std.proofs.Common.{◌≡◌, ◌++◌, drop}
use Rattle.fws_ipt_ifcl.specs.Diagram.{stages_for}
use Rattle.fws_ipt_ifcl.proofs.stages.put_stages.Given as goal

abbrev pub invariant-loop-table : goal.invariant-loop-table
invariant-loop-table l = l.stages ++ stages_for l.chains (drop l.table-index l.places) ≡ l.fn.stages ++ stages_for l.chains l.places
