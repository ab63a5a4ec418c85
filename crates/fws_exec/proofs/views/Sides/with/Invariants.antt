use Rattle.std.proofs.Common.{◌≡◌, true, List, take}
use Rattle.fws_net.specs.declared.condition.Lit.{Lit}
use Rattle.fws_exec.specs.Views.{shows_all}
use Rattle.fws_exec.proofs.views.Sides.with.Given as goal

abbrev pub invariant-loop-lit : goal.invariant-loop-lit
invariant-loop-lit l = record {
  shown : shows_all l.sides (take l.lit-index l.cond) ≡ true;
  kept : (other : List Lit) → shows_all l.fn.self other ≡ true → shows_all l.sides other ≡ true;
}
