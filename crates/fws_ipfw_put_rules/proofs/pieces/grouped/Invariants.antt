use Rattle.std.proofs.Common.{◌≡◌, map}
use Rattle.fws_ipfw_put_rules.specs.Pieces.{set_lit}
use Rattle.fws_ipfw_put_rules.proofs.pieces.grouped.Given as goal

abbrev pub invariant-loop-group : goal.invariant-loop-group
invariant-loop-group l = l.lits ≡ map (set_lit l.field) l.yielded
