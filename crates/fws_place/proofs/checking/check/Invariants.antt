use Rattle.std.proofs.Common.{take, All}
use Rattle.fws_place.specs.Fits.{clauses_of, Meets}
use Rattle.fws_place.proofs.checking.check.Given as goal

abbrev pub invariant-loop-clause : goal.invariant-loop-clause
invariant-loop-clause l = All (Meets l.site l.tables) (take l.clause-index (clauses_of l.fn.target))
