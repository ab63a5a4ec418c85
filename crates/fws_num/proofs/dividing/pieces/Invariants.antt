use Rattle.std.proofs.Common.{◌≡◌, [], ◌++◌, drop}
use Rattle.fws_num.specs.Pieces.{pieces_from}
use Rattle.fws_num.proofs.dividing.pieces.Given as goal

abbrev pub invariant-loop-c : goal.invariant-loop-c
invariant-loop-c l = l.pieces ++ pieces_from l.byte l.piece (drop l.c-index l.text) ≡ pieces_from l.byte [] l.text
