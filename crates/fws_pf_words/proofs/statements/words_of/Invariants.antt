use Rattle.std.proofs.Common.{◌≡◌, ◌≤◌, ◌-◌, length, drop}
use Rattle.fws_pf.specs.Statements.{words_of}
use Rattle.fws_pf_words.specs.Ahead.{words_ahead}
use Rattle.fws_pf_words.proofs.statements.words_of.Given as goal

abbrev pub invariant-loop-i : goal.invariant-loop-i
invariant-loop-i l = record {
  within : l.i ≤ length l.bytes;
  ahead : words_ahead l.reader (drop l.i l.bytes) ≡ words_of l.line l.bytes;
}

abbrev pub decreases-loop-i : goal.decreases-loop-i
decreases-loop-i l = length l.bytes - l.i
