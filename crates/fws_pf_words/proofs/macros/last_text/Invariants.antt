use Rattle.std.proofs.Common.{◌≡◌, ℕ, [], length}
use Rattle.fws_pf.specs.Macros.{meant_from}
use Rattle.fws_pf_words.proofs.macros.last_text.Given as goal

abbrev pub invariant-loop-behind : goal.invariant-loop-behind
invariant-loop-behind l = (line : ℕ) → meant_from l.macros line [] l.rest ≡ meant_from l.macros line [] l.fn.text

abbrev pub decreases-loop-behind : goal.decreases-loop-behind
decreases-loop-behind l = length l.rest
