use Rattle.std.proofs.Common.{sym, ◌∙◌}
use Rattle.fws_pf_words.proofs.Uses.{goes_on, goes_shorter}
use Rattle.fws_pf_words.proofs.macros.last_text.Goals as goal

pub loop-behind-smaller : goal.loop-behind-smaller
loop-behind-smaller c = goes_shorter c.args.macros.now c.loop-behind.rest.now c.in-Some.behind.now (sym (rw c.in-Some.is at c.in_ok-behind.ensures))

pub loop-behind-preserved : goal.loop-behind-preserved
loop-behind-preserved c = λ line.
    sym (goes_on c.args.macros.now line c.loop-behind.rest.now c.in-Some.behind.now (sym (rw c.in-Some.is at c.in_ok-behind.ensures))) ∙ c.loop-behind.invariant line
