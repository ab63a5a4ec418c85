use Rattle.fws_rules.proofs.Patterns.{with_mark, without_mark}
use Rattle.fws_rules.proofs.interfaces.before_mark.Goals as goal

pub returns-then-last-mark : goal.returns-then-last-mark
returns-then-last-mark c = with_mark c.args.mark c.args.text.now c.in_ok-last.front.now c.in_ok-last.last.now c.in_ok-last.ensures.cases.0 c.if-last-mark.true

pub returns-else-last-mark : goal.returns-else-last-mark
returns-else-last-mark c = without_mark c.args.mark c.args.text.now c.in_ok-last.front.now c.in_ok-last.last.now c.in_ok-last.ensures.cases.0 c.if-last-mark.false
