use Rattle.std.proofs.Common.{rules}
use Rattle.fws_ipt_read.specs.Sets.{set_test}
use Rattle.fws_ipt_read.proofs.values.set_meaning.Goals as goal

pub returns-in_err-set : goal.returns-in_err-set
returns-in_err-set c = search (rules, c.in_err-set.ensures (set_test c.args.option))

pub returns : goal.returns
returns c = search (rules, c.in_ok-set.ensures (set_test c.args.option))
