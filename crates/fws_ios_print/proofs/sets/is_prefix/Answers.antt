use Rattle.std.proofs.Common.{arith, sym, ◌∙◌}
use Rattle.fws_ios_print.specs.Printable.{is_prefix}
use Rattle.fws_ios_print.proofs.LinesPut.{found, none_found, passed}
use Rattle.fws_ios_print.proofs.sets.is_prefix.Goals as goal

pub returns-then-is_network : goal.returns-then-is_network
returns-then-is_network c = found c.args.iv c.loop-n.n (is_prefix c.args.iv) c.loop-n-test.true (sym c.is_network.ensures ∙ c.if-is_network.true) c.loop-n.invariant

pub loop-n-preserved : goal.loop-n-preserved
loop-n-preserved c = passed c.args.iv c.loop-n.n (is_prefix c.args.iv) c.loop-n-test.true (sym c.is_network.ensures ∙ c.if-is_network.false) c.loop-n.invariant

pub returns : goal.returns
returns c = none_found c.args.iv c.loop-n.n (is_prefix c.args.iv) (omega (arith, c.loop-n-test.false)) c.loop-n.invariant
