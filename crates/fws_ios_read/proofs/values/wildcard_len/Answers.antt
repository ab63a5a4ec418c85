use Rattle.fws_ios.specs.Values.{wildcard_len}
use Rattle.fws_ios_read.proofs.Wildcards.{found, passed}
use Rattle.fws_ios_read.proofs.values.wildcard_len.Goals as goal

pub returns-then-wildcard_of-wildcard : goal.returns-then-wildcard_of-wildcard
returns-then-wildcard_of-wildcard c =
    found c.args.wildcard c.loop-len.len c.wildcard_of.result (wildcard_len c.args.wildcard) c.loop-len-test.true c.wildcard_of.ensures c.if-wildcard_of-wildcard.true c.loop-len.invariant

pub loop-len-preserved : goal.loop-len-preserved
loop-len-preserved c =
    passed c.args.wildcard c.loop-len.len c.wildcard_of.result (wildcard_len c.args.wildcard) c.loop-len-test.true c.wildcard_of.ensures c.if-wildcard_of-wildcard.false c.loop-len.invariant
