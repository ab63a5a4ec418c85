use Rattle.fws_ipt_print.proofs.LinesPut.{rules_more}
use Rattle.fws_ipt_print.proofs.lines.put_all_rules.Goals as goal

pub loop-chain-preserved : goal.loop-chain-preserved
loop-chain-preserved c =
    rules_more c.args.site.now c.args.chains.now c.args.table c.args.chains.now c.loop-chain.chain-index c.chain-item.result c.loop-chain.out _ _ c.loop-chain-test.true c.chain-item.is
    c.in_ok-put_rules_of.ensures c.loop-chain.invariant
