use Rattle.std.proofs.Common.{◌≡◌, ◌++◌, drop, map}
use Rattle.fws_ipt_put.specs.NatRules.{block_rule}
use Rattle.fws_ipt_put.proofs.nat.put_blocks.Given as goal

abbrev pub invariant-loop-block : goal.invariant-loop-block
invariant-loop-block l =
    l.rules ++ map (block_rule l.on_source l.tag l.end) (drop l.block-index l.blocks) ≡ l.fn.rules ++ map (block_rule l.on_source l.tag l.end) l.blocks
