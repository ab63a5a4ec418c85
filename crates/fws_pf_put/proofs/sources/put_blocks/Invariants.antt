use Rattle.std.proofs.Common.{◌≡◌, ◌++◌, drop, map}
use Rattle.fws_pf_put.specs.Sources.{block_rule}
use Rattle.fws_pf_put.proofs.sources.put_blocks.Given as goal

abbrev pub invariant-loop-block : goal.invariant-loop-block
invariant-loop-block l =
    l.nats ++ map (block_rule l.tag l.end) (drop l.block-index l.blocks) ≡ l.fn.nats ++ map (block_rule l.tag l.end) l.blocks
