use Rattle.std.proofs.Common.{◌-◌}
use Rattle.fws_net.proofs.route_sets.+put_block.Given as goal

abbrev pub decreases-put_block : goal.decreases-put_block
decreases-put_block l = 32 - l.block.len
