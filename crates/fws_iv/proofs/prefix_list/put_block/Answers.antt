use Rattle.fws_iv.proofs.Blocks.{block_added, block_ends}
use Rattle.fws_iv.proofs.prefix_list.put_block.Goals as goal

pub returns-clause-ends : goal.returns-clause-ends
returns-clause-ends c = block_ends _ _ _ _ c.requires.bits c.requires.aligned c.requires.fits c.requires.room c.in_ok-push.ensures.items

pub returns-clause-members : goal.returns-clause-members
returns-clause-members c = block_added _ _ _ _ c.requires.bits c.requires.aligned c.in_ok-push.ensures.items
