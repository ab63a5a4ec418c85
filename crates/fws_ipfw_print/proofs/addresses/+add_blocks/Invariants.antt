use Rattle.fws_ipfw_print.proofs.addresses.+add_blocks.Given as goal

abbrev pub decreases-add_blocks : goal.decreases-add_blocks
decreases-add_blocks l = l.bits
