use Rattle.fws_suggest.proofs.style.Style.+cover_blocks.Given as goal

abbrev pub decreases-cover_blocks : goal.decreases-cover_blocks
decreases-cover_blocks l = l.bits
