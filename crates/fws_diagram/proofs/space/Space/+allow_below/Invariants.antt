use Rattle.fws_diagram.proofs.space.Space.+allow_below.Given as goal

abbrev pub decreases-allow_below : goal.decreases-allow_below
decreases-allow_below l = l.left
