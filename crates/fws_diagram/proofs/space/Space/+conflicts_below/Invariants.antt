use Rattle.fws_diagram.proofs.space.Space.+conflicts_below.Given as goal

abbrev pub decreases-conflicts_below : goal.decreases-conflicts_below
decreases-conflicts_below l = l.left
