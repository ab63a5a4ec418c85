use Rattle.fws_diagram.proofs.space.Space.+leaves_below.Given as goal

abbrev pub decreases-leaves_below : goal.decreases-leaves_below
decreases-leaves_below l = l.left
