use Rattle.fws_diagram.proofs.space.Space.+projected_below.Given as goal

abbrev pub decreases-projected_below : goal.decreases-projected_below
decreases-projected_below l = l.left
