use Rattle.fws_diagram.proofs.space.Space.+met_below.Given as goal

abbrev pub decreases-met_below : goal.decreases-met_below
decreases-met_below l = l.left
