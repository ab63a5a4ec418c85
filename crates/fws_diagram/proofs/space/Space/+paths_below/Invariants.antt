use Rattle.fws_diagram.proofs.space.Space.+paths_below.Given as goal

abbrev pub decreases-paths_below : goal.decreases-paths_below
decreases-paths_below l = l.left
