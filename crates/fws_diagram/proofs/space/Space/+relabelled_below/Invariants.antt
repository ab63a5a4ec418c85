use Rattle.fws_diagram.proofs.space.Space.+relabelled_below.Given as goal

abbrev pub decreases-relabelled_below : goal.decreases-relabelled_below
decreases-relabelled_below l = l.left
