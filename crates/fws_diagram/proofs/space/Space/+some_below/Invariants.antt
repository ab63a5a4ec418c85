use Rattle.fws_diagram.proofs.space.Space.+some_below.Given as goal

abbrev pub decreases-some_below : goal.decreases-some_below
decreases-some_below l = l.left
