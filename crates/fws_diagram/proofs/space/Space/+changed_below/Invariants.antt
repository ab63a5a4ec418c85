use Rattle.fws_diagram.proofs.space.Space.+changed_below.Given as goal

abbrev pub decreases-changed_below : goal.decreases-changed_below
decreases-changed_below l = l.left
