use Rattle.fws_diagram.proofs.space.Space.+allowed_below.Given as goal

abbrev pub decreases-allowed_below : goal.decreases-allowed_below
decreases-allowed_below l = l.left
