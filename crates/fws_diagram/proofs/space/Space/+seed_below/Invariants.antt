use Rattle.fws_diagram.proofs.space.Space.+seed_below.Given as goal

abbrev pub decreases-seed_below : goal.decreases-seed_below
decreases-seed_below l = l.left
