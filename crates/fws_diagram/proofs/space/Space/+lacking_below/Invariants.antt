use Rattle.fws_diagram.proofs.space.Space.+lacking_below.Given as goal

abbrev pub decreases-lacking_below : goal.decreases-lacking_below
decreases-lacking_below l = l.left
