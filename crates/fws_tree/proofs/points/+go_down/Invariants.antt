use Rattle.fws_tree.proofs.points.+go_down.Given as goal

abbrev pub decreases-go_down : goal.decreases-go_down
decreases-go_down l = l.at
