use Rattle.fws_iv.proofs.cube_list.+put_cubes.Given as goal

abbrev pub decreases-put_cubes : goal.decreases-put_cubes
decreases-put_cubes l = l.bits
