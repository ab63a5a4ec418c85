use Rattle.fws_top.proofs.noting.code_of.Goals as goal

pub placed_code-requires : goal.placed_code-requires
placed_code-requires g c = c.in_ok-placed.ensures.placed.ok
