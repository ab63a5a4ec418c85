use Rattle.std.proofs.Common.{ap, ◌∙◌, arith}
use Rattle.std.specs.Prelude.{map}
use Rattle.std.proofs.lemmas.List.{take_all}
use Rattle.fws_pf_put_filter.specs.Pieces.{cube_lit}
use Rattle.fws_pf_put_filter.proofs.Hitting.{flag_pieces}
use Rattle.fws_pf_put_filter.proofs.set_pieces.flags.Goals as goal

pub returns : goal.returns
returns c =
    let items = c.deref-cube-items.result.now in
    flag_pieces c.args.set.now c.in_ok-all.all.items c.loop-cube.lits c.requires c.in_ok-all.ensures.once c.in_ok-all.ensures.within
    (c.loop-cube.invariant ∙ ap (map cube_lit) (take_all c.loop-cube.cube-index items (omega arith) ∙ c.deref-cube-items.ensures.value))
