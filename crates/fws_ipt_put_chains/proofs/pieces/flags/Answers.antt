use Rattle.std.proofs.Common.{ap, ◌∙◌, arith}
use Rattle.std.specs.Prelude.{map}
use Rattle.std.proofs.lemmas.List.{take_all}
use Rattle.fws_ipt_put_chains.specs.Conds.{cube_cond}
use Rattle.fws_ipt_put_chains.proofs.Hits.{flag_pieces}
use Rattle.fws_ipt_put_chains.proofs.pieces.flags.Goals as goal

pub returns : goal.returns
returns c =
    let items = c.deref-cube-items.result.now in
    λ coming. flag_pieces coming c.args.set.now c.in_ok-all.all.items c.loop-cube.conds c.in_ok-all.ensures.once c.in_ok-all.ensures.within
    (c.loop-cube.invariant ∙ ap (map cube_cond) (take_all c.loop-cube.cube-index items (omega arith) ∙ c.deref-cube-items.ensures.value))
