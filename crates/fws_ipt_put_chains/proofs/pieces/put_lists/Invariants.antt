use Rattle.std.proofs.Common.{◌≡◌, ◌++◌, map, take}
use Rattle.fws_ipt_put_chains.specs.Conds.{port_cond}
use Rattle.fws_ipt_put_chains.proofs.pieces.put_lists.Given as goal

abbrev pub invariant-loop-list : goal.invariant-loop-list
invariant-loop-list l = l.conds ≡ l.initial.conds ++ map (port_cond l.field l.proto) (take l.list-index l.lists)
