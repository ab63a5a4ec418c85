use Rattle.std.proofs.Common.{◌++◌, ◌∷◌, []}
use Rattle.fws_join.proofs.Standing.{stands_longer, stands_through}
use Rattle.fws_join.proofs.lists.joined_pairs.Goals as goal

pub loop-next-preserved : goal.loop-next-preserved
loop-next-preserved c =
    let fewer = c.loop-next.fewer.items in
    let yielded = c.loop-next.yielded in
    let next = c.in-Some.next in
    stands_through c.put_next.new.all.items (fewer ++ next ∷ []) (yielded ++ next ∷ []) c.in_ok-is_single.ensures
    (stands_longer fewer yielded (next ∷ []) c.loop-next.invariant)
