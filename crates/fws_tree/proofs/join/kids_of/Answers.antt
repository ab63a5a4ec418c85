use Rattle.std.proofs.Common.{arith, length, ◌<◌, ◌≤◌, sym, subst}
use Rattle.fws_tree.specs.Building.{AreKidsTo}
use Rattle.fws_tree.proofs.Pieces.{row_at}
use Rattle.fws_tree.proofs.Gathering.{gathered-next, gathered-all}
use Rattle.fws_tree.proofs.join.kids_of.Goals as goal

pub add-requires-clause-whole : goal.add-requires-clause-whole
add-requires-clause-whole c = let lt : c.loop-piece.piece-index < length c.args.pieces.now = omega arith in
    (row_at 0 _ _ _ c.requires lt).1

pub add-requires-clause-kids : goal.add-requires-clause-kids
add-requires-clause-kids c = let lt : c.loop-piece.piece-index < length c.args.pieces.now = omega arith in
    subst (λ n. AreKidsTo n c.loop-piece.kids.items) (sym (row_at 0 _ _ _ c.requires lt).0) c.loop-piece.invariant.kids

pub loop-piece-preserved : goal.loop-piece-preserved
loop-piece-preserved c = let lt : c.loop-piece.piece-index < length c.args.pieces.now = omega arith in
    gathered-next _ _ _ _ _ _ _ c.loop-piece.invariant lt (record {
      kids = c.in_ok-add.ensures.kids;
      order = c.in_ok-add.ensures.order;
      different = c.add.ensures.different;
      kept = c.in_ok-add.ensures.kept;
      here = c.in_ok-add.ensures.here;
      named = c.in_ok-add.ensures.named;
    })

pub returns-clause-kids : goal.returns-clause-kids
returns-clause-kids c = let end : length c.args.pieces.now ≤ c.loop-piece.piece-index = omega arith in
    (gathered-all _ _ _ _ _ c.loop-piece.invariant end c.from_vec.ensures).kids

pub returns-clause-different : goal.returns-clause-different
returns-clause-different c = let end : length c.args.pieces.now ≤ c.loop-piece.piece-index = omega arith in
    (gathered-all _ _ _ _ _ c.loop-piece.invariant end c.from_vec.ensures).different

pub returns-clause-goes : goal.returns-clause-goes
returns-clause-goes c = let end : length c.args.pieces.now ≤ c.loop-piece.piece-index = omega arith in
    (gathered-all _ _ _ _ _ c.loop-piece.invariant end c.from_vec.ensures).goes

pub returns-clause-named : goal.returns-clause-named
returns-clause-named c = let end : length c.args.pieces.now ≤ c.loop-piece.piece-index = omega arith in
    (gathered-all _ _ _ _ _ c.loop-piece.invariant end c.from_vec.ensures).named
