use Rattle.std.proofs.Common.{List, get_or, ◌≡◌, ◌≢◌, ◌<◌, length, [], ◌∷◌, sym, ◌∙◌, ap}
use Rattle.std.proofs.lemmas.Result.{IfOk-weaker}
use Rattle.std.proofs.lemmas.Option.{slice_get_within}
use Rattle.fws_tree.specs.Building.{end_of}
use Rattle.fws_tree.specs.declared.node.Kid.{Kid}
use Rattle.fws_tree.specs.Plain.{branch}
use Rattle.fws_tree.proofs.Joining.{of_pieces, lone_over, lone, lone_fact, lone_reduced, lone_branch, many_reduced, cut_branch}
use Rattle.std.proofs.Common.{ℕ, arith}
use Rattle.fws_tree.specs.declared.join.Piece.{Piece}
use Rattle.fws_tree.proofs.Pieces.{row_at}
use Rattle.fws_tree.proofs.Subtrees.{many_over, added_last}
use Rattle.fws_tree.proofs.join.join.Goals as goal

is_lone : (c : goal.After-drop-kids-inside) → c.in_ok-kids.kids ≡ get_or c.as_slice-found.result.now 0 c.index-found-0.result ∷ []
is_lone c = sym c.as_slice-found.ensures ∙ lone c.as_slice-found.result.now c.index-found-0.result c.if-found-eq1.true

pub returns-then-found-eq1-clause-number : goal.returns-then-found-eq1-clause-number
returns-then-found-eq1-clause-number c =
    lone_fact (λ n. n < length c.args.arena.now) c.args.pieces.now c.in_ok-kids.kids (get_or c.as_slice-found.result.now 0 c.index-found-0.result) (is_lone c) c.in_ok-kids.ensures.named c.requires.below

pub returns-then-found-eq1-clause-reduced : goal.returns-then-found-eq1-clause-reduced
returns-then-found-eq1-clause-reduced c = λ top tops e all.
    lone_reduced c.args.arena.now c.args.field top tops c.args.pieces.now c.in_ok-kids.kids (get_or c.as_slice-found.result.now 0 c.index-found-0.result) (is_lone c) c.in_ok-kids.ensures.named all

pub returns-then-found-eq1-clause-branches : goal.returns-then-found-eq1-clause-branches
returns-then-found-eq1-clause-branches c = λ tops all k d lt x lo hi.
    lone_branch c.args.arena.now c.args.field _ x tops c.args.pieces.now c.in_ok-kids.kids (get_or c.as_slice-found.result.now 0 c.index-found-0.result) (is_lone c) c.in_ok-kids.ensures.named all (c.in_ok-kids.ensures.goes k d lt x lo hi)

pub intern-requires-clause-below : goal.intern-requires-clause-below
intern-requires-clause-below c = of_pieces (λ n. n < length c.args.arena.now) _ _ c.in_ok-kids.ensures.named c.requires.below

pub returns-clause-number : goal.returns-clause-number
returns-clause-number c = IfOk-weaker c.intern.result _ _ (λ r e. slice_get_within _ r _ e) c.intern.ensures.number

pub returns-clause-reduced : goal.returns-clause-reduced
returns-clause-reduced c =
    let same : length c.as_slice-found.result.now ≡ length c.in_ok-kids.kids = ap (λ (ks : List Kid). length ks) c.as_slice-found.ensures in
    let ne : length c.in_ok-kids.kids ≢ 1 = λ e. c.if-found-eq1.false (same ∙ e) in
    IfOk-weaker c.intern.result _ _ (λ r t. λ top tops e all.
    many_reduced c.args.arena.now c.intern.new.self r c.args.field (end_of 0 c.args.pieces.now) top tops c.args.pieces.now c.in_ok-kids.kids t
    c.requires.arena c.in_ok-kids.ensures.kids e c.in_ok-kids.ensures.different ne c.in_ok-kids.ensures.named c.requires.below all) c.intern.ensures.tree

pub returns-clause-branches : goal.returns-clause-branches
returns-clause-branches c = IfOk-weaker c.intern.result _ _ (λ r t. λ tops all k d lt x lo hi.
    ap (λ u. branch c.args.field u x) t
    ∙ cut_branch c.args.arena.now c.in_ok-kids.kids c.args.field (end_of 0 c.args.pieces.now) _ x c.in_ok-kids.ensures.kids (c.in_ok-kids.ensures.goes k d lt x lo hi)) c.intern.ensures.tree

pub returns-then-found-eq1-clause-over : goal.returns-then-found-eq1-clause-over
returns-then-found-eq1-clause-over c = λ k d lt u s.
    let p : Piece ℕ = get_or c.args.pieces.now k d in
    lone_over c.args.arena.now p.held p.lo c.in_ok-kids.kids (get_or c.as_slice-found.result.now 0 c.index-found-0.result) u (is_lone c)
    (c.in_ok-kids.ensures.goes k d lt p.lo (omega arith) (row_at 0 c.args.pieces.now k d c.requires.row lt).1) s

pub returns-clause-over : goal.returns-clause-over
returns-clause-over c = IfOk-weaker c.intern.result _ _ (λ r t. λ k d lt u s.
    let p : Piece ℕ = get_or c.args.pieces.now k d in
    many_over c.args.arena.now c.intern.new.self r c.args.field p.held p.lo c.in_ok-kids.kids u t
    (c.in_ok-kids.ensures.goes k d lt p.lo (omega arith) (row_at 0 c.args.pieces.now k d c.requires.row lt).1) s) c.intern.ensures.tree

pub returns-clause-added : goal.returns-clause-added
returns-clause-added c = IfOk-weaker c.intern.result _ _ (λ r is. λ k le lt.
    added_last c.args.arena.now c.intern.new.self _ r k c.intern.ensures.arena.different c.intern.ensures.grown is le lt) c.intern.ensures.number
