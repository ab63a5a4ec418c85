use Rattle.std.proofs.Common.{ap, ◌∙◌, ◌&&◌, not}
use Rattle.fws_iv.specs.Ivs.{has}
use Rattle.fws_box.proofs.Boxed.{piece_more, piece_none}
use Rattle.fws_box.proofs.pieces.add_outside.Goals as goal

pub returns-in_ok-push-clause-hits : goal.returns-in_ok-push-clause-hits
returns-in_ok-push-clause-hits c =
    rw c.in_ok-push.ensures.items
    (piece_more c.args.pieces.now.items c.args.area.now c.in-Some.piece c.args.field c.in_ok-outside.outside.now c.args.set.now c.in-Some.ensures
    (λ v. c.in_ok-outside.ensures.members v ∙ ap (λ s. has s v && not (has c.args.set.now v)) c.side.ensures.value))

pub returns-in_default-clause-hits : goal.returns-in_default-clause-hits
returns-in_default-clause-hits c =
    piece_none c.args.pieces.now.items c.args.area.now c.args.field c.in_ok-outside.outside.now c.args.set.now c.in_default.ensures
    (λ v. c.in_ok-outside.ensures.members v ∙ ap (λ s. has s v && not (has c.args.set.now v)) c.side.ensures.value)
