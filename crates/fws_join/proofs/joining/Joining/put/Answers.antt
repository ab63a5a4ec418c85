use Rattle.std.proofs.Common.{◌++◌, ◌∷◌, [], ap, ◌∙◌}
use Rattle.fws_join.specs.declared.decision.Decision.{Decision}
use Rattle.fws_join.proofs.Standing.{one_more}
use Rattle.fws_join.proofs.joining.Joining.put.Goals as goal

pub returns : goal.returns
returns c =
    let one : Decision = record { cond = c.args.cond; passes = c.args.passes } in
    one_more c.make_room.new.self c.args.self.now c.push.new.self.items one (c.in_ok-push.ensures.items ∙ ap (λ l. l ++ one ∷ []) c.self.view_is)
    c.in_ok-make_room.ensures
