use Rattle.std.proofs.Common.{◌++◌, sym, ◌∙◌, ap, subst, append_assoc}
use Rattle.fws_tree.specs.declared.node.Kid.{Kid}
use Rattle.fws_ipfw_put_rules.specs.Pieces.{ArePieces, IsProper}
use Rattle.fws_ipfw_put_rules.specs.Turns.{turns_for}
use Rattle.fws_ipfw_put_rules.proofs.Turning.{kid_turns_more}
use Rattle.fws_ipfw_put_rules.proofs.turns.put_kids.Goals as goal

pub pieces-requires : goal.pieces-requires
pieces-requires c =
    subst (λ (k : Kid). IsProper c.args.field k.set) (sym c.kid-item.is) (c.requires c.loop-kid.kid-index c.kid-item.result c.loop-kid-test.true)

pub loop-kid-preserved : goal.loop-kid-preserved
loop-kid-preserved c =
    let kid = c.kid-item.result in
    let inv = c.loop-kid.invariant in
    let more = turns_for kid.node c.in_ok-lits.lits in (
      inv.0 ++ more,
      c.in_ok-put_literals.ensures ∙ ap (λ l. l ++ more) inv.1 ∙ append_assoc c.args.turns.now inv.0 more,
      kid_turns_more (ArePieces c.args.field) c.args.kids.now c.loop-kid.kid-index kid inv.0 c.in_ok-lits.lits c.loop-kid-test.true c.kid-item.is inv.2 c.in_ok-lits.ensures,
    )
