use Rattle.std.proofs.Common.{Bool, subst, sym}
use Rattle.fws_pf_ifcl.specs.Blocks.{IsFiltered}
use Rattle.fws_pf_ifcl.proofs.Putting.{in_their_order}
use Rattle.fws_pf_ifcl.proofs.filter.put_filter_rules.Goals as goal

pub returns-then-in_order : goal.returns-then-in_order
returns-then-in_order c =
    let outward = c.args.outward in
    let filter = c.args.filter.now in
    let before = c.args.rules.now.items in
    let after = c.put_met_rules.new.rules.items in
    subst (λ (b : Bool). IsFiltered b outward filter before after) (sym c.if-in_order.true)
    (in_their_order outward filter before after c.in_ok-put_met_rules.ensures)
