use Rattle.std.proofs.Common.{◌≡◌, arith}
use Rattle.fws_ifcl_rules.proofs.Beside.{spot_put}
use Rattle.fws_ifcl_rules.proofs.spots.put_spot.Goals as goal

pub returns : goal.returns
returns c =
    let differs : c.args.from ≡ c.args.to → ⊥ = λ e. omega (arith, e, c.if-from-to.false) in
    spot_put c.args.chain c.args.from c.args.to c.args.number c.in_ok-rule.rule c.in_ok-place.place c.args.spots.now.items c.push.new.self.items differs c.in_ok-rule.ensures
    c.in_ok-place.ensures c.in_ok-push.ensures.items
