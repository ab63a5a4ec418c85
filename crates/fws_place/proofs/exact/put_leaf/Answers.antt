use Rattle.std.proofs.Common.{subst}
use Rattle.fws_place.specs.Exactly.{IsPut}
use Rattle.fws_place.proofs.Counting.{key_put}
use Rattle.fws_place.proofs.exact.put_leaf.Goals as goal

pub returns : goal.returns
returns g c =
    let old = c.args.kept.now.keys in
    let new = c.insert.new.self.keys in
    subst (λ x. IsPut old new x) c.in_ok-copy.ensures
    (key_put g.L.PartialEq.eq g.met.L.Leaf.exact g.met.L.Eq.laws old new c.in_ok-copy.field-0 c.in_ok-insert.ensures.keys c.in_ok-insert.ensures.unique)
