use Rattle.std.proofs.Common.{sym, subst}
use Rattle.fws_tree.specs.declared.node.Kid.{Kid}
use Rattle.fws_ipfw_put_rules.specs.Pieces.{IsProper}
use Rattle.fws_ipfw_put_rules.proofs.default.dearest.Goals as goal

pub price-requires : goal.price-requires
price-requires c =
    subst (λ (k : Kid). IsProper c.args.field k.set) (sym c.index-kids-i.is) (c.requires.proper c.loop-i.i c.index-kids-i.result c.loop-i-test.true)
