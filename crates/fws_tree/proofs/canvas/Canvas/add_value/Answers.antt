use Rattle.fws_tree.proofs.Cells.{extends-refl}
use Rattle.fws_tree.proofs.Covering.{masks-extend}
use Rattle.fws_tree.proofs.canvas.Canvas.add_value.Goals as goal

pub invariant_of-self : goal.invariant_of-self
invariant_of-self c = record {
  twelve = c.args.self.now.twelve;
  ordered = c.args.self.now.ordered;
  inside = c.args.self.now.inside;
  masked = masks-extend c.args.self.now.values c.add.new.self c.args.self.now.store c.args.self.now.store c.args.self.now.masks.items c.add.ensures.extends c.add.ensures.bounded
      (extends-refl c.args.self.now.store) c.args.self.now.masked;
}
