use Rattle.std.proofs.Common.{◌≡◌}
use Rattle.fws_tree.specs.Rows.{paths_of}
use Rattle.fws_tree.proofs.PathPoints.{paths_once, paths_right}
use Rattle.fws_tree.proofs.tree.Tree.paths.Given.{Over}
use Rattle.fws_tree.proofs.tree.Tree.paths.Goals as goal

listed : (g : Over) (c : goal.In_ok-each_row g) → c.each_row.new.by.rows.items ≡ paths_of c.args.self.now.0 c.args.self.now.1
listed g c = rw c.new.ensures.items at c.in_ok-each_row.ensures

pub returns-clause-once : goal.returns-clause-once
returns-clause-once g c = paths_once c.args.self.now.0 c.args.self.now.1 c.each_row.new.by.rows.items c.tops-tops.ensures.reduced (listed g c)

pub returns-clause-right : goal.returns-clause-right
returns-clause-right g c = paths_right c.args.self.now.0 c.args.self.now.1 c.each_row.new.by.rows.items c.tops-tops.ensures.reduced (listed g c)
