use Rattle.fws_tree.proofs.Asking.{range_left, range_right, part_push}
use Rattle.fws_tree.proofs.narrow.ask_range.Goals as goal

pub returns-clause-left : goal.returns-clause-left
returns-clause-left c = range_left c.args.steps.now c.args.parts.now.items c.ask_all.new.parts.items c.push.new.self.items c.in_ok-begin.begin c.args.from c.reach-to.result c.end_at-end.result.next c.args.last c.args.hi
    c.end_at-end.result.node c.args.right c.reach-to.ensures.order.0 c.end_at-end.ensures.same c.in_ok-begin.ensures.steps c.in_ok-push.ensures.items

pub returns-clause-right : goal.returns-clause-right
returns-clause-right c = range_right c.args.steps.now c.args.parts.now.items c.ask_all.new.parts.items c.push.new.self.items c.in_ok-begin.begin c.args.from c.reach-to.result c.args.hi
    c.end_at-end.result.node c.args.right c.reach-to.ensures.below c.in_ok-begin.ensures.steps c.in_ok-push.ensures.items

pub returns-clause-parts : goal.returns-clause-parts
returns-clause-parts c n m all last right old = part_push c.args.skips.masks.now c.args.skips.wanted c.args.skips.stay c.args.steps.now n m c.ask_all.new.parts.items c.push.new.self.items _ c.in_ok-push.ensures.items
    (c.in_ok-begin.ensures.parts n m all right old)
    (record { order = (c.in_ok-begin.ensures.order.1, c.reach-to.ensures.order.1); run = c.in_ok-begin.ensures.run; below = (c.end_at-end.ensures.below n all last, right) })
