use Rattle.std.proofs.Common.{sym, ◌∙◌}
use Rattle.fws_top.specs.Asks.{is_item}
use Rattle.fws_top.proofs.Asking.{item_passed, item_failed, item_last}
use Rattle.fws_top.proofs.ask.are_items.Goals as goal

pub returns-then-not-is_item : goal.returns-then-not-is_item
returns-then-not-is_item c =
    item_failed (is_item c.args.subject) c.loop-item.rest.now c.in-Some.item.now c.in-Some.behind.now _ c.in-Some.ensures (sym c.is_item.ensures ∙ c.if-not-is_item.true) c.loop-item.invariant

pub loop-item-smaller : goal.loop-item-smaller
loop-item-smaller c = (c.behind_is_shorter.ensures 44 c.loop-item.rest.now c.in-Some.item.now c.in-Some.behind.now c.in-Some.ensures).0

pub loop-item-preserved : goal.loop-item-preserved
loop-item-preserved c =
    item_passed (is_item c.args.subject) c.loop-item.rest.now c.in-Some.item.now c.in-Some.behind.now _ c.in-Some.ensures (sym c.is_item.ensures ∙ c.if-not-is_item.false) c.loop-item.invariant

pub returns : goal.returns
returns c = c.is_item-2.ensures ∙ item_last (is_item c.args.subject) c.loop-item.rest.now _ c.in_default.ensures c.loop-item.invariant
