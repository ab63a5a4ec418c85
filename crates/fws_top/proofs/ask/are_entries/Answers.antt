use Rattle.std.proofs.Common.{sym, ◌∙◌}
use Rattle.fws_top.specs.Asks.{is_entry}
use Rattle.fws_top.proofs.Asking.{item_passed, item_failed, item_last}
use Rattle.fws_top.proofs.ask.are_entries.Goals as goal

pub returns-then-not-is_entry : goal.returns-then-not-is_entry
returns-then-not-is_entry c =
    item_failed (is_entry c.args.site.now) c.loop-item.rest.now c.in-Some.item.now c.in-Some.behind.now _ c.in-Some.ensures (sym c.is_entry.ensures ∙ c.if-not-is_entry.true) c.loop-item.invariant

pub loop-item-smaller : goal.loop-item-smaller
loop-item-smaller c = (c.behind_is_shorter.ensures 44 c.loop-item.rest.now c.in-Some.item.now c.in-Some.behind.now c.in-Some.ensures).0

pub loop-item-preserved : goal.loop-item-preserved
loop-item-preserved c =
    item_passed (is_entry c.args.site.now) c.loop-item.rest.now c.in-Some.item.now c.in-Some.behind.now _ c.in-Some.ensures (sym c.is_entry.ensures ∙ c.if-not-is_entry.false) c.loop-item.invariant

pub returns : goal.returns
returns c = c.is_entry-2.ensures ∙ item_last (is_entry c.args.site.now) c.loop-item.rest.now _ c.in_default.ensures c.loop-item.invariant
