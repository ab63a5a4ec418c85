use Rattle.std.proofs.Common.{inl, inr}
use Rattle.std.proofs.lemmas.Option.{slice_get-get_or}
use Rattle.fws_tree.specs.declared.store.Cell.TheVariants.{Leaf}
use Rattle.fws_tree.proofs.Asking.{whole_left, whole_right, are_parted}
use Rattle.fws_tree.proofs.narrow.parted.Goals as goal

pub returns : goal.returns
returns c =
    let a = slice_get-get_or c.args.store.now c.args.a (Leaf 0) c.requires.a in
    let b = slice_get-get_or c.args.store.now c.args.b (Leaf 0) c.requires.b in
    let xs = c.view-left.result.0.now in
    are_parted c.args.store.now c.args.skips.masks.now c.args.skips.wanted c.args.skips.stay c.args.a c.args.b c.args.field _ _ c.in_ok-from-2.from _ xs c.view-right.result.0.now c.ask_all.new.parts.items c.view-left.ensures.own
    c.view-left.ensures.held c.view-right.ensures.held
    (whole_left xs c.ask_ranges.new.parts.items c.ask_all.new.parts.items c.in_ok-from-2.from c.in_ok-from.from c.view-left.result.1 c.view-right.result.1 c.in_ok-from-2.ensures.steps c.in_ok-from.ensures.left)
    (whole_right xs c.view-right.result.0.now c.ask_ranges.new.parts.items c.ask_all.new.parts.items c.in_ok-from-2.from c.in_ok-from.from c.view-right.result.1 c.in_ok-from-2.ensures.steps c.in_ok-from.ensures.right)
    c.in_ok-from-2.ensures.order.1 c.in_ok-from-2.ensures.run
    (λ n m ax al ay ar. c.in_ok-from-2.ensures.parts n m ax ar (c.in_ok-from.ensures.parts n m ax al ay))
    c.requires.a c.requires.b
    c.view-left.ensures.below c.view-left.ensures.last c.view-right.ensures.below c.view-right.ensures.last
    (elim (c.requires.cut _ _ a b) [ inl e ↦ inl (c.view-left.ensures.strict _ a e) | inr e ↦ inr (c.view-right.ensures.strict _ b e) ])
