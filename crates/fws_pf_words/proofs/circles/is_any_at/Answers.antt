use Rattle.std.proofs.Common.{◌+◌, drop, arith, subst, sym}
use Rattle.fws_pf_words.specs.Circles.{NamesOneOf}
use Rattle.fws_pf_words.specs.Members.{names_of}
use Rattle.fws_pf_words.proofs.Circling.{further, next_names}
use Rattle.fws_pf_words.proofs.circles.is_any_at.Goals as goal

pub returns-then-is_at : goal.returns-then-is_at
returns-then-is_at c is =
    let items = c.args.items.now in
    let i = c.loop-item.item-index in
    let rest = names_of (drop (i + 1) items) in
    c.loop-item.invariant
    (subst (NamesOneOf c.args.tables.now c.args.back.now.keys) (sym (next_names items i _ (omega arith) c.item-item.is)) (c.is_at.ensures c.if-is_at.true rest))

pub loop-item-preserved : goal.loop-item-preserved
loop-item-preserved c some =
    let items = c.args.items.now in
    let i = c.loop-item.item-index in
    let rest = names_of (drop (i + 1) items) in
    c.loop-item.invariant
    (subst (NamesOneOf c.args.tables.now c.args.back.now.keys) (sym (next_names items i _ (omega arith) c.item-item.is))
    (further c.args.tables.now c.args.back.now.keys _ rest some))
