use Rattle.std.proofs.Common.{ap, ◌∙◌, refl, arith}
use Rattle.fws_pf_words.specs.Reached.{with_place}
use Rattle.fws_pf_words.proofs.Found.{all_reached, first_reached, goes_on, next_below, no_more_than_tables}
use Rattle.fws_pf_words.proofs.tables.reached.Goals as goal

pub loop-next-init : goal.loop-next-init
loop-next-init c = first_reached c.args.tables.now c.args.name.now _ (c.in_ok-find.ensures ∙ ap (λ k. with_place c.args.tables.now k c.args.name.now) c.new-places.ensures.empty)

pub table_at-table-requires : goal.table_at-table-requires
table_at-table-requires c =
    next_below c.args.tables.now _ c.args.name.now c.loop-next.places.keys _ c.loop-next.next c.loop-next.invariant c.as_slice-in-loop-next.ensures.keys c.as_slice.ensures (omega arith)

pub loop-next-smaller : goal.loop-next-smaller
loop-next-smaller c =
    let few = no_more_than_tables c.args.tables.now c.args.name.now c.loop-next.places.keys c.loop-next.next c.loop-next.invariant in omega arith

pub loop-next-preserved : goal.loop-next-preserved
loop-next-preserved c =
    goes_on c.args.tables.now _ c.args.name.now c.loop-next.places.keys _ _ _ c.loop-next.next _ c.loop-next.invariant (omega arith) c.as_slice-in-loop-next.ensures.keys c.as_slice.ensures
    c.table_at-table.ensures refl (c.in_ok-find_all.ensures ∙ c.named.ensures c.args.tables.now c.loop-next.places.keys)

pub returns : goal.returns
returns c = all_reached c.args.tables.now c.args.name.now c.loop-next.places.keys c.loop-next.next c.loop-next.invariant (omega arith)
