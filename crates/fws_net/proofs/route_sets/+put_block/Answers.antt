use Rattle.std.proofs.Common.{refl, rules, nat_eq, ◌<◌, ◌||◌, ap, sym, subst, ◌∙◌}
use Rattle.std.specs.List.{list_all}
use Rattle.fws_iv.specs.Ivs.{has}
use Rattle.fws_iv.specs.Prefixes.{IsBlock}
use Rattle.fws_net.specs.RouteSets.{leads_alike, AreFrom}
use Rattle.fws_net.proofs.Divided.{led_as_one, led_in_halves, half_from, short_block}
use Rattle.fws_net.proofs.Halves.{first_half_is, second_half_is}
use Rattle.fws_net.proofs.route_sets.+put_block.Goals as goal

pub returns-then-all_lead_alike-clause-members : goal.returns-then-all_lead_alike-clause-members
returns-then-all_lead_alike-clause-members t c = λ v.
    c.in_ok-put_range.ensures.members v ∙ ap (λ b. has c.args.ranges.now.items v || b)
    (led_as_one c.args.block c.args.lines.now c.in_ok-longer.longer.items c.args.other c.block_entry-rest.result c.args.entry v _ c.requires.lines
    c.in_ok-longer.ensures c.block_entry-rest.ensures refl
    (ap (λ ls. list_all (leads_alike c.args.entry (nat_eq c.block_entry-rest.result c.args.entry)) ls) (sym c.deref.ensures.value) ∙ sym c.all_lead_alike.ensures ∙ c.if-all_lead_alike.true))

pub first_half-requires : goal.first_half-requires
first_half-requires t c =
    short_block c.args.block (leads_alike c.args.entry (nat_eq c.block_entry-rest.result c.args.entry)) c.args.lines.now c.deref.result.now c.requires.lines
    (c.deref.ensures.value ∙ c.in_ok-longer.ensures) (sym c.all_lead_alike.ensures ∙ c.if-all_lead_alike.false)

pub put_block-requires : goal.put_block-requires
put_block-requires t c =
    let short : c.args.block.len < 32 =
    short_block c.args.block (leads_alike c.args.entry (nat_eq c.block_entry-rest.result c.args.entry)) c.args.lines.now c.deref.result.now c.requires.lines
    (c.deref.ensures.value ∙ c.in_ok-longer.ensures) (sym c.all_lead_alike.ensures ∙ c.if-all_lead_alike.false) in
    let half : IsBlock c.first_half.result = subst IsBlock (sym c.first_half.ensures) (first_half_is c.args.block short c.requires.block) in
    let from : AreFrom c.first_half.result.len c.deref-2.result.now =
    half_from c.args.block c.first_half.result c.args.lines.now c.deref-2.result.now c.requires.lines (c.deref-2.ensures.value ∙ c.in_ok-longer.ensures)
    (ap (λ b. b.len) c.first_half.ensures) in
    search rules

pub second_half-requires-clause-short : goal.second_half-requires-clause-short
second_half-requires-clause-short t c =
    short_block c.args.block (leads_alike c.args.entry (nat_eq c.block_entry-rest.result c.args.entry)) c.args.lines.now c.deref.result.now c.requires.lines
    (c.deref.ensures.value ∙ c.in_ok-longer.ensures) (sym c.all_lead_alike.ensures ∙ c.if-all_lead_alike.false)

pub put_block-requires-2 : goal.put_block-requires-2
put_block-requires-2 t c =
    let short : c.args.block.len < 32 =
    short_block c.args.block (leads_alike c.args.entry (nat_eq c.block_entry-rest.result c.args.entry)) c.args.lines.now c.deref.result.now c.requires.lines
    (c.deref.ensures.value ∙ c.in_ok-longer.ensures) (sym c.all_lead_alike.ensures ∙ c.if-all_lead_alike.false) in
    let half : IsBlock c.second_half.result = subst IsBlock (sym c.second_half.ensures) (second_half_is c.args.block short c.requires.block) in
    let from : AreFrom c.second_half.result.len c.deref-3.result.now =
    half_from c.args.block c.second_half.result c.args.lines.now c.deref-3.result.now c.requires.lines (c.deref-3.ensures.value ∙ c.in_ok-longer.ensures)
    (ap (λ b. b.len) c.second_half.ensures) in
    search rules

pub returns-clause-members : goal.returns-clause-members
returns-clause-members t c = λ v.
    let short : c.args.block.len < 32 =
    short_block c.args.block (leads_alike c.args.entry (nat_eq c.block_entry-rest.result c.args.entry)) c.args.lines.now c.deref.result.now c.requires.lines
    (c.deref.ensures.value ∙ c.in_ok-longer.ensures) (sym c.all_lead_alike.ensures ∙ c.if-all_lead_alike.false) in
    led_in_halves c.args.block c.first_half.result c.second_half.result c.args.lines.now c.deref-2.result.now c.deref-3.result.now c.args.other
    c.block_entry-rest.result c.args.entry v (has c.args.ranges.now.items v) (has c.put_block.new.ranges.items v) (has c.put_block-2.new.ranges.items v)
    short c.requires.block c.requires.lines c.first_half.ensures c.second_half.ensures (c.deref-2.ensures.value ∙ c.in_ok-longer.ensures)
    (c.deref-3.ensures.value ∙ c.in_ok-longer.ensures) c.block_entry-rest.ensures (c.in_ok-put_block.ensures.members v) (c.in_ok-put_block-2.ensures.members v)
