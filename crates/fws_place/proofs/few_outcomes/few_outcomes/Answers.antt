use Rattle.std.proofs.Common.{◌≡◌, ◌<◌, None, List, length, get_or, sym, ◌∙◌, subst}
use Rattle.std.proofs.lemmas.Option.{MatchOption-at_none, MatchOption-at_some}
use Rattle.fws_net.specs.declared.outcome.Outcome.{Outcome}
use Rattle.fws_net.specs.declared.packet.Packet.{Packet}
use Rattle.fws_tree.specs.declared.row.Row.{Row}
use Rattle.fws_place.specs.Clauses.{NamesPacket}
use Rattle.fws_place.specs.Counts.{IsFirstAbove, IsInFirst, ShowLeavesAbove}
use Rattle.fws_place.proofs.NewRows.{few_met, first_packet, row_roomy}
use Rattle.fws_place.proofs.few_outcomes.few_outcomes.Goals as goal

pub returns-then-are_few : goal.returns-then-are_few
returns-then-are_few c = few_met c.args.site.now c.args.tables.now (c.are_few.ensures c.if-are_few.true)

pub packet_at-packet-requires : goal.packet_at-packet-requires
packet_at-packet-requires c =
    let rows : List (Row Outcome) = c.deref.result.now in
    let first : IsFirstAbove 60000 rows c.in-Some.at
    = MatchOption-at_some (ShowLeavesAbove 60000 rows → ⊥) (IsFirstAbove 60000 rows) c.in-Some.at c.in-Some.is c.in_ok-at.ensures in
    let row = c.index.result.now in
    row_roomy c.args.site.now c.args.tables.now c.requires.sound c.requires.regular c.tops-tops.ensures.reduced c.in-Some.at row c.leasts.result
    (subst (λ (rs : List (Row Outcome)). c.in-Some.at < length rs) (c.deref.ensures.value ∙ c.in_ok-rows.ensures.rows) first.within)
    (subst (λ (rs : List (Row Outcome)). row ≡ get_or rs c.in-Some.at row) c.in_ok-rows.ensures.rows c.index.ensures) c.leasts.ensures

pub returns-in-Some : goal.returns-in-Some
returns-in-Some c =
    let site = c.args.site.now in
    let tables = c.args.tables.now in
    let rows : List (Row Outcome) = c.deref.result.now in
    let first : IsFirstAbove 60000 rows c.in-Some.at
    = MatchOption-at_some (ShowLeavesAbove 60000 rows → ⊥) (IsFirstAbove 60000 rows) c.in-Some.at c.in-Some.is c.in_ok-at.ensures in
    let row = c.index.result.now in
    let named : Packet → Type 0 = λ p. NamesPacket site (IsInFirst (ShowLeavesAbove 60000) tables) (record { packet = p; rec = None }) None in
    subst named (sym c.packet_at-packet.ensures)
    (first_packet site tables c.requires.regular c.tops-tops.ensures.reduced 60000 c.in-Some.at row c.leasts.result
    (subst (λ (rs : List (Row Outcome)). IsFirstAbove 60000 rs c.in-Some.at) (c.deref.ensures.value ∙ c.in_ok-rows.ensures.rows) first)
    (subst (λ (rs : List (Row Outcome)). row ≡ get_or rs c.in-Some.at row) c.in_ok-rows.ensures.rows c.index.ensures) c.leasts.ensures)

pub returns : goal.returns
returns c =
    let rows : List (Row Outcome) = c.deref.result.now in
    let none : ShowLeavesAbove 60000 rows → ⊥ = MatchOption-at_none (ShowLeavesAbove 60000 rows → ⊥) (IsFirstAbove 60000 rows) c.in-None.is c.in_ok-at.ensures in
    let family : List (Row Outcome) → Type 0 = λ rs. ShowLeavesAbove 60000 rs → ⊥ in
    few_met c.args.site.now c.args.tables.now (subst family (c.deref.ensures.value ∙ c.in_ok-rows.ensures.rows) none)
