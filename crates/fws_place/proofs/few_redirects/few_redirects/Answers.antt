use Rattle.std.proofs.Common.{◌≡◌, None, List, get_or, sym, ◌∙◌, subst, All}
use Rattle.std.proofs.lemmas.List.Elements.{All-weaker}
use Rattle.fws_net.specs.declared.outcome.Outcome.{Outcome}
use Rattle.fws_net.specs.declared.packet.Packet.{Packet}
use Rattle.fws_tree.specs.declared.row.Row.{Row}
use Rattle.fws_place.specs.declared.few_redirects.Collected.{Collected}
use Rattle.fws_place.specs.declared.clause.Clause.TheVariants.{FewRedirects}
use Rattle.fws_place.specs.Clauses.{Breaks}
use Rattle.fws_place.specs.Counts.{new_rows}
use Rattle.fws_place.specs.RowRedirects.{AreAllOf, AreGathered, IsFirstMany, IsServed}
use Rattle.fws_place.proofs.NewRows.{row_roomy}
use Rattle.fws_place.proofs.ShownRedirects.{few_meet, good_served, IsGood, many_break, rows_good}
use Rattle.fws_place.proofs.few_redirects.few_redirects.Goals as goal

pub gathered-requires : goal.gathered-requires
gathered-requires c =
    let site = c.args.site.now in
    let tables = c.args.tables.now in
    let kept = c.in_ok-rows.ensures in
    subst (λ (l : List (Row Outcome)). All IsServed l) (sym c.deref.ensures.value)
    (All-weaker (IsGood site tables) IsServed (good_served site tables) c.in_ok-rows.rows.items
    (rows_good site tables c.requires.regular c.tops-tops.ensures.reduced c.in_ok-rows.rows.items kept.rows kept.right))

pub returns-in-Few : goal.returns-in-Few
returns-in-Few c =
    let site = c.args.site.now in
    let tables = c.args.tables.now in
    let kept = c.in_ok-rows.ensures in
    let same : c.deref.result.now ≡ new_rows tables = c.deref.ensures.value ∙ kept.rows in
    let good : All (IsGood site tables) (new_rows tables) = subst (λ (l : List (Row Outcome)). All (IsGood site tables) l) kept.rows
    (rows_good site tables c.requires.regular c.tops-tops.ensures.reduced c.in_ok-rows.rows.items kept.rows kept.right) in
    let all : AreAllOf (new_rows tables) c.in-Few.field-0.keys = subst (λ (l : List (Row Outcome)). AreAllOf l c.in-Few.field-0.keys) same
    (subst (λ (g : Collected). AreGathered c.deref.result.now g) c.in-Few.is c.in_ok-gathered.ensures) in
    few_meet site tables c.in-Few.field-0.keys good all

pub packet_at-packet-requires : goal.packet_at-packet-requires
packet_at-packet-requires c =
    let site = c.args.site.now in
    let tables = c.args.tables.now in
    let kept = c.in_ok-rows.ensures in
    let same : c.deref.result.now ≡ new_rows tables = c.deref.ensures.value ∙ kept.rows in
    let good : All (IsGood site tables) (new_rows tables) = subst (λ (l : List (Row Outcome)). All (IsGood site tables) l) kept.rows
    (rows_good site tables c.requires.regular c.tops-tops.ensures.reduced c.in_ok-rows.rows.items kept.rows kept.right) in
    let many : IsFirstMany (new_rows tables) c.in-Many.at = subst (λ (l : List (Row Outcome)). IsFirstMany l c.in-Many.at) same
    (subst (λ (g : Collected). AreGathered c.deref.result.now g) c.in-Many.is c.in_ok-gathered.ensures) in
    let row = c.index.result.now in
    let is : row ≡ get_or (new_rows tables) c.in-Many.at row = subst (λ (l : List (Row Outcome)). row ≡ get_or l c.in-Many.at row) kept.rows c.index.ensures in
    row_roomy site tables c.requires.sound c.requires.regular c.tops-tops.ensures.reduced c.in-Many.at row c.leasts.result many.within is c.leasts.ensures

pub returns : goal.returns
returns c =
    let site = c.args.site.now in
    let tables = c.args.tables.now in
    let kept = c.in_ok-rows.ensures in
    let same : c.deref.result.now ≡ new_rows tables = c.deref.ensures.value ∙ kept.rows in
    let good : All (IsGood site tables) (new_rows tables) = subst (λ (l : List (Row Outcome)). All (IsGood site tables) l) kept.rows
    (rows_good site tables c.requires.regular c.tops-tops.ensures.reduced c.in_ok-rows.rows.items kept.rows kept.right) in
    let many : IsFirstMany (new_rows tables) c.in-Many.at = subst (λ (l : List (Row Outcome)). IsFirstMany l c.in-Many.at) same
    (subst (λ (g : Collected). AreGathered c.deref.result.now g) c.in-Many.is c.in_ok-gathered.ensures) in
    let row = c.index.result.now in
    let is : row ≡ get_or (new_rows tables) c.in-Many.at row = subst (λ (l : List (Row Outcome)). row ≡ get_or l c.in-Many.at row) kept.rows c.index.ensures in
    let named : Packet → Type 0 = λ p. Breaks site tables FewRedirects (record { packet = p; rec = None }) None in
    subst named (sym c.packet_at-packet.ensures)
    (many_break site tables c.requires.regular c.tops-tops.ensures.reduced c.in-Many.at row c.leasts.result good many is c.leasts.ensures)
