use Rattle.std.proofs.Common.{◌≡◌, Some, List, ap, sym, ◌∙◌}
use Rattle.std.proofs.lemmas.Option.{IfSome_then}
use Rattle.fws_pf.specs.declared.tables.Table.{Table}
use Rattle.fws_pf_words.specs.Reached.{table_position}
use Rattle.fws_pf_words.proofs.known.Tables.gathered.Goals as goal

pub returns-in-Some : goal.returns-in-Some
returns-in-Some c =
    let name = c.args.name.now in
    let found : table_position c.args.self.now name ≡ Some c.in-Some.place =
    ap (λ (ts : List Table). table_position ts name) (sym c.self.view_is) ∙ sym c.position.ensures ∙ c.in-Some.is in
    IfSome_then c.set_at.result c.set_at.ensures (λ set at. at name found)
