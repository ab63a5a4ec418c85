use Rattle.std.proofs.Common.{ap, ◌∙◌}
use Rattle.std.specs.List.{list_any}
use Rattle.fws_pf.specs.declared.tables.Table.{Table}
use Rattle.fws_pf_words.proofs.Circling.{same_named}
use Rattle.fws_pf_words.proofs.members.KnownTable.members.Goals as goal

pub returns : goal.returns
returns c f = same_named f c.kept.result.now c.self.inside.members c.kept.ensures ∙ ap (λ (t : Table). list_any f t.named) c.self.view_is
