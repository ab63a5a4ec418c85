-- What was read of a text, with the tags that stand in it so far.
use Rattle.std.specs.Prelude.{ℕ, Result, List, length}
use Rattle.fws_num.specs.declared.word.Word.{Word}
use Rattle.fws_net.specs.declared.cause.Cause.{Cause}
use Rattle.fws_net.specs.declared.site.Site.{Site}
use Rattle.fws_net.specs.Reading.{and_then}
use Rattle.fws_pf.specs.declared.tables.Table.{Table}
use Rattle.fws_pf.specs.StatementText.{statement_read}
use Rattle.fws_net.specs.declared.condition.Lit.{Lit}
use Rattle.fws_pf.specs.declared.rule_draft.RuleDraft.{RuleDraft}
use Rattle.fws_pf.specs.declared.text_draft.PfDraft.{PfDraft}
use Rattle.fws_pf.specs.Drawn.{expanded_with}
use Rattle.fws_pf.specs.FileText.{setting_at, statement_put, with_rules}

abbrev pub with_tags : List (List ℕ) → PfDraft → PfDraft
with_tags tags t = record t { config = record t.config { tags = tags } }

-- the rules of a statement, of which there are so many, behind the others
abbrev pub put : RuleDraft → List (List Lit) → PfDraft → PfDraft
put d conds t = record t { expanded = expanded_with t.expanded (length conds); config = with_rules d.verb d conds t.config }

-- a statement that defines no macro
abbrev pub plain_step : Site → List Table → List Word → PfDraft → Result PfDraft Cause
plain_step site tables ws t = and_then (statement_read (setting_at site tables t) t.macros t.config.tags ws) (λ s. statement_put site tables s t)
