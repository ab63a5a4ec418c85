-- What was read of a text, with the tags that stand in it so far.
use Rattle.std.specs.Prelude.{ℕ, Result, List, ◌++◌, length, map}
use Rattle.fws_num.specs.declared.word.Word.{Word}
use Rattle.fws_net.specs.declared.cause.Cause.{Cause}
use Rattle.fws_net.specs.declared.condition.Lit.{Lit}
use Rattle.fws_net.specs.declared.site.Site.{Site}
use Rattle.fws_net.specs.Reading.{and_then}
use Rattle.fws_pf.specs.declared.tables.Table.{Table}
use Rattle.fws_pf.specs.Drawn.{expanded_with}
use Rattle.fws_pfo.specs.declared.rule_draft.PfoRuleDraft.{PfoRuleDraft}
use Rattle.fws_pfo.specs.declared.text_draft.PfoDraft.{PfoDraft}
use Rattle.fws_pfo.specs.Drawn.{ends_with, rule_of}
use Rattle.fws_pfo.specs.FileText.{setting_at, statement_put}
use Rattle.fws_pfo.specs.StatementText.{statement_read}

abbrev pub with_tags : List (List ℕ) → PfoDraft → PfoDraft
with_tags tags t = record t { config = record t.config { tags = tags } }

-- the rules of a statement, of which there are so many, behind the others
abbrev pub put : PfoRuleDraft → List (List Lit) → PfoDraft → PfoDraft
put d conds t = record t {
  expanded = expanded_with t.expanded (length conds);
  ends = ends_with t.ends d;
  config = record t.config { rules = t.config.rules ++ map (rule_of d) conds; tags = d.shared.tags };
}

-- a statement that defines no macro
abbrev pub plain_step : Site → List Table → List Word → PfoDraft → Result PfoDraft Cause
plain_step site tables ws t = and_then (statement_read (setting_at site tables t) t.macros t.config.tags ws) (λ s. statement_put site tables s t)
