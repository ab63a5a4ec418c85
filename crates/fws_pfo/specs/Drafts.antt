-- What the steps of a rule have in common.
use Rattle.std.specs.Prelude.{Bool, true, false, Result, Ok}
use Rattle.fws_net.specs.declared.cause.Cause.{Cause}
use Rattle.fws_net.specs.Reading.{and_then}
use Rattle.fws_pf.specs.declared.config.Way.{Way}
use Rattle.fws_pf.specs.declared.config.Way.TheVariants as ways
use Rattle.fws_pf.specs.declared.rule_draft.Expects.{Expects}
use Rattle.fws_pf.specs.declared.rule_draft.RuleDraft.{RuleDraft}
use Rattle.fws_pf.specs.Drafts.{expecting}
use Rattle.fws_pfo.specs.declared.config.PfoKind.{PfoKind}
use Rattle.fws_pfo.specs.declared.config.PfoKind.TheVariants as kinds
use Rattle.fws_pfo.specs.declared.rule_draft.PfoRuleDraft.{PfoRuleDraft}

-- the draft with what words say that both dialects have
abbrev pub with_shared : RuleDraft → PfoRuleDraft → PfoRuleDraft
with_shared shared d = record d { shared = shared }

-- a word is read as in both dialects
abbrev pub lifted : Result RuleDraft Cause → PfoRuleDraft → Result PfoRuleDraft Cause
lifted read d = and_then read (λ shared. Ok (with_shared shared d))

-- the next word is taken for this
abbrev pub going : Expects → PfoRuleDraft → Result PfoRuleDraft Cause
going next d = Ok (with_shared (expecting next d.shared) d)

abbrev pub is_pass : PfoKind → Bool
is_pass kinds.Pass = true
is_pass _ = false

abbrev pub is_block : PfoKind → Bool
is_block kinds.Block = true
is_block _ = false

abbrev pub is_match : PfoKind → Bool
is_match kinds.Match = true
is_match _ = false

abbrev pub is_inward : Way → Bool
is_inward ways.Inward = true
is_inward _ = false

abbrev pub is_outward : Way → Bool
is_outward ways.Outward = true
is_outward _ = false
