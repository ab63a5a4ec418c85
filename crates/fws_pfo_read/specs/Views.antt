-- What contracts see of a rule that is read.
use Rattle.std.specs.Prelude.{Bool, false, is_some}
use Rattle.fws_pf_read.specs.Places.{value_place}
use Rattle.fws_pfo.specs.declared.rule_draft.PfoExpects.{PfoExpects}
use Rattle.fws_pfo.specs.declared.rule_draft.PfoExpects.TheVariants as own
use Rattle.fws_pfo.specs.declared.rule_draft.PfoRuleDraft.{PfoRuleDraft}
use Rattle.fws_pfo_read.specs.declared.draft.Draft.{Draft}

-- the draft
abbrev pub draft_of : Draft → PfoRuleDraft
draft_of d = record { kind = d.kind; expects = d.expects; has_scrub = d.has_scrub; shared = d.shared }

-- the next word belongs to a value
abbrev pub is_at_value_by : PfoExpects → PfoRuleDraft → Bool
is_at_value_by own.Shared d = is_some (value_place d.shared.expects)
is_at_value_by _ d = false

abbrev pub is_at_value : PfoRuleDraft → Bool
is_at_value d = is_at_value_by d.expects d
