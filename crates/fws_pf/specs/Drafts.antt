-- What the steps of a rule have in common.
use Rattle.std.specs.Prelude.{ℕ, Bool, true, false, Result, Ok, Err, List}
use Rattle.std.specs.Str.{bytes_eq}
use Rattle.fws_num.specs.declared.word.Word.{Word}
use Rattle.fws_net.specs.declared.cause.Cause.{Cause}
use Rattle.fws_pf.specs.declared.rule_draft.Expects.{Expects}
use Rattle.fws_pf.specs.declared.rule_draft.RuleDraft.{RuleDraft}
use Rattle.fws_pf.specs.declared.rule_draft.Verb.{Verb}
use Rattle.fws_pf.specs.declared.rule_draft.Verb.TheVariants as verbs
use Rattle.fws_pf.specs.Keywords.{misplaced}

-- the next word is taken for this
abbrev pub expecting : Expects → RuleDraft → RuleDraft
expecting next d = record d { expects = next }

abbrev pub going : Expects → RuleDraft → Result RuleDraft Cause
going next d = Ok (expecting next d)

abbrev pub is : Word → List ℕ → Bool
is w text = bytes_eq w.text text

abbrev pub misplaced_word : Word → Result RuleDraft Cause
misplaced_word w = Err (misplaced w.text)

abbrev pub is_translation : Verb → Bool
is_translation verbs.Rdr = true
is_translation verbs.Nat = true
is_translation _ = false

abbrev pub passes : Verb → Bool
passes verbs.Pass = true
passes _ = false
