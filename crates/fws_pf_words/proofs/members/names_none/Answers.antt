use Rattle.std.proofs.Common.{sym, ◌∙◌}
use Rattle.fws_pf_words.specs.Members.{is_own}
use Rattle.fws_pf_words.proofs.Unions.{names_none}
use Rattle.fws_pf_words.proofs.members.names_none.Goals as goal

pub returns : goal.returns
returns c = λ own. names_none c.args.items.now (sym (c.kept.ensures (λ i. is_own i.part)) ∙ sym c.are_own.ensures ∙ own)
