use Rattle.std.proofs.Common.{arith, ◌∙◌}
use Rattle.fws_pf_words.proofs.Uses.{named_use}
use Rattle.fws_pf_words.proofs.macros.with_words.Goals as goal

pub returns : goal.returns
returns c =
    named_use c.args.macros.now c.args.text.now c.in_ok-name.name c.words.result.now (c.in_ok-name.ensures ∙ c.split_name.ensures.name) c.words.ensures
    (omega (arith, c.in-len1-up.len_at_least))
