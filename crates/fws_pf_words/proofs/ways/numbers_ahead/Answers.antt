use Rattle.std.proofs.Common.{take, sym, ap, ◌∙◌}
use Rattle.std.proofs.lemmas.List.{take_rest}
use Rattle.fws_pf_words.specs.Fronts.{within}
use Rattle.fws_pf_words.proofs.Staying.{words_then}
use Rattle.fws_pf_words.proofs.ways.numbers_ahead.Goals as goal

pub returns-clause-taken : goal.returns-clause-taken
returns-clause-taken c =
    words_then c.args.setting.now c.args.words.now c.in_ok-first.first c.in_ok-second.second c.args.value.now c.number_ahead.new.value c.number_ahead-2.new.value
    c.in_ok-first.ensures.taken
    (ap (λ l. within c.args.setting.now (take c.in_ok-second.second l) c.number_ahead.new.value) (sym (take_rest c.args.words.now c.in_ok-first.first))
    ∙ c.in_ok-second.ensures.taken)
