use Rattle.std.proofs.Common.{drop, take, sym, ap, ◌∙◌}
use Rattle.std.proofs.lemmas.List.{take_rest}
use Rattle.fws_pf_words.specs.Fronts.{within}
use Rattle.fws_pf_words.proofs.Leading.{ways_grown}
use Rattle.fws_pf_words.proofs.Staying.{words_then}
use Rattle.fws_pf_words.proofs.ways.Ways.take.Goals as goal

pub returns-clause-taken : goal.returns-clause-taken
returns-clause-taken c = λ words_of e are.
    words_then c.args.setting.now c.args.words.now c.in_ok-skipped.skipped c.in_ok-n.n c.args.value.now c.numbers_ahead.new.value c.take_rest.new.value
    c.in_ok-skipped.ensures.taken
    (ap (λ l. within c.args.setting.now (take c.in_ok-n.n l) c.numbers_ahead.new.value) (sym (take_rest c.args.words.now c.in_ok-skipped.skipped))
    ∙ c.in_ok-n.ensures.taken words_of (ap (drop c.in_ok-skipped.skipped) e ∙ sym (take_rest c.args.words.now c.in_ok-skipped.skipped))
    (ways_grown c.args.setting.now words_of (take c.in_ok-skipped.skipped c.args.words.now) c.args.value.now c.numbers_ahead.new.value c.args.self.now.ways.entries
    c.in_ok-skipped.ensures.taken are))

pub returns-clause-known : goal.returns-clause-known
returns-clause-known c = λ words_of e are.
    c.in_ok-n.ensures.known words_of (ap (drop c.in_ok-skipped.skipped) e ∙ sym (take_rest c.args.words.now c.in_ok-skipped.skipped))
    (ways_grown c.args.setting.now words_of (take c.in_ok-skipped.skipped c.args.words.now) c.args.value.now c.numbers_ahead.new.value c.args.self.now.ways.entries
    c.in_ok-skipped.ensures.taken are)
