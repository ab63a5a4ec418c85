use Rattle.std.proofs.Common.{ap, sym, ◌∙◌}
use Rattle.std.proofs.lemmas.Result.{err_from_is_err_and}
use Rattle.std.specs.List.{list_all}
use Rattle.fws_num.specs.Words.{is_sound}
use Rattle.fws_pf_words.specs.Uses.{all_but_last, joined_words, last_joined, words_named}
use Rattle.fws_pf_read.proofs.Judged.{front_judged}
use Rattle.fws_pf_read.proofs.Behind.{front_refused, front_taken}
use Rattle.fws_pf_read.proofs.taking.joined_taken.Goals as goal

pub returns-clause-given : goal.returns-clause-given
returns-clause-given g c = λ t tags are.
    let front = ap all_but_last (sym c.words-words.ensures) ∙ sym c.front_words-front.ensures.front in
    front_taken g.S.TakesWords.seen (g.S.TakesWords.step c.args.setting.now t) g.S.TakesWords.fault c.front_words-front.result.now (last_joined c.words-words.result.now c.args.text.now)
    (joined_words (words_named c.args.macros.now c.args.name.now) c.args.text.now)
    (g.S.TakesWords.seen c.args.s) c.in_ok-next.next c.last_taken.result
    (ap (λ ws. joined_words ws c.args.text.now) (sym c.words-words.ensures) ∙ c.front_words-front.ensures.joined c.args.text.now)
    (c.in_ok-next.ensures.given t c.args.macros.now tags front are)
    (c.last_taken.ensures.given t c.args.macros.now (c.in_ok-next.ensures.kept t tags) (c.in_ok-next.ensures.known c.args.macros.now front are))

pub returns-clause-kept : goal.returns-clause-kept
returns-clause-kept g c = λ t tags. c.last_taken.ensures.kept t (c.in_ok-next.ensures.kept t tags)

pub returns-clause-known : goal.returns-clause-known
returns-clause-known g c = λ are.
    c.last_taken.ensures.known c.args.macros.now
    (c.in_ok-next.ensures.known c.args.macros.now (ap all_but_last (sym c.words-words.ensures) ∙ sym c.front_words-front.ensures.front) are)

pub returns-in_err-next-clause-given : goal.returns-in_err-next-clause-given
returns-in_err-next-clause-given g c = λ t tags are.
    let p = err_from_is_err_and c.from_residual.result c.from_residual.ensures.1 in
    rw (p.1, p.2)
    (front_refused g.S.TakesWords.seen (g.S.TakesWords.step c.args.setting.now t) g.S.TakesWords.fault c.front_words-front.result.now (last_joined c.words-words.result.now c.args.text.now)
    (joined_words (words_named c.args.macros.now c.args.name.now) c.args.text.now)
    (g.S.TakesWords.seen c.args.s) _
    (ap (λ ws. joined_words ws c.args.text.now) (sym c.words-words.ensures) ∙ c.front_words-front.ensures.joined c.args.text.now)
    (c.in_err-next.ensures.given t c.args.macros.now tags (ap all_but_last (sym c.words-words.ensures) ∙ sym c.front_words-front.ensures.front) are))

pub piece_taken-requires-clause-judged : goal.piece_taken-requires-clause-judged
piece_taken-requires-clause-judged g c = λ on.
    front_judged c.words-words.result.now _ c.front_words-front.ensures.front (ap (list_all is_sound) c.words-words.ensures ∙ sym c.are_sound-sound.ensures ∙ on)

pub last_taken-requires-clause-judged : goal.last_taken-requires-clause-judged
last_taken-requires-clause-judged g c = λ on. ap (list_all is_sound) c.words-words.ensures ∙ sym c.are_sound-sound.ensures ∙ on
