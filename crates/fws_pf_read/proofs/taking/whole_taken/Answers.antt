use Rattle.std.proofs.Common.{List, subst, sym, ap, ◌∙◌}
use Rattle.std.specs.List.{list_all}
use Rattle.fws_num.specs.declared.word.Word.{Word}
use Rattle.fws_num.specs.Words.{is_sound}
use Rattle.fws_pf_read.specs.Taking.{SaidGiven, words_taken}
use Rattle.fws_pf_read.proofs.taking.whole_taken.Goals as goal

pub returns-clause-given : goal.returns-clause-given
returns-clause-given g c = λ t tags are.
    subst (λ (ws : List Word). SaidGiven g.S.TakesWords.seen c.piece_taken.result (words_taken (g.S.TakesWords.step c.args.setting.now t) g.S.TakesWords.fault ws (g.S.TakesWords.seen c.args.s))) c.words-words.ensures
    (c.piece_taken.ensures.given t c.args.macros.now tags (sym c.words-words.ensures) are)

pub returns-clause-kept : goal.returns-clause-kept
returns-clause-kept g c = λ t tags. c.piece_taken.ensures.kept t tags

pub returns-clause-known : goal.returns-clause-known
returns-clause-known g c = λ are. c.piece_taken.ensures.known c.args.macros.now (sym c.words-words.ensures) are

pub piece_taken-requires-clause-judged : goal.piece_taken-requires-clause-judged
piece_taken-requires-clause-judged g c = λ on. ap (list_all is_sound) c.words-words.ensures ∙ sym c.are_sound-sound.ensures ∙ on
