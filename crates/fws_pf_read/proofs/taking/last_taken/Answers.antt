use Rattle.std.proofs.Common.{List, subst, sym, ◌∙◌}
use Rattle.fws_num.specs.declared.word.Word.{Word}
use Rattle.fws_pf_read.specs.Taking.{SaidGiven, words_taken}
use Rattle.fws_pf_read.proofs.Judged.{last_passed}
use Rattle.fws_pf_read.proofs.taking.last_taken.Goals as goal

pub returns-then-are_printed-clause-given : goal.returns-then-are_printed-clause-given
returns-then-are_printed-clause-given g c = λ t macros tags are.
    let over = c.passes_over.ensures c.if-passes_over.true in
    last_passed (g.S.TakesWords.step c.args.setting.now t) g.S.TakesWords.fault c.args.words.now c.args.text.now (g.S.TakesWords.seen c.args.s) (c.requires.judged over.0) (sym c.are_printed.ensures ∙ c.if-are_printed.true) (λ w. over.1 c.args.setting.now t w)

pub returns-then-are_printed-clause-kept : goal.returns-then-are_printed-clause-kept
returns-then-are_printed-clause-kept g c = λ t tags. tags

pub returns-then-are_printed-clause-known : goal.returns-then-are_printed-clause-known
returns-then-are_printed-clause-known g c = λ macros are. are

pub returns-clause-given : goal.returns-clause-given
returns-clause-given g c = λ t macros tags are.
    subst (λ (ws : List Word). SaidGiven g.S.TakesWords.seen c.others_taken.result (words_taken (g.S.TakesWords.step c.args.setting.now t) g.S.TakesWords.fault ws (g.S.TakesWords.seen c.args.s))) (c.as_slice.ensures ∙ c.in_ok-last.ensures)
    (c.others_taken.ensures.given t macros tags are)
