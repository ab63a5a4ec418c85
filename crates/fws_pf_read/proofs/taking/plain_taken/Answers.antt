use Rattle.std.proofs.Common.{List, subst}
use Rattle.fws_num.specs.declared.word.Word.{Word}
use Rattle.fws_pf_read.specs.Taking.{SaidGiven, words_taken}
use Rattle.fws_pf_read.proofs.Behind.{meant_given}
use Rattle.fws_pf_read.proofs.taking.plain_taken.Goals as goal

pub returns-clause-given : goal.returns-clause-given
returns-clause-given g c = λ t tags are.
    meant_given g.S.TakesWords.seen (g.S.TakesWords.step c.args.setting.now t) g.S.TakesWords.fault c.args.macros.now c.args.w.now _ (g.S.TakesWords.seen c.args.s) c.others_taken.result (c.is_use.ensures c.args.macros.now c.if-is_use.false)
    (subst (λ (ws : List Word). SaidGiven g.S.TakesWords.seen c.others_taken.result (words_taken (g.S.TakesWords.step c.args.setting.now t) g.S.TakesWords.fault ws (g.S.TakesWords.seen c.args.s))) c.from_ref.ensures.value
    (c.others_taken.ensures.given t c.args.macros.now tags are))

pub returns-clause-known : goal.returns-clause-known
returns-clause-known g c = λ are. c.others_taken.ensures.known c.args.macros.now are
