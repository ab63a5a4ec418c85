use Rattle.std.proofs.Common.{List, subst}
use Rattle.fws_num.specs.declared.word.Word.{Word}
use Rattle.fws_net.specs.declared.answer.LineFault.{LineFault}
use Rattle.fws_net.specs.declared.cause.Cause.{Cause}
use Rattle.fws_net.specs.Reading.{FaultGiven}
use Rattle.fws_pf.specs.Macros.{meant}
use Rattle.fws_pf_read.specs.Taking.{SaidGiven, words_taken}
use Rattle.fws_pf_read.proofs.Behind.{meant_given, meant_refused}
use Rattle.fws_pf_read.proofs.taking.replaced_taken.Goals as goal

pub returns-in-Ok-clause-given : goal.returns-in-Ok-clause-given
returns-in-Ok-clause-given g c = λ t tags are.
    meant_given g.S.TakesWords.seen (g.S.TakesWords.step c.args.setting.now t) g.S.TakesWords.fault c.args.macros.now c.args.w.now c.in-Ok.words (g.S.TakesWords.seen c.args.s) c.others_taken.result c.in-Ok.ensures
    (subst (λ (ws : List Word). SaidGiven g.S.TakesWords.seen c.others_taken.result (words_taken (g.S.TakesWords.step c.args.setting.now t) g.S.TakesWords.fault ws (g.S.TakesWords.seen c.args.s))) c.as_slice.ensures
    (c.others_taken.ensures.given t c.args.macros.now tags are))

pub returns-in-Ok-clause-kept : goal.returns-in-Ok-clause-kept
returns-in-Ok-clause-kept g c = λ t tags. c.others_taken.ensures.kept t tags

pub returns-in-Ok-clause-known : goal.returns-in-Ok-clause-known
returns-in-Ok-clause-known g c = λ are. c.others_taken.ensures.known c.args.macros.now are

pub returns-in-Err-Bad-clause-given : goal.returns-in-Err-Bad-clause-given
returns-in-Err-Bad-clause-given g c = λ t tags are.
    let why = rw c.in-Err-Bad.field-0-is at c.refused.ensures in
    meant_refused g.S.TakesWords.seen (g.S.TakesWords.step c.args.setting.now t) g.S.TakesWords.fault c.args.macros.now c.args.w.now (g.S.TakesWords.seen c.args.s) c.in-Err-Bad.cause c.refused.result
    (subst (λ (f : LineFault Cause). FaultGiven f (meant c.args.macros.now c.args.w.now)) c.in-Err-Bad.field-0-is c.in-Err-Bad.ensures) why
