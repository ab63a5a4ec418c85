use Rattle.std.proofs.Common.{◌≡◌, Ok, IfSome, subst}
use Rattle.fws_pf.specs.Macros.{meant}
use Rattle.fws_pf_words.specs.Uses.{behind_name, joined_words, name_ahead, words_named}
use Rattle.fws_pf_read.proofs.Behind.{meant_given}
use Rattle.fws_pf_read.proofs.taking.sound_taken.Goals as goal

pub returns-in-Some-clause-given : goal.returns-in-Some-clause-given
returns-in-Some-clause-given g c = λ t tags are.
    meant_given g.S.TakesWords.seen (g.S.TakesWords.step c.args.setting.now t) g.S.TakesWords.fault c.args.macros.now c.args.w.now _ (g.S.TakesWords.seen c.args.s) c.macro_taken.result
    (subst (λ o. IfSome o (λ x. meant c.args.macros.now c.args.w.now ≡ Ok (joined_words (words_named c.args.macros.now (name_ahead x.now)) (behind_name x.now))))
    c.in-Some.is c.in_ok-used.ensures)
    (c.macro_taken.ensures.given t tags are)
