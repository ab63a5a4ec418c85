use Rattle.std.proofs.Common.{◌≡◌, true, false, rules, sym, ◌∙◌}
use Rattle.fws_num.specs.Words.{is_sound}
use Rattle.fws_pf_read.proofs.Behind.{raw_sound, raw_unsound}
use Rattle.fws_pf_read.proofs.taking.raw_taken.Goals as goal

pub returns-then-not-is_sound-clause-given : goal.returns-then-not-is_sound-clause-given
returns-then-not-is_sound-clause-given g c = λ t tags are.
    let b : is_sound c.args.w.now ≡ false = sym c.is_sound.ensures ∙ search rules in
    raw_unsound g.S.TakesWords.seen (g.S.TakesWords.step c.args.setting.now t) g.S.TakesWords.fault c.args.macros.now c.args.w.now (g.S.TakesWords.seen c.args.s) c.refused.result b c.refused.ensures

pub returns-clause-given : goal.returns-clause-given
returns-clause-given g c = λ t tags are.
    let b : is_sound c.args.w.now ≡ true = sym c.is_sound.ensures ∙ search rules in
    raw_sound g.S.TakesWords.seen (g.S.TakesWords.step c.args.setting.now t) g.S.TakesWords.fault c.args.macros.now c.args.w.now (g.S.TakesWords.seen c.args.s) c.sound_taken.result b (c.sound_taken.ensures.given t tags are)

pub returns-clause-kept : goal.returns-clause-kept
returns-clause-kept g c = λ t tags. c.sound_taken.ensures.kept t tags

pub returns-clause-known : goal.returns-clause-known
returns-clause-known g c = λ are. c.sound_taken.ensures.known are
