use Rattle.std.proofs.Common.{◌++◌, ap, sym, ◌∙◌}
use Rattle.fws_pf_words.specs.Additions.{AreAdditions}
use Rattle.fws_pf_words.specs.Uses.{all_but_last, joined_words, last_joined, words_named}
use Rattle.fws_pf_words.specs.UsesKnown.{front_named}
use Rattle.fws_pf_words.proofs.Adding.{always_known, front_kept, front_not_kept}
use Rattle.fws_pf_words.proofs.defined.keep_joined.Goals as goal

pub returns-in-Ok-clause-given : goal.returns-in-Ok-clause-given
returns-in-Ok-clause-given c = λ macros e are.
    front_kept (joined_words c.args.words.now c.args.text.now) c.front_words.result.now c.as_slice.result.now c.args.kept.now c.keep.new.kept c.keep_words.result c.keep_words.new.kept
    (c.front_words.ensures.joined c.args.text.now ∙ ap (λ l. c.front_words.result.now ++ l) (sym (c.as_slice.ensures ∙ c.in_ok-last.ensures)))
    (c.in-Ok.ensures.given (front_named macros) (ap all_but_last e ∙ sym c.front_words.ensures.front) are.1) c.keep_words.ensures

pub returns-in-Ok-clause-known : goal.returns-in-Ok-clause-known
returns-in-Ok-clause-known c = λ macros e are.
    always_known c.keep_words.result (AreAdditions (words_named macros) c.args.uses.now.wholes.known.entries × AreAdditions (front_named macros) c.keep.new.self.known.entries)
    (are.0, c.in-Ok.ensures.known (front_named macros) (ap all_but_last e ∙ sym c.front_words.ensures.front) are.1)

pub returns-clause-given : goal.returns-clause-given
returns-clause-given c = λ macros e are.
    front_not_kept (joined_words c.args.words.now c.args.text.now) c.front_words.result.now (last_joined c.args.words.now c.args.text.now) c.args.kept.now c.in-Err.fault
    (c.front_words.ensures.joined c.args.text.now)
    (c.in-Err.ensures.given (front_named macros) (ap all_but_last e ∙ sym c.front_words.ensures.front) are.1)
