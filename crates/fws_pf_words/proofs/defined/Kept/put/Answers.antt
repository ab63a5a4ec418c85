use Rattle.std.proofs.Common.{◌+◌, length, sym, ap, ◌∙◌}
use Rattle.fws_pf.specs.Macros.{size_with_blanks}
use Rattle.fws_pf_words.proofs.Keeping.{held, word_counted, word_dropped, word_held}
use Rattle.fws_pf_words.proofs.defined.Kept.put.Goals as goal

pub returns-then-size-gt-MOST_BYTES : goal.returns-then-size-gt-MOST_BYTES
returns-then-size-gt-MOST_BYTES c =
    word_dropped c.args.self.now c.self.inside.words c.new.result c.args.word c.self.inside.size _ c.self.view_is c.self.invariant c.if-self-gt-MOST_BYTES.false
    (ap (λ t. c.self.inside.size + 1 + length t) c.as_slice.ensures) c.if-size-gt-MOST_BYTES.true

pub invariant_of-self-2 : goal.invariant_of-self-2
invariant_of-self-2 c = λ h.
    word_counted c.self.inside.words c.args.word c.self.inside.size _ c.self.invariant c.if-self-gt-MOST_BYTES.false
    (ap (λ t. c.self.inside.size + 1 + length t) c.as_slice.ensures) ∙ ap size_with_blanks (sym c.in_ok-put.ensures.ok)

pub returns : goal.returns
returns c =
    ap (held (c.self.inside.size + 1 + length c.as_slice.result.now)) c.in_ok-put.ensures.ok
    ∙ sym (word_held c.args.self.now c.self.inside.words c.args.word c.self.inside.size _ c.self.view_is c.self.invariant c.if-self-gt-MOST_BYTES.false
    (ap (λ t. c.self.inside.size + 1 + length t) c.as_slice.ensures))
