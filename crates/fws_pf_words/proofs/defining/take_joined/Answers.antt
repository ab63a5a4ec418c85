use Rattle.std.proofs.Common.{◌++◌, sym, ap, ◌∙◌}
use Rattle.fws_pf_words.specs.Uses.{joined_words, last_joined}
use Rattle.fws_pf_words.proofs.Naming.{both_seen, front_ends}
use Rattle.fws_pf_words.proofs.defining.take_joined.Goals as goal

pub returns-then-not-branch : goal.returns-then-not-branch
returns-then-not-branch c =
    front_ends c.args.d.now c.take_front.new.d (joined_words c.args.words.now c.args.text.now) c.front_words.result.now (last_joined c.args.words.now c.args.text.now)
    c.in_ok-take_front.field-0 (c.front_words.ensures.joined c.args.text.now) c.in_ok-take_front.ensures c.if-not-branch.true

pub returns : goal.returns
returns c =
    both_seen c.args.d.now c.take_front.new.d c.take_front-2.new.d (joined_words c.args.words.now c.args.text.now) c.front_words.result.now c.as_slice.result.now
    c.in_ok-take_front.field-0 c.take_front-2.result
    (c.front_words.ensures.joined c.args.text.now ∙ ap (λ l. c.front_words.result.now ++ l) (sym (c.as_slice.ensures ∙ c.in_ok-last.ensures)))
    c.in_ok-take_front.ensures c.if-not-branch.false c.take_front-2.ensures
