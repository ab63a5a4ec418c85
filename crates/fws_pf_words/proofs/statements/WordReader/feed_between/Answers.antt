use Rattle.std.proofs.Common.{ap, sym, ◌∙◌, ◌++◌, ◌∷◌, [], false, nat_eq, ◌≡◌, arith}
use Rattle.std.proofs.lemmas.Bool.Decides.{nat_tests}
use Rattle.fws_pf_words.proofs.Reading.{mark_ended}
use Rattle.fws_pf_words.proofs.statements.WordReader.feed_between.Goals as goal

pub returns-then-is_punctuation : goal.returns-then-is_punctuation
returns-then-is_punctuation c =
    let quote : nat_eq c.args.c 34 ≡ false = grind (arith, nat_tests, c.if-c-eq34.false) in
    mark_ended c.args.self.now c.end.new.self c.args.c c.put.new.self c.args.rest.now c.requires (sym c.is_blank.ensures ∙ c.if-is_blank.false) quote
    (sym c.begins_pair.ensures ∙ c.if-begins_pair.false) (sym c.is_punctuation.ensures ∙ c.if-is_punctuation.true)
    (c.in_ok-put.ensures.ok ∙ ap (λ t. t ++ c.args.c ∷ []) c.new.ensures)
    c.in_ok-end.ensures.words c.in_ok-end.ensures.mode c.in_ok-end.ensures.text c.in_ok-end.ensures.line
