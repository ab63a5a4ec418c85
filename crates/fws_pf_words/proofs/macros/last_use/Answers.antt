use Rattle.std.proofs.Common.{◌≡◌, [], false, true≢false, ap, sym, ◌∙◌, rules}
use Rattle.std.specs.Bool.{IsTrue}
use Rattle.fws_pf_words.specs.Uses.{joined_words}
use Rattle.fws_pf_words.proofs.Uses.{alone_last, joined_last_use, unknown_last}
use Rattle.fws_pf_words.proofs.macros.last_use.Goals as goal

false_not : IsTrue false → ⊥
false_not h = true≢false (sym h)

pub returns-in_default : goal.returns-in_default
returns-in_default c = λ h.
    unknown_last c.args.macros.now c.args.line c.args.text.now c.in_ok-name.name c.split_name.result.1.now (c.in_ok-name.ensures ∙ c.split_name.ensures.name) c.in_default.ensures

pub returns-then-is_empty : goal.returns-then-is_empty
returns-then-is_empty c = λ h.
    let none : c.in-Some.words.now ≡ [] = c.is_empty.ensures.0 (search rules) in
    alone_last c.args.macros.now c.args.line c.args.text.now c.in_ok-name.name c.split_name.result.1.now c.in-Some.words.now c.in_ok-alone.alone h
    (c.in_ok-name.ensures ∙ c.split_name.ensures.name) c.split_name.ensures.behind c.in-Some.ensures none c.in_ok-alone.ensures

pub returns : goal.returns
returns c = λ h.
    joined_last_use c.args.macros.now c.args.line c.args.text.now c.in_ok-name.name c.split_name.result.1.now c.in-Some.words.now c.in_ok-joined.joined
    (c.in_ok-name.ensures ∙ c.split_name.ensures.name) c.split_name.ensures.behind c.in-Some.ensures (λ e. false_not (c.if-is_empty.ensures.1 e))
    (c.in_ok-joined.ensures ∙ ap (λ ws. joined_words ws c.split_name.result.1.now) c.as_slice.ensures)
