use Rattle.std.proofs.Common.{◌+◌, List, ◌∷◌, ◌++◌, map, drop, sym, ap, ◌∙◌, arith}
use Rattle.std.proofs.lemmas.List.{at_drop_more}
use Rattle.fws_net.specs.declared.condition.Lit.{Lit}
use Rattle.fws_pf_words.specs.Drawings.{drawn}
use Rattle.fws_pf_read.specs.declared.asked.Asked.{Asked}
use Rattle.fws_pf_read.specs.Asked.{asked_choice}
use Rattle.fws_pf_read.proofs.asked.put_asked.Goals as goal

pub loop-option-preserved : goal.loop-option-preserved
loop-option-preserved c = λ rest.
    let i = c.loop-option.option-index in
    let behind = drop (i + 1) c.args.asked.now in
    let at : List Asked → List (List Lit) = λ l. drawn c.loop-option.all (map asked_choice l ++ rest) in
    c.in_ok-put_choice.ensures (map asked_choice behind ++ rest) ∙ ap (λ (x : Asked). at (x ∷ behind)) c.option-item.is
    ∙ sym (at_drop_more at c.args.asked.now i c.option-item.result (omega arith)) ∙ c.loop-option.invariant rest
