use Rattle.std.proofs.Common.{ℕ, List, Some, sym, ◌∙◌, ap, subst}
use Rattle.std.proofs.lemmas.Option.{same_Some}
use Rattle.fws_box.specs.Sides.{IsWithin}
use Rattle.fws_net.specs.declared.outcome.Outcome.{Outcome}
use Rattle.fws_exec.specs.Parts.{either}
use Rattle.fws_exec.proofs.parts.joined.Goals as goal

pub returns-clause-value : goal.returns-clause-value
returns-clause-value c p w a b of_first of_second =
    let both = c.in_ok-pairs.ensures.value p w in
    let made = c.in_ok-tree.ensures.value p (subst (λ (tops : List ℕ). IsWithin tops p) (sym c.in_ok-pairs.ensures.tops) w) in
    made.2
    ∙ ap (λ (x : Outcome × Outcome). Some (either x.0 x.1)) (same_Some made.0 (both.0, both.1) (sym made.1 ∙ both.4))
    ∙ ap (λ x. Some (either x both.1)) (same_Some both.0 a (sym both.2 ∙ of_first))
    ∙ ap (λ x. Some (either a x)) (same_Some both.1 b (sym both.3 ∙ of_second))
