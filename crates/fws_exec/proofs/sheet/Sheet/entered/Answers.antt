use Rattle.std.proofs.Common.{length, slice_get, sym, ◌∙◌, ap, subst}
use Rattle.fws_box.specs.Sides.{IsWithin}
use Rattle.fws_exec.specs.Stages.{coming_in}
use Rattle.fws_exec.proofs.sheet.Sheet.entered.Goals as goal

pub returns-clause-count : goal.returns-clause-count
returns-clause-count c = c.in_ok-divide_entered.ensures.count ∙ ap (λ v. length v.items) c.admit.ensures.reached ∙ c.in_ok-sheet.ensures.count

pub returns-clause-none : goal.returns-clause-none
returns-clause-none c = c.in_ok-divide_entered.ensures.none (λ k got. c.in_ok-sheet.ensures.none k (ap (λ v. slice_get v.items k) (sym c.admit.ensures.reached) ∙ got))

pub returns-clause-meant : goal.returns-clause-meant
returns-clause-meant c next p w =
    c.in_ok-divide_entered.ensures.meant next p w ∙ c.in_ok-admit.ensures.meant (coming_in next p) p (subst (λ ts. IsWithin ts p) (sym c.in_ok-sheet.ensures.tops) w)
