use Rattle.std.proofs.Common.{sym, subst}
use Rattle.fws_ios_put.specs.declared.choices.Choices.{Choices}
use Rattle.fws_ios_put.specs.Choices.{AreAskable, AreMadeOf}
use Rattle.fws_ios_put.proofs.choosing.choices_of.Goals as goal

pub returns-in-Ok-clause-askable : goal.returns-in-Ok-clause-askable
returns-in-Ok-clause-askable c =
    let fresh = c.in-Ok.fresh in
    let known = c.in_ok-kinds.kinds in
    let made : Choices = record { fresh = fresh.0; known = known.0; acked_fresh = fresh.1; acked_known = known.1 } in
    let askable : AreAskable c.args.site.now made =
    record { fresh = c.in-Ok.ensures.askable; known = c.in_ok-kinds.ensures.askable; acked_fresh = c.in-Ok.ensures.acked_askable; acked_known = c.in_ok-kinds.ensures.acked_askable } in
    subst (λ (choices : Choices). AreAskable c.args.site.now choices) (sym c.chosen.ensures) askable

pub returns-in-Ok-clause-made : goal.returns-in-Ok-clause-made
returns-in-Ok-clause-made c =
    let fresh = c.in-Ok.fresh in
    let known = c.in_ok-kinds.kinds in
    let made : Choices = record { fresh = fresh.0; known = known.0; acked_fresh = fresh.1; acked_known = known.1 } in
    let of : AreMadeOf c.args.site.now c.args.new.now.1 c.args.known.now.1 c.args.entry made =
    record { fresh = c.in-Ok.ensures.value; known = c.in_ok-kinds.ensures.value; acked_known = c.in_ok-kinds.ensures.acked_value; acked_fresh = c.in-Ok.ensures.acked_value } in
    subst (λ (choices : Choices). AreMadeOf c.args.site.now c.args.new.now.1 c.args.known.now.1 c.args.entry choices) (sym c.chosen.ensures) of
