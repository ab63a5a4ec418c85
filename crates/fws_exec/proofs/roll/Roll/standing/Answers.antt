use Rattle.std.proofs.Common.{nat_eq, get_or, sym, ◌∙◌, ap, subst}
use Rattle.std.proofs.lemmas.Bool.{eqb-true}
use Rattle.fws_exec.specs.declared.spot.Spot.TheVariants.{At}
use Rattle.fws_exec.specs.Sheets.{among, StandsAt}
use Rattle.fws_exec.proofs.Listing.{among_end, or_cases}
use Rattle.fws_exec.proofs.Sent.{stands_at}
use Rattle.fws_exec.proofs.roll.Roll.standing.Goals as goal

pub loop-number-preserved : goal.loop-number-preserved
loop-number-preserved c = record {
  here = λ n a. or_cases (StandsAt (At c.args.place) c.args.self.now.classes.items n) (among c.loop-number.numbers.items n) (nat_eq n (get_or c.args.came.now c.loop-number.number-index 0)) (sym (ap (λ ns. among ns n) c.in_ok-push.ensures.items ∙ among_end c.loop-number.numbers.items (get_or c.args.came.now c.loop-number.number-index 0) n) ∙ a)
      (λ before. c.loop-number.invariant.here n before)
      (λ is. subst (λ k. StandsAt (At c.args.place) c.args.self.now.classes.items k) (sym (eqb-true n (get_or c.args.came.now c.loop-number.number-index 0) is)) (stands_at (At c.args.place) c.args.self.now.classes.items (get_or c.args.came.now c.loop-number.number-index 0) (sym c.stands.ensures ∙ c.if-not-stands.false)));
}
