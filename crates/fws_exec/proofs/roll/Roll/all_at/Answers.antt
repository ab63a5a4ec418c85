use Rattle.std.proofs.Common.{◌<◌, nat_eq, length, inl, inr, sym, ◌∙◌, ap, subst, arith}
use Rattle.std.proofs.lemmas.Bool.{eq-eqb, eqb-true, false≢true}
use Rattle.std.proofs.lemmas.Option.{slice_get_within}
use Rattle.fws_exec.specs.Sheets.{among, StandsAt}
use Rattle.fws_exec.proofs.Listing.{among_end, or_cases}
use Rattle.fws_exec.proofs.Moved.{or_left, or_right}
use Rattle.fws_exec.proofs.Putting.{same_or_not}
use Rattle.fws_exec.proofs.Sent.{at_stands, stands_at}
use Rattle.fws_exec.proofs.roll.Roll.all_at.Goals as goal

pub loop-number-preserved : goal.loop-number-preserved
loop-number-preserved c = record {
  here = λ n a. or_cases (StandsAt c.args.spot c.args.self.now.classes.items n) (among c.loop-number.numbers.items n) (nat_eq n c.loop-number.number) (sym (ap (λ ns. among ns n) c.in_ok-push.ensures.items ∙ among_end c.loop-number.numbers.items c.loop-number.number n) ∙ a)
      (λ before. c.loop-number.invariant.here n before)
      (λ is. subst (λ k. StandsAt c.args.spot c.args.self.now.classes.items k) (sym (eqb-true n c.loop-number.number is)) (stands_at c.args.spot c.args.self.now.classes.items c.loop-number.number (sym c.stands.ensures ∙ c.if-not-stands.false)));
  all = λ n lt at. elim (same_or_not n c.loop-number.number) [
    | inl is ↦ or_right (among c.loop-number.numbers.items n) (nat_eq n c.loop-number.number) (among c.push.new.self.items n) (ap (λ ns. among ns n) c.in_ok-push.ensures.items ∙ among_end c.loop-number.numbers.items c.loop-number.number n) (eq-eqb n c.loop-number.number is)
    | inr away ↦ or_left (among c.loop-number.numbers.items n) (nat_eq n c.loop-number.number) (among c.push.new.self.items n) (ap (λ ns. among ns n) c.in_ok-push.ensures.items ∙ among_end c.loop-number.numbers.items c.loop-number.number n) (c.loop-number.invariant.all n (omega arith) at)
  ];
}

pub loop-number-preserved-then-not-stands : goal.loop-number-preserved-then-not-stands
loop-number-preserved-then-not-stands c = record {
  here = c.loop-number.invariant.here;
  all = λ n lt at. elim (same_or_not n c.loop-number.number) [
    | inl is ↦ absurd (false≢true (sym c.if-not-stands.true ∙ c.stands.ensures ∙ at_stands c.args.spot c.args.self.now.classes.items c.loop-number.number (subst (λ k. StandsAt c.args.spot c.args.self.now.classes.items k) is at)))
    | inr away ↦ c.loop-number.invariant.all n (omega arith) at
  ];
}

pub returns-clause-all : goal.returns-clause-all
returns-clause-all c n at =
    let within : n < length c.args.self.now.classes.items = slice_get_within c.args.self.now.classes.items n (record { spot = c.args.spot; progress = at.0 }) at.1 in
    let end = c.in_ok-number-end.ensures in
    c.loop-number.invariant.all n (omega arith) at
