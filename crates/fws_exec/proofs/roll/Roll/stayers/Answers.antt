use Rattle.std.proofs.Common.{◌≡◌, ◌+◌, ◌<◌, nat_eq, get_or, Some, slice_get, take, length, sym, ◌∙◌, ap, subst, arith}
use Rattle.std.proofs.lemmas.Bool.{eqb-true}
use Rattle.fws_exec.specs.Goings.{Goes}
use Rattle.fws_exec.specs.Sheets.{among}
use Rattle.fws_exec.proofs.Listing.{among_end, among_more, any_all, or_cases, or_map}
use Rattle.fws_exec.proofs.Moved.{or_left}
use Rattle.fws_exec.proofs.roll.Roll.stayers.Goals as goal

pub loop-number-preserved : goal.loop-number-preserved
loop-number-preserved c =
    let lt : c.loop-number.number-index < length c.args.numbers.now = omega arith in
    let number = get_or c.args.numbers.now c.loop-number.number-index 0 in
    record {
      inside = λ n h. among_more c.args.numbers.now c.loop-number.number-index n lt ∙ or_map (among c.loop-number.stayers.items n) (nat_eq n number) (among (take c.loop-number.number-index c.args.numbers.now) n) (c.loop-number.invariant.inside n) (sym (ap (λ ns. among ns n) c.in_ok-push.ensures.items ∙ among_end c.loop-number.stayers.items number n) ∙ h);
      stay = λ n d h got. or_cases (Goes c.args.going 1 d.progress (record { spot = c.args.spot; progress = d.progress })) (among c.loop-number.stayers.items n) (nat_eq n number) (sym (ap (λ ns. among ns n) c.in_ok-push.ensures.items ∙ among_end c.loop-number.stayers.items number n) ∙ h)
          (λ before. c.loop-number.invariant.stay n d before got)
          (λ here. c.in_ok-stays.ensures c.if-not-stays.false d (subst (λ k. slice_get c.args.self.now.classes.items k ≡ Some d) (eqb-true n number here) got));
    }

pub loop-number-preserved-then-not-stays : goal.loop-number-preserved-then-not-stays
loop-number-preserved-then-not-stays c =
    let lt : c.loop-number.number-index < length c.args.numbers.now = omega arith in
    let number = get_or c.args.numbers.now c.loop-number.number-index 0 in
    record {
      inside = λ n h. or_left (among (take c.loop-number.number-index c.args.numbers.now) n) (nat_eq n number) (among (take (c.loop-number.number-index + 1) c.args.numbers.now) n) (among_more c.args.numbers.now c.loop-number.number-index n lt) (c.loop-number.invariant.inside n h);
      stay = c.loop-number.invariant.stay;
    }

pub returns-clause-inside : goal.returns-clause-inside
returns-clause-inside c n h = sym (any_all (nat_eq n) c.args.numbers.now c.loop-number.number-index (omega arith)) ∙ c.loop-number.invariant.inside n h
