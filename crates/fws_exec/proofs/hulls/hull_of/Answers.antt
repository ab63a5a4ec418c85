use Rattle.std.proofs.Common.{◌<◌, nat_eq, take, length, get_or, sym, ◌∙◌, subst, arith}
use Rattle.std.proofs.lemmas.Bool.{eqb-true}
use Rattle.fws_exec.specs.Hulls.{HasAt}
use Rattle.fws_exec.specs.Sheets.{among}
use Rattle.fws_exec.proofs.Listing.{among_more, any_all, or_cases}
use Rattle.fws_exec.proofs.hulls.hull_of.Goals as goal

pub loop-number-preserved : goal.loop-number-preserved
loop-number-preserved c =
    let lt : c.loop-number.number-index < length c.args.numbers.now = omega arith in
    let number = get_or c.args.numbers.now c.loop-number.number-index 0 in
    record {
      has = λ n p a had. or_cases _ (among (take c.loop-number.number-index c.args.numbers.now) n) (nat_eq n number) (sym (among_more c.args.numbers.now c.loop-number.number-index n lt) ∙ a)
          (λ before. c.with_class-hull.ensures.kept p (c.loop-number.invariant.has n p before had))
          (λ here. c.with_class-hull.ensures.taken p (subst (λ k. HasAt c.args.hulls.now k p) (eqb-true n number here) had));
    }

pub returns : goal.returns
returns c n p a had = c.loop-number.invariant.has n p (any_all (nat_eq n) c.args.numbers.now c.loop-number.number-index (omega arith) ∙ a) had
