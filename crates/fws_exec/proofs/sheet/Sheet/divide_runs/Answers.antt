use Rattle.std.proofs.Common.{◌≡◌, ◌+◌, ◌<◌, ◌&&◌, ◌||◌, not, Bool, true, false, take, length, refl, sym, ◌∙◌, ap, subst, arith}
use Rattle.std.proofs.lemmas.List.{take_all}
use Rattle.fws_exec.specs.declared.spot.Spot.TheVariants.{At}
use Rattle.fws_exec.specs.Passing.{is_apart, is_together, Passed}
use Rattle.fws_exec.specs.Sheets.{among}
use Rattle.fws_exec.proofs.Listing.{any_more, any_item}
use Rattle.fws_exec.proofs.Moved.{at_grows}
use Rattle.fws_exec.proofs.Passed.{onward_same, onward_then, passed_both, passed_none, passed_test}
use Rattle.fws_exec.proofs.sheet.Sheet.divide_runs.Goals as goal

pub loop-group-init : goal.loop-group-init
loop-group-init c = record {
  sheet = c.requires.sheet;
  tops = c.requires.tops;
  same = refl;
  passed = passed_none c.args.errand.now (is_together c.args.crowded (take 0 c.args.groups.now)) c.args.place c.args.past c.args.self.now (λ n. refl);
  onward = onward_same c.args.place c.args.self.now.roll.classes.items;
}

pub loop-group-preserved : goal.loop-group-preserved
loop-group-preserved c =
    let lt : c.loop-group.group-index < length c.args.groups.now = omega arith in
    let together : is_apart c.args.crowded c.group-item.result ≡ false = sym c.is_apart.ensures ∙ c.if-is_apart.false in
    record {
      sheet = c.in_ok-divide_run.ensures.sheet;
      tops = c.divide_run.ensures.tops ∙ c.loop-group.invariant.tops;
      same = c.divide_run.ensures.tops ∙ c.loop-group.invariant.same;
      passed = passed_both c.args.errand.now (is_together c.args.crowded (take c.loop-group.group-index c.args.groups.now)) (among c.group-item.result.numbers.items) (is_together c.args.crowded (take (c.loop-group.group-index + 1) c.args.groups.now)) c.args.place c.args.past c.args.self.now c.loop-group.self c.divide_run.new.self c.requires.sheet
          (λ n. any_more (λ g. not (is_apart c.args.crowded g) && among g.numbers.items n) c.args.groups.now c.loop-group.group-index c.group-item.result lt c.group-item.is
          ∙ ap (λ b. is_together c.args.crowded (take c.loop-group.group-index c.args.groups.now) n || (not b && among c.group-item.result.numbers.items n)) together)
          c.loop-group.invariant.onward.grows c.in_ok-divide_run.ensures.onward.grows c.loop-group.invariant.same
          (at_grows (At c.args.place) c.args.self.now.roll.classes.items c.loop-group.self.roll.classes.items (among c.group-item.result.numbers.items) refl c.loop-group.invariant.onward.grows
          (λ n a. c.requires.here n (any_item (λ g. among g.numbers.items n) c.args.groups.now c.loop-group.group-index c.group-item.result lt c.group-item.is a)))
          c.loop-group.invariant.passed c.in_ok-divide_run.ensures.passed;
      onward = onward_then c.args.place c.args.self.now.roll.classes.items c.loop-group.self.roll.classes.items c.divide_run.new.self.roll.classes.items c.loop-group.invariant.onward c.in_ok-divide_run.ensures.onward;
    }

pub loop-group-preserved-then-is_apart : goal.loop-group-preserved-then-is_apart
loop-group-preserved-then-is_apart c =
    let lt : c.loop-group.group-index < length c.args.groups.now = omega arith in
    let apart : is_apart c.args.crowded c.group-item.result ≡ true = sym c.is_apart.ensures ∙ c.if-is_apart.true in
    record {
      sheet = c.loop-group.invariant.sheet;
      tops = c.loop-group.invariant.tops;
      same = c.loop-group.invariant.same;
      passed = passed_test c.args.errand.now (is_together c.args.crowded (take c.loop-group.group-index c.args.groups.now)) (is_together c.args.crowded (take (c.loop-group.group-index + 1) c.args.groups.now)) c.args.place c.args.past c.args.self.now c.loop-group.self
          (λ n. any_more (λ g. not (is_apart c.args.crowded g) && among g.numbers.items n) c.args.groups.now c.loop-group.group-index c.group-item.result lt c.group-item.is
          ∙ ap (λ b. is_together c.args.crowded (take c.loop-group.group-index c.args.groups.now) n || (not b && among c.group-item.result.numbers.items n)) apart
          ∙ or_false (is_together c.args.crowded (take c.loop-group.group-index c.args.groups.now) n))
          c.loop-group.invariant.passed;
      onward = c.loop-group.invariant.onward;
    }
  where
    or_false : (b : Bool) → (b || false) ≡ b
    or_false true = refl
    or_false false = refl

pub returns-clause-passed : goal.returns-clause-passed
returns-clause-passed c =
    subst (λ gs. Passed c.args.errand.now (is_together c.args.crowded gs) c.args.place c.args.past c.args.self.now c.loop-group.self) (take_all c.loop-group.group-index c.args.groups.now (omega arith)) c.loop-group.invariant.passed
