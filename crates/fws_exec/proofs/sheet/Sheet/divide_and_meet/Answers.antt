use Rattle.std.proofs.Common.{◌||◌, refl, sym, ◌∙◌, ap, subst}
use Rattle.fws_exec.specs.declared.spot.Spot.TheVariants.{At}
use Rattle.fws_exec.specs.Passing.{is_parted, is_together, Passed}
use Rattle.fws_exec.specs.Sheets.{among, AllAt}
use Rattle.fws_exec.specs.Views.{is_in}
use Rattle.fws_exec.proofs.Moved.{at_grows, or_right}
use Rattle.fws_exec.proofs.Passed.{in_parts, onward_then, passed_both}
use Rattle.fws_exec.proofs.sheet.Sheet.divide_and_meet.Goals as goal

pub meet_run-requires-clause-here : goal.meet_run-requires-clause-here
meet_run-requires-clause-here c =
    subst (λ ns. AllAt (At c.args.place) c.divide_runs.new.self.roll.classes.items (among ns)) (sym c.as_slice.ensures.value)
    (at_grows (At c.args.place) c.args.self.now.roll.classes.items c.divide_runs.new.self.roll.classes.items (among c.in_ok-apart.apart.items) refl c.in_ok-divide_runs.ensures.onward.grows
    (λ n a. c.requires.here n (or_right (is_together c.is_crowd-crowded.result c.args.groups.now n) (is_parted c.is_crowd-crowded.result c.args.groups.now n) (is_in c.args.groups.now n) (in_parts c.is_crowd-crowded.result c.args.groups.now n) (sym (c.in_ok-apart.ensures n) ∙ a))))

pub returns-clause-passed : goal.returns-clause-passed
returns-clause-passed c =
    passed_both c.args.errand.now (is_together c.is_crowd-crowded.result c.args.groups.now) (among c.in_ok-apart.apart.items) (is_in c.args.groups.now) c.args.place c.args.past c.args.self.now c.divide_runs.new.self c.meet_run.new.self c.requires.sheet
    (λ n. in_parts c.is_crowd-crowded.result c.args.groups.now n ∙ ap (λ b. is_together c.is_crowd-crowded.result c.args.groups.now n || b) (sym (c.in_ok-apart.ensures n)))
    c.in_ok-divide_runs.ensures.onward.grows c.in_ok-meet_run.ensures.onward.grows c.divide_runs.ensures.tops
    (at_grows (At c.args.place) c.args.self.now.roll.classes.items c.divide_runs.new.self.roll.classes.items (among c.in_ok-apart.apart.items) refl c.in_ok-divide_runs.ensures.onward.grows
    (λ n a. c.requires.here n (or_right (is_together c.is_crowd-crowded.result c.args.groups.now n) (is_parted c.is_crowd-crowded.result c.args.groups.now n) (is_in c.args.groups.now n) (in_parts c.is_crowd-crowded.result c.args.groups.now n) (sym (c.in_ok-apart.ensures n) ∙ a))))
    c.in_ok-divide_runs.ensures.passed
    (subst (λ ns. Passed c.args.errand.now (among ns) c.args.place c.args.past c.divide_runs.new.self c.meet_run.new.self) c.as_slice.ensures.value c.in_ok-meet_run.ensures.passed)

pub returns-clause-onward : goal.returns-clause-onward
returns-clause-onward c = onward_then c.args.place c.args.self.now.roll.classes.items c.divide_runs.new.self.roll.classes.items c.meet_run.new.self.roll.classes.items c.in_ok-divide_runs.ensures.onward c.in_ok-meet_run.ensures.onward
