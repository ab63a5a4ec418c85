use Rattle.std.proofs.Common.{◌≡◌, ◌-◌, ◌+◌, ◌≤◌, length, sym, ◌∙◌, ap, subst, arith}
use Rattle.fws_exec.specs.declared.going.Going.TheVariants as goings
use Rattle.fws_exec.specs.declared.roll.Roll.{Roll}
use Rattle.fws_exec.specs.Divided.{says_from, seen_at}
use Rattle.fws_exec.specs.Moving.{IsGrown}
use Rattle.fws_exec.specs.Runs.{numbered, picked, run_of}
use Rattle.fws_exec.specs.Sheets.{among}
use Rattle.fws_exec.specs.Views.{AreAlike}
use Rattle.fws_exec.proofs.Coursing.{part_long, run_obeys}
use Rattle.fws_exec.proofs.Moved.{noted_onwards}
use Rattle.fws_exec.proofs.Passed.{moved_from, noted_from, onward_of}
use Rattle.fws_exec.proofs.Running.{leaving_onward, run_long, run_passed}
use Rattle.fws_exec.proofs.sheet.Sheet.divide_run.Goals as goal

pub note_run_in-requires-clause-alike : goal.note_run_in-requires-clause-alike
note_run_in-requires-clause-alike c = (c.args.sides, c.requires.sides, subst (λ (r : Roll). AreAlike c.args.sides r.classes.items c.args.group.now) (sym c.area.ensures.roll) (c.are_alike.ensures c.if-not-are_alike.false))

pub note_run_in-requires-clause-covers : goal.note_run_in-requires-clause-covers
note_run_in-requires-clause-covers c p w a = c.in_ok-area.ensures.covers p w (ap (λ n. among c.args.group.now.numbers.items n) (sym (c.area.ensures.same p)) ∙ a)

pub divide_run_in-requires-clause-alike : goal.divide_run_in-requires-clause-alike
divide_run_in-requires-clause-alike c = (c.args.sides, c.requires.sides, subst (λ (r : Roll). AreAlike c.args.sides r.classes.items c.args.group.now) (sym (c.note_run_in.ensures.roll ∙ c.area.ensures.roll)) (c.are_alike.ensures c.if-not-are_alike.false))

pub divide_run_in-requires-clause-covers : goal.divide_run_in-requires-clause-covers
divide_run_in-requires-clause-covers c p w a = c.in_ok-area.ensures.covers p w (ap (λ n. among c.args.group.now.numbers.items n) (sym (c.note_run_in.ensures.same p ∙ c.area.ensures.same p)) ∙ a)

pub returns-clause-passed : goal.returns-clause-passed
returns-clause-passed c =
    let le : c.args.place ≤ c.args.past = (let lt = c.requires.later in omega arith) in
    let within : c.args.past ≤ length c.args.errand.now.code.now = part_long c.args.errand.now.code.now c.args.errand.now.part c.requires.part c.args.past c.requires.within in
    let long : c.args.past ≡ c.args.place + (c.args.past - c.args.place) = omega arith in
    run_passed c.args.errand.now (among c.args.group.now.numbers.items) c.args.place c.args.past c.args.self.now c.divide_run_in.new.self le (run_long c.args.errand.now.code.now c.args.place c.args.past le within) c.requires.leaves
    (λ aim p. run_obeys c.args.errand.now aim p (c.args.past - c.args.place) c.args.place c.args.past c.requires.part long c.requires.low c.requires.within)
    (noted_onwards (says_from c.args.place) (among c.args.group.now.numbers.items) (λ g p. numbered 1 (seen_at c.args.errand.now.ground.site.now c.args.errand.now.ground.state c.args.errand.now.part g p) (run_of c.args.errand.now.code.now c.args.place c.args.past)) c.args.self.now c.note_run_in.new.self c.divide_run_in.new.self (ap (λ v. v.items) c.divide_run_in.ensures.reached)
    (noted_from (says_from c.args.place) (among c.args.group.now.numbers.items) (λ g p. numbered 1 (seen_at c.args.errand.now.ground.site.now c.args.errand.now.ground.state c.args.errand.now.part g p) (run_of c.args.errand.now.code.now c.args.place c.args.past)) c.args.self.now c.area.new.self c.note_run_in.new.self
    c.area.ensures.same c.area.ensures.roll c.area.ensures.tops (ap (λ v. v.items) c.area.ensures.reached) c.in_ok-note_run_in.ensures.noted))
    (moved_from (goings.Leaving c.args.errand.now.stage c.args.place) (among c.args.group.now.numbers.items) (λ g p. picked c.args.place (seen_at c.args.errand.now.ground.site.now c.args.errand.now.ground.state c.args.errand.now.part g p) (run_of c.args.errand.now.code.now c.args.place c.args.past)) c.args.self.now c.note_run_in.new.self c.divide_run_in.new.self
    (λ p. c.note_run_in.ensures.same p ∙ c.area.ensures.same p) (c.note_run_in.ensures.roll ∙ c.area.ensures.roll) (c.note_run_in.ensures.tops ∙ c.area.ensures.tops) c.in_ok-divide_run_in.ensures.moved)

pub returns-clause-onward : goal.returns-clause-onward
returns-clause-onward c = onward_of c.args.place (goings.Leaving c.args.errand.now.stage c.args.place) c.args.self.now.roll.classes.items c.divide_run_in.new.self.roll.classes.items (leaving_onward c.args.errand.now.stage c.args.place)
    (subst (λ (r : Roll). IsGrown (goings.Leaving c.args.errand.now.stage c.args.place) r.classes.items c.divide_run_in.new.self.roll.classes.items) (c.note_run_in.ensures.roll ∙ c.area.ensures.roll) c.in_ok-divide_run_in.ensures.grown)
