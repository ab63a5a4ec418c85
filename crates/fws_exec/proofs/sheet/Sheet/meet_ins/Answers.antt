use Rattle.std.proofs.Common.{get_or, sym, ◌∙◌, ap, subst, refl}
use Rattle.std.proofs.lemmas.Option.{slice_get-get_or}
use Rattle.fws_exec.specs.declared.going.Going.TheVariants as goings
use Rattle.fws_exec.specs.declared.spot.Spot.TheVariants.{At}
use Rattle.fws_exec.specs.Divided.{held, says_of, AreMoved, AreNoted}
use Rattle.fws_exec.specs.Goings.{lands}
use Rattle.fws_exec.specs.Moving.{IsGrown}
use Rattle.fws_exec.specs.Sheets.{among}
use Rattle.fws_exec.proofs.Coursing.{course_obeys, part_jumps, part_within}
use Rattle.fws_exec.proofs.Passed.{onward_of}
use Rattle.fws_exec.proofs.Running.{act_apart, act_onward, ins_passed}
use Rattle.fws_exec.proofs.sheet.Sheet.meet_ins.Goals as goal

pub divide_all-requires-clause-here : goal.divide_all-requires-clause-here
divide_all-requires-clause-here c =
    let got = slice_get-get_or c.args.errand.now.code.now c.args.at c.index-errand-at.result (part_within c.args.errand.now.code.now c.args.errand.now.part c.args.at c.requires.part c.requires.high) in (
      At c.requires.here.0,
      refl,
      c.requires.here.2,
      λ l e. act_apart c.args.errand.now.stage c.requires.here.0 c.args.at (get_or c.args.errand.now.code.now c.args.at c.index-errand-at.result).act c.requires.here.1
          (λ to is. (part_jumps c.args.errand.now.code.now c.args.errand.now.part c.args.at (get_or c.args.errand.now.code.now c.args.at c.index-errand-at.result) c.requires.part c.requires.low c.requires.high got to is).0)
          (ap (λ g. lands g l) (sym c.going-going.ensures) ∙ e),
    )

pub returns-clause-passed : goal.returns-clause-passed
returns-clause-passed c =
    let got = slice_get-get_or c.args.errand.now.code.now c.args.at c.index-errand-at.result (part_within c.args.errand.now.code.now c.args.errand.now.part c.args.at c.requires.part c.requires.high) in
    let jumps = part_jumps c.args.errand.now.code.now c.args.errand.now.part c.args.at (get_or c.args.errand.now.code.now c.args.at c.index-errand-at.result) c.requires.part c.requires.low c.requires.high got in
    ins_passed c.args.errand.now (among c.args.numbers.now) c.args.at (get_or c.args.errand.now.code.now c.args.at c.index-errand-at.result) c.args.self.now c.divide_all.new.self (λ to is. (jumps to is).0)
    (λ aim p. course_obeys c.args.errand.now aim p c.args.at (get_or c.args.errand.now.code.now c.args.at c.index-errand-at.result) c.requires.high got jumps)
    (subst (λ g. AreNoted (says_of g) (among c.args.numbers.now) (held c.args.errand.now.ground.site.now c.args.errand.now.ground.state c.args.errand.now.part (get_or c.args.errand.now.code.now c.args.at c.index-errand-at.result).cond) c.args.self.now c.divide_all.new.self) c.going-going.ensures c.in_ok-divide_all.ensures.noted)
    (subst (λ g. AreMoved g (among c.args.numbers.now) (held c.args.errand.now.ground.site.now c.args.errand.now.ground.state c.args.errand.now.part (get_or c.args.errand.now.code.now c.args.at c.index-errand-at.result).cond) c.args.self.now c.divide_all.new.self) c.going-going.ensures c.in_ok-divide_all.ensures.moved)

pub returns-clause-onward : goal.returns-clause-onward
returns-clause-onward c =
    let got = slice_get-get_or c.args.errand.now.code.now c.args.at c.index-errand-at.result (part_within c.args.errand.now.code.now c.args.errand.now.part c.args.at c.requires.part c.requires.high) in
    onward_of c.args.at (goings.Behind c.args.errand.now.ground.state c.args.errand.now.stage c.args.at (get_or c.args.errand.now.code.now c.args.at c.index-errand-at.result).act) c.args.self.now.roll.classes.items c.divide_all.new.self.roll.classes.items
    (λ l. act_onward c.args.errand.now.stage c.args.at (get_or c.args.errand.now.code.now c.args.at c.index-errand-at.result).act (λ to is. (part_jumps c.args.errand.now.code.now c.args.errand.now.part c.args.at (get_or c.args.errand.now.code.now c.args.at c.index-errand-at.result) c.requires.part c.requires.low c.requires.high got to is).0))
    (subst (λ g. IsGrown g c.args.self.now.roll.classes.items c.divide_all.new.self.roll.classes.items) c.going-going.ensures c.in_ok-divide_all.ensures.grown)
