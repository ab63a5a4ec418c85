use Rattle.std.proofs.Common.{sym, ◌∙◌, ap, subst}
use Rattle.fws_exec.specs.declared.roll.Roll.{Roll}
use Rattle.fws_exec.specs.Divided.{held, says_of}
use Rattle.fws_exec.specs.Moving.{IsGrown}
use Rattle.fws_exec.specs.Sheets.{among}
use Rattle.fws_exec.specs.Views.{AreAlike, AllFit}
use Rattle.fws_exec.proofs.Passed.{moved_from, noted_from}
use Rattle.fws_exec.proofs.sheet.Sheet.divide.Goals as goal

pub divide_in-requires-clause-alike : goal.divide_in-requires-clause-alike
divide_in-requires-clause-alike c = (c.args.sides, c.requires.sides, subst (λ (r : Roll). AreAlike c.args.sides r.classes.items c.args.group.now) (sym c.area.ensures.roll) (c.are_alike.ensures c.if-not-are_alike.false))

pub divide_in-requires-clause-fit : goal.divide_in-requires-clause-fit
divide_in-requires-clause-fit c = subst (λ (r : Roll). AllFit r.classes.items c.args.cond.now c.args.group.now) (sym c.area.ensures.roll) (c.all_fit.ensures c.if-not-all_fit.false)

pub divide_in-requires-clause-covers : goal.divide_in-requires-clause-covers
divide_in-requires-clause-covers c p w a = c.in_ok-area.ensures.covers p w (ap (λ n. among c.args.group.now.numbers.items n) (sym (c.area.ensures.same p)) ∙ a)

pub returns-clause-moved : goal.returns-clause-moved
returns-clause-moved c =
    moved_from c.args.going (among c.args.group.now.numbers.items) (held c.args.ground.now.site.now c.args.ground.now.state c.args.part c.args.cond.now) c.args.self.now c.area.new.self c.divide_in.new.self
    c.area.ensures.same c.area.ensures.roll c.area.ensures.tops c.in_ok-divide_in.ensures.moved

pub returns-clause-grown : goal.returns-clause-grown
returns-clause-grown c = subst (λ (r : Roll). IsGrown c.args.going r.classes.items c.divide_in.new.self.roll.classes.items) c.area.ensures.roll c.in_ok-divide_in.ensures.grown

pub returns-clause-noted : goal.returns-clause-noted
returns-clause-noted c =
    noted_from (says_of c.args.going) (among c.args.group.now.numbers.items) (held c.args.ground.now.site.now c.args.ground.now.state c.args.part c.args.cond.now) c.args.self.now c.area.new.self c.divide_in.new.self
    c.area.ensures.same c.area.ensures.roll c.area.ensures.tops (ap (λ v. v.items) c.area.ensures.reached) c.in_ok-divide_in.ensures.noted
