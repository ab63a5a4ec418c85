use Rattle.std.proofs.Common.{◌∙◌, ap}
use Rattle.fws_exec.proofs.Telling.{keeps_by, keeps_then}
use Rattle.fws_exec.proofs.sheet.Sheet.step.Goals as goal

pub returns-clause-kept : goal.returns-clause-kept
returns-clause-kept c =
    keeps_then c.args.errand.now c.args.self.now c.visit.new.self c.forget.new.self
    (keeps_then c.args.errand.now c.args.self.now c.leap.new.self c.visit.new.self
    (keeps_then c.args.errand.now c.args.self.now c.meet.new.self c.leap.new.self (keeps_by c.args.errand.now c.args.self.now c.meet.new.self c.requires.tops (ap (λ v. v.items) c.meet.ensures.reached) c.in_ok-meet.ensures.kept) c.in_ok-leap.ensures.kept)
    c.in_ok-visit.ensures.kept)
    (keeps_by c.args.errand.now c.visit.new.self c.forget.new.self (c.visit.ensures.tops ∙ c.leap.ensures.tops ∙ c.meet.ensures.tops ∙ c.requires.tops) (ap (λ v. v.items) c.forget.ensures.reached) c.forget.ensures.kept)
