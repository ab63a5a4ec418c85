use Rattle.std.proofs.Common.{refl, ap}
use Rattle.fws_exec.specs.declared.sheet.Sheet.{Sheet}
use Rattle.fws_exec.specs.declared.spot.Spot.TheVariants.{At}
use Rattle.fws_exec.proofs.Passed.{gone_kept, put_sheet, same_futures, same_sheet}
use Rattle.fws_exec.proofs.Telling.{keeps_by, keeps_then}
use Rattle.fws_exec.proofs.sheet.Sheet.go_on.Goals as goal

pub returns-clause-sheet : goal.returns-clause-sheet
returns-clause-sheet c =
    let gone : Sheet = record c.args.self.now { roll = c.send.new.self } in
    let came : Sheet = record c.args.self.now { roll = c.arrive.new.self } in
    let here = c.requires.here in
    same_sheet gone came refl refl (ap (λ v. v.items) c.arrive.ensures)
    (put_sheet c.args.number (record { spot = At c.in_ok-to.to; progress = here.0 }) c.args.self.now gone refl refl refl (c.send.ensures (record { spot = At c.args.place; progress = here.0 }) here.1) c.requires.sheet)

pub returns-clause-kept : goal.returns-clause-kept
returns-clause-kept c =
    let gone : Sheet = record c.args.self.now { roll = c.send.new.self } in
    let came : Sheet = record c.args.self.now { roll = c.arrive.new.self } in
    let here = c.requires.here in
    keeps_then c.args.errand.now c.args.self.now gone came
    (gone_kept c.args.errand.now c.args.place c.in_ok-to.to c.args.number (record { spot = At c.args.place; progress = here.0 }) c.args.self.now gone c.requires.tops (here.1, refl) refl
    (c.send.ensures (record { spot = At c.args.place; progress = here.0 }) here.1) refl refl c.in_ok-to.ensures.comes)
    (keeps_by c.args.errand.now gone came c.requires.tops refl (same_futures gone came refl (ap (λ v. v.items) c.arrive.ensures)))
