use Rattle.std.proofs.Common.{refl, subst}
use Rattle.std.specs.List.{list_any}
use Rattle.fws_exec.specs.declared.sheet.Sheet.{Sheet}
use Rattle.fws_exec.specs.Divided.{says_from, AreSet}
use Rattle.fws_exec.proofs.Noted.{run_noted}
use Rattle.fws_exec.proofs.Valued.{valued_sheet}
use Rattle.fws_exec.proofs.sheet.Sheet.note_run.Goals as goal

pub returns-clause-sheet : goal.returns-clause-sheet
returns-clause-sheet c = valued_sheet c.args.self.now (record { canvas = c.touched.new.self; roll = c.args.self.now.roll; hulls = c.args.self.now.hulls; reached = c.note_labels.new.reached }) c.touched.ensures.tops c.touched.ensures.value refl refl c.requires

pub returns-clause-noted : goal.returns-clause-noted
returns-clause-noted c =
    let new : Sheet = record { canvas = c.touched.new.self; roll = c.args.self.now.roll; hulls = c.args.self.now.hulls; reached = c.note_labels.new.reached } in
    run_noted c.args.place c.args.numbers.now c.args.marks.now c.in_ok-touches.touches.items c.args.self.now new c.requires c.in_ok-touches.ensures.told c.in_ok-touches.ensures.found
    (subst (λ ts. AreSet (λ k. list_any (λ t. says_from c.args.place t.label k) ts) c.args.self.now.reached.items c.note_labels.new.reached.items) c.as_slice.ensures.value c.in_ok-note_labels.ensures.set) c.in_ok-note_labels.ensures.count
