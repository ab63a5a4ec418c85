use Rattle.std.proofs.Common.{◌≡◌, ◌≢◌, length, refl, sym, ◌∙◌, arith}
use Rattle.std.proofs.lemmas.Bool.{eqb-false, eqb-true}
use Rattle.fws_exec.proofs.Noted.{none_noted, nothing_told, one_noted}
use Rattle.fws_exec.proofs.Valued.{valued_sheet}
use Rattle.fws_exec.proofs.sheet.Sheet.note_one.Goals as goal

pub returns-then-is_empty-clause-sheet : goal.returns-then-is_empty-clause-sheet
returns-then-is_empty-clause-sheet c = valued_sheet c.args.self.now (record { canvas = c.touched.new.self; roll = c.args.self.now.roll; hulls = c.args.self.now.hulls; reached = c.args.self.now.reached }) c.touched.ensures.tops c.touched.ensures.value refl refl c.requires

pub returns-clause-sheet : goal.returns-clause-sheet
returns-clause-sheet c = valued_sheet c.args.self.now (record { canvas = c.touched.new.self; roll = c.args.self.now.roll; hulls = c.args.self.now.hulls; reached = c.note_place.new.reached }) c.touched.ensures.tops c.touched.ensures.value refl refl c.requires

pub returns-then-is_empty-clause-noted : goal.returns-then-is_empty-clause-noted
returns-then-is_empty-clause-noted c =
    let ok = c.in_ok-touches.touches.ok in
    let empty : c.in_ok-touches.touches.len ≡ 0 = eqb-true c.in_ok-touches.touches.len 0 (sym c.is_empty.ensures ∙ c.if-is_empty.true) in
    let none : length c.in_ok-touches.touches.items ≡ 0 = omega arith in
    none_noted c.args.place c.args.numbers.now c.args.marks.now c.in_ok-touches.touches.items c.args.self.now (record { canvas = c.touched.new.self; roll = c.args.self.now.roll; hulls = c.args.self.now.hulls; reached = c.args.self.now.reached })
    (nothing_told c.in_ok-touches.touches.items none) c.in_ok-touches.ensures.told refl

pub returns-clause-noted : goal.returns-clause-noted
returns-clause-noted c =
    let ok = c.in_ok-touches.touches.ok in
    let filled : c.in_ok-touches.touches.len ≢ 0 = eqb-false c.in_ok-touches.touches.len 0 (sym c.is_empty.ensures ∙ c.if-is_empty.false) in
    let some : length c.in_ok-touches.touches.items ≢ 0 = λ e. filled (omega (arith, e)) in
    one_noted c.args.place c.args.numbers.now c.args.marks.now c.in_ok-touches.touches.items c.args.self.now (record { canvas = c.touched.new.self; roll = c.args.self.now.roll; hulls = c.args.self.now.hulls; reached = c.note_place.new.reached }) c.requires
    some c.in_ok-touches.ensures.found c.note_place.ensures.set c.note_place.ensures.count
