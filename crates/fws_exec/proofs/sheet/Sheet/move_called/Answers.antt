use Rattle.std.proofs.Common.{◌≡◌, ◌≢◌, nat_eq, rules, bit_and, sym, ◌∙◌, ap, subst}
use Rattle.std.specs.HashSet.{contains}
use Rattle.fws_tree.specs.Bits.{bits_in}
use Rattle.fws_tree.specs.Marks.{mark_at}
use Rattle.fws_tree.specs.Painted as painted
use Rattle.fws_exec.specs.declared.sheet.Sheet.{Sheet}
use Rattle.fws_exec.specs.Divided.{AreMoved}
use Rattle.fws_exec.specs.Hulls.{AreSettled}
use Rattle.fws_exec.specs.Sheets.{among}
use Rattle.fws_exec.proofs.Hulled.{moved_all, moved_sheet}
use Rattle.fws_exec.proofs.sheet.Sheet.move_called.Goals as goal

pub returns-clause-sheet : goal.returns-clause-sheet
returns-clause-sheet c =
    let noted : c.as_slice.result.now ≡ c.recolour.new.by.changes.now.items = search rules in
    moved_sheet c.recolour.new.by.going (contains nat_eq c.recolour.new.by.called.now) c.recolour.new.by.changes.now.items c.of_marks-area.result c.args.marks.now (painted.values_of c.args.self.now.canvas) c.bits_of-wanted.result
    c.args.self.now (record { canvas = c.recolour.new.self; roll = c.recolour.new.by.roll.now; hulls = c.settle.new.hulls; reached = c.args.self.now.reached }) c.recolour.ensures.later.2.grows c.recolour.ensures.tops c.in_ok-recolour.ensures.recoloured c.of_marks-area.ensures c.in_ok-settle.ensures.grown
    (subst (λ cs. AreSettled cs c.of_marks-area.result c.args.self.now.hulls.items c.settle.new.hulls.items) noted c.in_ok-settle.ensures.settled) c.requires.sheet

pub returns-clause-moved : goal.returns-clause-moved
returns-clause-moved c =
    let new : Sheet = record { canvas = c.recolour.new.self; roll = c.recolour.new.by.roll.now; hulls = c.settle.new.hulls; reached = c.args.self.now.reached } in
    subst (λ g. AreMoved g (among c.args.numbers.now) (λ g p. mark_at c.args.marks.now 0 p) c.args.self.now new) (sym c.recolour.ensures.later.0)
    (moved_all c.recolour.new.by.going (contains nat_eq c.recolour.new.by.called.now) c.args.numbers.now c.recolour.new.by.changes.now.items c.args.marks.now (painted.values_of c.args.self.now.canvas) c.bits_of-wanted.result
    c.args.self.now new (λ n. ap (λ s. contains nat_eq s n) (sym c.recolour.ensures.later.1) ∙ c.requires.called n)
    (λ n a. subst (λ vs. bit_and (bits_in vs n) c.bits_of-wanted.result ≢ 0) c.values-2.ensures (c.have_bits.ensures c.if-not-have_bits.false n a))
    c.recolour.ensures.later.2.grows c.in_ok-recolour.ensures.recoloured)
