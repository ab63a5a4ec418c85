use Rattle.std.proofs.Common.{◌≤◌, nat_lt, option_map, length, inl, inr, sym, ◌∙◌, ap, arith}
use Rattle.std.proofs.lemmas.Bool.{cases_Bool}
use Rattle.std.proofs.lemmas.Option.{slice_get_past}
use borrow.Author.Tests.{ltb-true}
use Rattle.fws_exec.specs.Stages.{turned}
use Rattle.fws_exec.proofs.Putting.{not_below}
use Rattle.fws_exec.proofs.Turning.{turned_sheet}
use Rattle.fws_exec.proofs.sheet.Sheet.turn.Goals as goal

pub returns-clause-sheet : goal.returns-clause-sheet
returns-clause-sheet c =
    turned_sheet c.args.turn c.args.self.now c.loop-number.self c.requires c.loop-number.invariant.canvas (ap (λ v. v.items) c.loop-number.invariant.hulls)
    (λ n. elim (cases_Bool (nat_lt n c.loop-number.number)) [
      | inl t ↦ c.loop-number.invariant.done n (ltb-true n c.loop-number.number t)
      | inr f ↦ (
          let low : c.loop-number.number ≤ n = not_below n c.loop-number.number f in
          let past : length c.args.self.now.roll.classes.items ≤ n = omega arith in
          c.loop-number.invariant.left n low ∙ slice_get_past c.args.self.now.roll.classes.items n past
          ∙ sym (ap (option_map (turned c.args.turn)) (slice_get_past c.args.self.now.roll.classes.items n past)))
    ])
