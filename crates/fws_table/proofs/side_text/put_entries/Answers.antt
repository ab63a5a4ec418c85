use Rattle.std.proofs.Common.{◌-◌, ◌<◌, ◌≤◌, ◌∙◌, arith}
use Rattle.fws_table.specs.TableText.{entry_name}
use Rattle.fws_table.proofs.Steps.{next_entry, first_text, further_text}
use Rattle.fws_table.proofs.side_text.put_entries.Goals as goal
use Rattle.fws_table.proofs.side_text.put_entries.Goals.{then-entry-least+in_ok-put, else-entry-least}

pub loop-entry-preserved : goal.loop-entry-preserved
loop-entry-preserved c =
    let lo = c.args.part.now.lo in
    let entry = c.loop-entry.entry in
    let le : lo ≤ entry = omega arith in
    let one = next_entry (entry_name c.args.site.now) lo entry le in
    elim c.if-entry-least.branch [
      | then-entry-least+in_ok-put w ↦
          let some : 0 < entry - lo = omega arith in
          further_text _ _ _ _ _ _ _ _ _ c.in_ok-put_entry.ensures (w.out-is ∙ w.in_ok-put.ensures.ok) c.loop-entry.invariant some one
      | else-entry-least w ↦
          let none : entry - lo ≤ 0 = omega arith in
          first_text _ _ _ _ _ _ _ _ _ c.in_ok-put_entry.ensures w.out-is c.loop-entry.invariant none one
    ]
