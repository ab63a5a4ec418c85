use Rattle.std.proofs.Common.{◌≢◌, false, not, nat_eq, Some, slice_get, sym, subst}
use Rattle.std.proofs.lemmas.Bool.{and_parts, eqb-true}
use Rattle.fws_tree.specs.Marks.{mark_at}
use Rattle.fws_exec.specs.Divided.{says_at}
use Rattle.fws_exec.specs.Sheets.{among}
use Rattle.fws_exec.proofs.Noted.{noted_known}
use Rattle.fws_exec.proofs.sheet.Sheet.note_sought.Goals as goal

pub returns-then-not-is_sought-clause-noted : goal.returns-then-not-is_sought-clause-noted
returns-then-not-is_sought-clause-noted c =
    noted_known (says_at c.args.place) (among c.args.numbers.now) (λ g p. mark_at c.args.marks.now 0 p) c.args.self.now
    (λ k g p said. subst (λ j. slice_get c.args.self.now.reached.items j ≢ Some false) (sym (eqb-true k c.args.place (and_parts (not (nat_eq (mark_at c.args.marks.now 0 p) 0)) (nat_eq k c.args.place) said).1))
    (subst (λ xs. slice_get xs c.args.place ≢ Some false) c.as_slice.ensures.value (c.is_sought.ensures.found c.if-not-is_sought.true)))
