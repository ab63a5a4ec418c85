use Rattle.std.proofs.Common.{◌≢◌, false, Some, [], ◌∷◌, slice_get, sym, subst}
use Rattle.std.proofs.lemmas.Bool.{eqb-true}
use Rattle.fws_tree.specs.Marks.{mark_at}
use Rattle.fws_exec.specs.Divided.{says_at}
use Rattle.fws_exec.specs.Hulls.{HasAt}
use Rattle.fws_exec.specs.Sheets.{among, class_at}
use Rattle.fws_exec.proofs.Bounding.{sets_marked}
use Rattle.fws_exec.proofs.Moved.{noted_label}
use Rattle.fws_exec.proofs.Noted.{noted_known}
use Rattle.fws_exec.proofs.sheet.Sheet.note_whole.Goals as goal

pub returns-then-not-is_sought-clause-noted : goal.returns-then-not-is_sought-clause-noted
returns-then-not-is_sought-clause-noted c =
    noted_known (says_at c.args.place) (among (c.args.number ∷ [])) (λ g p. 1) c.args.self.now
    (λ k g p said. subst (λ j. slice_get c.args.self.now.reached.items j ≢ Some false) (sym (eqb-true k c.args.place said))
    (subst (λ xs. slice_get xs c.args.place ≢ Some false) c.as_slice.ensures.value (c.is_sought.ensures.found c.if-not-is_sought.true)))

pub returns-clause-noted : goal.returns-clause-noted
returns-clause-noted c =
    noted_label (says_at c.args.place) (among (c.args.number ∷ [])) (λ g p. mark_at (c.of_sets-mark.result ∷ []) 0 p) (λ g p. 1) c.args.self.now c.note_one.new.self
    (λ p d w used a. sets_marked c.hull_of.result c.in_ok-sets.sets c.of_sets-mark.result p c.in_ok-sets.ensures.twelve c.in_ok-sets.ensures.each c.of_sets-mark.ensures.sides c.of_sets-mark.ensures.label
    (c.hull_of.ensures (class_at c.args.self.now p) p a (subst (λ hs. HasAt hs (class_at c.args.self.now p) p) (sym c.as_slice-2.ensures.value) (c.requires.hulled p w))))
    c.in_ok-note_one.ensures.noted
