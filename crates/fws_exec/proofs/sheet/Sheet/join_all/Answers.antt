use Rattle.std.proofs.Common.{◌≢◌, bit_and, [], ◌∷◌, refl, sym, subst, arith}
use Rattle.fws_tree.specs.Bits.{bits_in}
use Rattle.fws_tree.specs.Marks.{mark_at}
use Rattle.fws_tree.specs.Painted as painted
use Rattle.fws_tree.specs.Recoloured.{IsRecoloured}
use Rattle.fws_exec.specs.declared.roll.Roll.{Roll}
use Rattle.fws_exec.specs.declared.sheet.Sheet.{Sheet}
use Rattle.fws_exec.specs.Hulls.{HasAt}
use Rattle.fws_exec.specs.Joined.{IsJoined}
use Rattle.fws_exec.specs.Sheets.{class_at}
use Rattle.fws_exec.proofs.Bounding.{sets_marked}
use Rattle.fws_exec.proofs.Merging.{joined_free, joined_kept, joined_sheet}
use Rattle.fws_exec.proofs.sheet.Sheet.join_all.Goals as goal

pub returns-clause-sheet : goal.returns-clause-sheet
returns-clause-sheet c =
    let new : Sheet = record { canvas = c.recolour.new.self; roll = c.args.self.now.roll; hulls = c.args.self.now.hulls; reached = c.args.self.now.reached } in
    joined_sheet c.args.twins.now (c.of_sets-mark.result ∷ []) (painted.values_of c.args.self.now.canvas) c.bits_of-wanted.result c.args.self.now new refl refl c.recolour.ensures.tops
    (λ p w. subst (λ ts. IsRecoloured (λ x l z. IsJoined ts c.args.self.now.roll.classes.items x z) (painted.values_of c.args.self.now.canvas) c.bits_of-wanted.result (class_at c.args.self.now p) (mark_at (c.of_sets-mark.result ∷ []) 0 p) (class_at new p)) (sym c.recolour.ensures.later.0)
    (subst (λ (r : Roll). IsRecoloured (λ x l z. IsJoined c.recolour.new.by.twins.now r.classes.items x z) (painted.values_of c.args.self.now.canvas) c.bits_of-wanted.result (class_at c.args.self.now p) (mark_at (c.of_sets-mark.result ∷ []) 0 p) (class_at new p)) (sym c.recolour.ensures.later.1)
    (c.in_ok-recolour.ensures.recoloured p w)))
    c.requires.taken c.requires.sheet

pub returns-clause-kept : goal.returns-clause-kept
returns-clause-kept c =
    let new : Sheet = record { canvas = c.recolour.new.self; roll = c.args.self.now.roll; hulls = c.args.self.now.hulls; reached = c.args.self.now.reached } in
    joined_kept c.args.twins.now (c.of_sets-mark.result ∷ []) (painted.values_of c.args.self.now.canvas) c.bits_of-wanted.result c.args.self.now new refl
    (λ p w. subst (λ ts. IsRecoloured (λ x l z. IsJoined ts c.args.self.now.roll.classes.items x z) (painted.values_of c.args.self.now.canvas) c.bits_of-wanted.result (class_at c.args.self.now p) (mark_at (c.of_sets-mark.result ∷ []) 0 p) (class_at new p)) (sym c.recolour.ensures.later.0)
    (subst (λ (r : Roll). IsRecoloured (λ x l z. IsJoined c.recolour.new.by.twins.now r.classes.items x z) (painted.values_of c.args.self.now.canvas) c.bits_of-wanted.result (class_at c.args.self.now p) (mark_at (c.of_sets-mark.result ∷ []) 0 p) (class_at new p)) (sym c.recolour.ensures.later.1)
    (c.in_ok-recolour.ensures.recoloured p w)))

pub returns-clause-free : goal.returns-clause-free
returns-clause-free c =
    let new : Sheet = record { canvas = c.recolour.new.self; roll = c.args.self.now.roll; hulls = c.args.self.now.hulls; reached = c.args.self.now.reached } in
    joined_free c.args.twins.now c.args.joined.now (c.of_sets-mark.result ∷ []) (painted.values_of c.args.self.now.canvas) c.bits_of-wanted.result c.args.self.now new c.recolour.ensures.tops
    (λ p w. subst (λ ts. IsRecoloured (λ x l z. IsJoined ts c.args.self.now.roll.classes.items x z) (painted.values_of c.args.self.now.canvas) c.bits_of-wanted.result (class_at c.args.self.now p) (mark_at (c.of_sets-mark.result ∷ []) 0 p) (class_at new p)) (sym c.recolour.ensures.later.0)
    (subst (λ (r : Roll). IsRecoloured (λ x l z. IsJoined c.recolour.new.by.twins.now r.classes.items x z) (painted.values_of c.args.self.now.canvas) c.bits_of-wanted.result (class_at c.args.self.now p) (mark_at (c.of_sets-mark.result ∷ []) 0 p) (class_at new p)) (sym c.recolour.ensures.later.1)
    (c.in_ok-recolour.ensures.recoloured p w)))
    (λ n a. subst (λ vs. bit_and (bits_in vs n) c.bits_of-wanted.result ≢ 0) c.values-2.ensures (c.have_bits.ensures c.if-not-have_bits.false n a))
    (λ n p a had e. absurd (
    let one = sets_marked c.hull_of.result c.in_ok-sets.sets c.of_sets-mark.result p c.in_ok-sets.ensures.twelve c.in_ok-sets.ensures.each c.of_sets-mark.ensures.sides c.of_sets-mark.ensures.label
    (c.hull_of.ensures n p a (subst (λ hs. HasAt hs n p) (sym c.as_slice.ensures.value) had)) in
    omega (arith, one, e)))
    c.requires.sheet
