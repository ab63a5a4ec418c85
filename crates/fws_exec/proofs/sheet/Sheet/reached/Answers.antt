use Rattle.std.proofs.Common.{◌≡◌, sym, ◌∙◌, subst}
use Rattle.std.proofs.lemmas.Option.{same_Some}
use Rattle.fws_exec.specs.declared.spot.Class.{Class}
use Rattle.fws_exec.specs.Classes.{transit_of}
use Rattle.fws_exec.specs.Courses.{course, IsOpen}
use Rattle.fws_exec.proofs.sheet.Sheet.reached.Goals as goal

pub returns-clause-comes : goal.returns-clause-comes
returns-clause-comes c aim d p free got w here =
    subst (λ (k : Class). course c.args.errand.now aim p c.args.place (transit_of k.progress p) ≡ course c.args.errand.now aim p c.reached.result (transit_of k.progress p))
    (same_Some c.in_ok-class.class.now d (sym c.in_ok-class.ensures.0 ∙ got))
    (c.reached.ensures.goes aim p (subst (λ xs. IsOpen xs aim) (sym c.as_slice.ensures.value) free) (c.in_ok-look.ensures c.in_ok-class.class.now p c.in_ok-class.ensures.0 w here))
