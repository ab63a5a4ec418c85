use Rattle.std.proofs.Common.{◌≡◌, true, nat_eq, rules}
use Rattle.std.specs.HashSet.{contains}
use Rattle.fws_exec.proofs.Recoloured.{moved_here, moved_kept}
use Rattle.fws_exec.proofs.moving.MovingMoves.moved.Goals as goal

pub returns-in_err-number-clause-kept : goal.returns-in_err-number-clause-kept
returns-in_err-number-clause-kept c x l z m = (moved_kept c.args.self.now.going (contains nat_eq c.args.self.now.called.now) c.args.self.now.roll.now.classes.items c.target.new.self.classes.items x l z c.in_err-number.ensures.adds.grows m.0, m.1)

pub returns-in_err-note_change-clause-kept : goal.returns-in_err-note_change-clause-kept
returns-in_err-note_change-clause-kept c x l z m = (
  moved_kept c.args.self.now.going (contains nat_eq c.args.self.now.called.now) c.args.self.now.roll.now.classes.items c.target.new.self.classes.items x l z c.in_ok-number.ensures.adds.grows m.0,
  λ h. c.note_change.ensures.stay x z (m.1 h),
)

pub returns-clause-moved : goal.returns-clause-moved
returns-clause-moved c =
    let is : contains nat_eq c.args.self.now.called.now c.args.value ≡ true = search rules in (
      moved_here c.args.self.now.going (contains nat_eq c.args.self.now.called.now) c.args.self.now.roll.now.classes.items c.target.new.self.classes.items c.args.value c.args.label c.in_ok-number.number c.in_ok-class.class
          is c.in_ok-number.ensures.adds.grows c.in_ok-class.ensures.gone c.in_ok-class.ensures.used c.in_ok-number.ensures.target,
      λ h. c.in_ok-note_change.ensures.noted,
    )

pub returns-clause-kept : goal.returns-clause-kept
returns-clause-kept c x l z m = (
  moved_kept c.args.self.now.going (contains nat_eq c.args.self.now.called.now) c.args.self.now.roll.now.classes.items c.target.new.self.classes.items x l z c.in_ok-number.ensures.adds.grows m.0,
  λ h. c.note_change.ensures.stay x z (m.1 h),
)
