use Rattle.std.proofs.Common.{◌≡◌, false, sym, ◌∙◌, subst}
use Rattle.std.proofs.lemmas.Option.{same_Some}
use Rattle.fws_flat.specs.Walk.{sees}
use Rattle.fws_net.specs.Conditions.{holds}
use Rattle.fws_exec.specs.declared.spot.Class.{Class}
use Rattle.fws_exec.specs.Classes.{transit_of}
use Rattle.fws_exec.proofs.roll.Roll.group.Goals as goal

pub returns-then-fails-clause-left : goal.returns-then-fails-clause-left
returns-then-fails-clause-left c out d got site kind part p =
    subst (λ (k : Class). holds c.args.cond.now (sees site kind part (transit_of k.progress p)) ≡ false) (same_Some c.in_ok-class.class.now d (sym c.in_ok-class.ensures.0 ∙ got)) (c.fails.ensures.never c.if-fails.true site kind part p)
