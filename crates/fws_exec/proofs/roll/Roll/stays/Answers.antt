use Rattle.std.proofs.Common.{sym, ◌∙◌, subst}
use Rattle.std.proofs.lemmas.Option.{same_Some}
use Rattle.fws_exec.specs.declared.spot.Class.{Class}
use Rattle.fws_exec.specs.Goings.{Goes}
use Rattle.fws_exec.proofs.roll.Roll.stays.Goals as goal

pub returns : goal.returns
returns c t d got =
    let same = same_Some c.in_ok-class.class.now d (sym c.in_ok-class.ensures.0 ∙ got) in
    subst (λ (k : Class). Goes c.args.going 1 k.progress (record { spot = c.args.spot; progress = k.progress })) same
    (subst (λ (k : Class). Goes c.args.going 1 c.in_ok-class.class.now.progress k) (c.is.ensures t) c.in_ok-gone.ensures)
