use Rattle.std.proofs.Common.{◌-◌, sym, ap, subst, arith}
use Rattle.fws_iv.specs.Ivs.{IsRegular, past}
use Rattle.fws_iv.proofs.Parts.{regular-push, past-push}
use Rattle.fws_iv.proofs.joined.put_below.Goals as goal

pub returns-in_ok-push-clause-regular : goal.returns-in_ok-push-clause-regular
returns-in_ok-push-clause-regular g c =
    let pushed = regular-push 0 c.args.out.now.items (record { lo = c.args.lo; hi = c.args.end - 1 }) c.requires.regular c.requires.room (omega arith) in
    subst (λ l. IsRegular l) (sym c.in_ok-push.ensures.items) pushed

pub returns-in_ok-push-clause-some : goal.returns-in_ok-push-clause-some
returns-in_ok-push-clause-some g c = λ some.
    let pushed = past-push 0 c.args.out.now.items (record { lo = c.args.lo; hi = c.args.end - 1 }) in
    let made = ap (λ l. past 0 l) c.in_ok-push.ensures.items in
    omega arith
