use Rattle.std.proofs.Common.{IfSome, subst}
use Rattle.fws_join.specs.declared.decision.Decision.{Decision}
use Rattle.fws_join.specs.Joined.{IsForLast}
use Rattle.fws_join.proofs.Standing.{last_joined}
use Rattle.fws_join.proofs.lists.put_next.Goals as goal

pub returns-in-Some : goal.returns-in-Some
returns-in-Some c =
    let all = c.args.all.now.items in
    let next = c.args.next in
    let one = c.in-Some.one in
    let found : IsForLast c.as_slice.result.now next one =
    subst (λ o. IfSome {T = Decision} o (IsForLast c.as_slice.result.now next)) c.in-Some.is c.in_ok-one.ensures in
    let is : IsForLast all next one = subst (λ l. IsForLast l next one) c.as_slice.ensures.value found in
    last_joined all c.put_last.new.all.items next one is (c.in_ok-put_last.ensures is.ahead is.last is.are)
