use Rattle.std.proofs.Common.{◌||◌, nat_eq, ◌∙◌, ap}
use Rattle.fws_exec.specs.Sheets.{among}
use Rattle.fws_exec.proofs.Listing.{among_end, any_set}
use Rattle.fws_exec.proofs.groups.Groups.put.Goals as goal

pub returns-in_ok-push-in-Some : goal.returns-in_ok-push-in-Some
returns-in_ok-push-in-Some c n =
    any_set (λ g. among g.numbers.items n) c.args.self.now.all.items c.in-Some.place (record { view = c.index_mut.result.now.view; numbers = c.push.new.self }) _ (nat_eq n c.args.number) c.in-Some.ensures
    (ap (λ ns. among ns n) c.in_ok-push-in-Some.ensures.items ∙ among_end c.index_mut.result.now.numbers.items c.args.number n ∙ ap (λ g. among g.numbers.items n || nat_eq n c.args.number) c.index_mut.ensures.value)
