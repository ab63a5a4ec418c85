use Rattle.std.proofs.lemmas.Bool.{false≢true}
use Rattle.fws_ipfw_put_rules.proofs.Grouping.{group_added, some_of}
use Rattle.fws_ipfw_put_rules.proofs.groups.put_group.Goals as goal

pub returns-in_ok-push : goal.returns-in_ok-push
returns-in_ok-push c =
    group_added c.args.groups.now.items c.push.new.self.items c.args.set (some_of c.args.set (λ e. absurd (false≢true (c.if-not-is_empty.ensures.1 e)))) c.parts-parts.ensures.regular c.in_ok-push.ensures.items
