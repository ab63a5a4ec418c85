use Rattle.std.proofs.Common.{false, ◌++◌, ap, ◌∙◌}
use Rattle.fws_ipfw_ifcl.specs.Diagram.{half}
use Rattle.fws_ipfw_ifcl.proofs.Whole.{second_there}
use Rattle.fws_ipfw_ifcl.proofs.diagram.all_rules.Goals as goal

pub put_second_half-requires-clause-begin : goal.put_second_half-requires-clause-begin
put_second_half-requires-clause-begin c =
    let f = c.args.c.now in
    let site = c.args.site.now in
    second_there site f c.put_half.new.rules.items c.put_always.new.rules.items
    (c.in_ok-put_half.ensures ∙ ap (λ l. l ++ half site f false) c.new-rules.ensures.items) c.in_ok-put_always.ensures
