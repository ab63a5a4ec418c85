use Rattle.std.proofs.Common.{[], sym, ◌∙◌}
use Rattle.fws_ios_print.proofs.NamesDiffer.{ascending_apart}
use Rattle.fws_ios_print.proofs.printable_configs.are_apart.Goals as goal

pub returns-then-names_ascend : goal.returns-then-names_ascend
returns-then-names_ascend c = sym (ascending_apart [] c.args.lists.now (sym c.names_ascend.ensures ∙ c.if-names_ascend.true))
