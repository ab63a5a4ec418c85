use Rattle.std.proofs.Common.{sym, ◌∙◌}
use Rattle.fws_ipfw_print.proofs.Lookups.{ascending_apart}
use Rattle.fws_ipfw_print.proofs.printable_configs.are_apart.Goals as goal

pub returns-then-numbers_ascend : goal.returns-then-numbers_ascend
returns-then-numbers_ascend c = sym (ascending_apart 0 c.args.nats.now (sym c.numbers_ascend.ensures ∙ c.if-numbers_ascend.true))
