use Rattle.std.proofs.Common.{◌≡◌, drop}
use Rattle.std.specs.List.{list_all}
use Rattle.fws_ipt.specs.FilterOnly.{filters_only}
use Rattle.fws_ipt.proofs.plainness.filter_only.Given as goal

abbrev pub invariant-loop-chain : goal.invariant-loop-chain
invariant-loop-chain l = list_all filters_only (drop l.chain-index l.chain-items) ≡ list_all filters_only l.chain-items
