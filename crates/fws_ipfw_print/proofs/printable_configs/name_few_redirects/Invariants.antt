use Rattle.std.proofs.Common.{◌≡◌, ◌≤◌, ◌+◌, drop}
use Rattle.fws_ipfw_print.specs.Printable.{all_redirects}
use Rattle.fws_ipfw_print.proofs.printable_configs.name_few_redirects.Given as goal

abbrev pub invariant-loop-r : goal.invariant-loop-r
invariant-loop-r l = record { few : l.redirects ≤ 200000; counted : l.redirects + all_redirects l.nats (drop l.r-index l.rules) ≡ all_redirects l.nats l.rules }
