use Rattle.std.proofs.Common.{◌≡◌, ◌++◌, take}
use Rattle.fws_pf_put_nat.specs.Writings.{nats_of}
use Rattle.fws_pf_put_nat.proofs.rules.put_rules.Given as goal

abbrev pub invariant-loop-path : goal.invariant-loop-path
invariant-loop-path l = l.rules ≡ l.initial.rules ++ nats_of (take l.path-index l.paths) l.end l.tag
