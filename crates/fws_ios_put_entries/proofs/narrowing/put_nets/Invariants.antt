use Rattle.std.proofs.Common.{◌≡◌, ◌++◌, take}
use Rattle.std.specs.Prelude.{map}
use Rattle.fws_num.specs.declared.prefix.Prefix.{Prefix}
use Rattle.fws_ios_put_entries.specs.Narrowing.{with_net}
use Rattle.fws_ios_put_entries.proofs.narrowing.put_nets.Given as goal

abbrev pub invariant-loop-net : goal.invariant-loop-net
invariant-loop-net l = l.paths ≡ l.initial.paths ++ map (λ (net : Prefix). with_net l.side net l.path) (take l.net-index l.nets)
