use Rattle.std.proofs.Common.{◌≡◌, ◌++◌, take}
use Rattle.std.specs.List.{flat_map}
use Rattle.fws_events.specs.RunText.{conn_text}
use Rattle.fws_events.proofs.spelling.put_each.Given as goal

abbrev pub invariant-loop-conn : goal.invariant-loop-conn
invariant-loop-conn l = l.out ≡ l.fn.out ++ flat_map conn_text (take l.conn-index l.conns)
