use Rattle.std.proofs.Common.{◌≡◌, take}
use Rattle.fws_net.specs.declared.connection.Tuple.{Tuple}
use Rattle.fws_net.specs.Connections.{class_of}
use Rattle.fws_trace.specs.Classes.{class_in}
use Rattle.fws_why.proofs.saying.classes_of.Given as goal

abbrev pub invariant-loop-conn : goal.invariant-loop-conn
invariant-loop-conn l = (t : Tuple) → class_in l.classes t ≡ class_of (take l.conn-index l.conns) t
