use Rattle.std.proofs.Common.{◌≡◌, drop}
use Rattle.fws_net.specs.Connections.{class_of}
use Rattle.fws_net.proofs.classes.class_of.Given as goal

abbrev pub invariant-loop-conn : goal.invariant-loop-conn
invariant-loop-conn l = class_of (drop l.conn-index l.conns) l.tuple ≡ class_of l.conns l.tuple
