use Rattle.std.specs.HashSet.{contains}
use Rattle.fws_dead.specs.Used.{key_eq, key_of}
use Rattle.fws_dead.proofs.Standing.{place_put}
use Rattle.fws_dead.proofs.used.add_place.Goals as goal

pub returns-in_ok-insert-in-Some : goal.returns-in_ok-insert-in-Some
returns-in_ok-insert-in-Some c at =
    place_put (contains key_eq c.args.used.now) (contains key_eq c.insert.new.self) c.key_of.result c.args.place c.in-Some.at at c.in-Some.is c.key_of.ensures (c.in_ok-insert-in-Some.ensures.updates.0 (key_of at))
