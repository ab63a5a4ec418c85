use Rattle.std.proofs.Common.{◌<◌, ◌%◌, ◌-◌}
use Rattle.fws_place.specs.Apart.{place_in, AreAlikeBy}
use Rattle.fws_place.proofs.apart.apart_among.Given as goal

abbrev pub invariant-loop-size : goal.invariant-loop-size
invariant-loop-size g l = record {
  some : 0 < l.size;
  alike : AreAlikeBy (λ x. place_in g.L.PartialEq.eq l.kept.keys x % l.size) l.fields l.tree.0 l.tree.1 l.off;
}

abbrev pub decreases-loop-size : goal.decreases-loop-size
decreases-loop-size g l = l.count - l.size
