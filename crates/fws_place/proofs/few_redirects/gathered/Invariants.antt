use Rattle.std.proofs.Common.{take}
use Rattle.fws_place.specs.RowRedirects.{AreAllOf}
use Rattle.fws_place.proofs.few_redirects.gathered.Given as goal

abbrev pub invariant-loop-at : goal.invariant-loop-at
invariant-loop-at l = AreAllOf (take l.at l.rows) l.met.keys
