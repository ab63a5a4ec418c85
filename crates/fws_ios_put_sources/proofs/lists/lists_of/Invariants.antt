use Rattle.std.proofs.Common.{take}
use Rattle.fws_ios_put_sources.specs.Lists.{AreAsked}
use Rattle.fws_ios_put_sources.proofs.lists.lists_of.Given as goal

abbrev pub invariant-loop-place : goal.invariant-loop-place
invariant-loop-place l = AreAsked l.site l.crossing.1 l.addrs.keys (take l.place l.addrs.keys) l.sources
