use Rattle.std.proofs.Common.{take}
use Rattle.fws_ios_put_cover.specs.Steps.{AreAllNarrowed}
use Rattle.fws_ios_put_cover.proofs.asking.all_narrowed.Given as goal

abbrev pub invariant-loop-path : goal.invariant-loop-path
invariant-loop-path l = AreAllNarrowed l.side l.set (take l.path-index l.paths) l.next
