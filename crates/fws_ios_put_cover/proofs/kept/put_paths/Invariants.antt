use Rattle.std.proofs.Common.{take}
use Rattle.fws_ios_put_cover.specs.Steps.{AreKept}
use Rattle.fws_ios_put_cover.proofs.kept.put_paths.Given as goal

abbrev pub invariant-loop-path : goal.invariant-loop-path
invariant-loop-path l = AreKept l.initial.kept.keys l.kept.keys (take l.path-index l.paths)
