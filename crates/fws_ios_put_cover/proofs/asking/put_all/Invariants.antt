use Rattle.std.proofs.Common.{◌≡◌, ◌++◌, take}
use Rattle.fws_ios_put_cover.proofs.asking.put_all.Given as goal

abbrev pub invariant-loop-path : goal.invariant-loop-path
invariant-loop-path l = l.paths ≡ l.initial.paths ++ take l.path-index l.further
