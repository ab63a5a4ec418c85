use Rattle.std.proofs.Common.{◌≡◌, ◌++◌}
use Rattle.fws_ios_put_cover.proofs.kept.listed.Given as goal

abbrev pub invariant-loop-path : goal.invariant-loop-path
invariant-loop-path l = l.paths ++ l.path-iterator ≡ l.fn.kept.keys
