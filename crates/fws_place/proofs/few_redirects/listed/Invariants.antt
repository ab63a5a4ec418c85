use Rattle.std.proofs.Common.{◌≡◌, ◌++◌}
use Rattle.fws_place.proofs.few_redirects.listed.Given as goal

abbrev pub invariant-loop-redirect : goal.invariant-loop-redirect
invariant-loop-redirect l = l.items ++ l.redirect-iterator ≡ l.fn.met.keys
