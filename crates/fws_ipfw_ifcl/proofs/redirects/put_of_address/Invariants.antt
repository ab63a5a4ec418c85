use Rattle.std.proofs.Common.{◌≡◌, ◌++◌, drop, filter}
use Rattle.fws_ipfw_ifcl.specs.Translating.{is_of_address}
use Rattle.fws_ipfw_ifcl.proofs.redirects.put_of_address.Given as goal

abbrev pub invariant-loop-redirect : goal.invariant-loop-redirect
invariant-loop-redirect l =
    l.tried.items ++ filter is_of_address (drop l.redirect-index l.redirects) ≡ l.fn.tried.items ++ filter is_of_address l.redirects
