use Rattle.std.proofs.Common.{◌≡◌, ◌++◌, drop}
use Rattle.fws_ipfw_ifcl.specs.Translating.{choosing_all}
use Rattle.fws_ipfw_ifcl.proofs.translating.put_choosing.Given as goal

abbrev pub invariant-loop-redirect : goal.invariant-loop-redirect
invariant-loop-redirect l =
    l.rules.items ++ choosing_all l.outward l.place (drop l.redirect-index l.redirects) ≡ l.fn.rules.items ++ choosing_all l.outward l.to l.redirects
