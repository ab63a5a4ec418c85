use Rattle.std.proofs.Common.{◌≡◌, ◌++◌, drop}
use Rattle.fws_ipfw_ifcl.specs.Translating.{writing_all}
use Rattle.fws_ipfw_ifcl.proofs.translating.put_writing.Given as goal

abbrev pub invariant-loop-redirect : goal.invariant-loop-redirect
invariant-loop-redirect l =
    l.rules.items ++ writing_all l.outward l.done (drop l.redirect-index l.redirects) ≡ l.fn.rules.items ++ writing_all l.outward l.done l.redirects
