use Rattle.std.proofs.Common.{◌≤◌, All, length, take}
use Rattle.fws_place.specs.declared.redirect.Redirect.{Redirect as Shown}
use Rattle.fws_ipfw_put.specs.Ends.{FitsEnd, HaveDestinations}
use Rattle.fws_ipfw_put.proofs.telling.destinations_of.Given as goal

abbrev pub invariant-loop-redirect : goal.invariant-loop-redirect
invariant-loop-redirect l =
    HaveDestinations l.ends.keys (take l.redirect-index l.redirects) × (length l.ends.keys ≤ l.redirect-index) × All (λ (r : Shown). FitsEnd r.local) (take l.redirect-index l.redirects)
