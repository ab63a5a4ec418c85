use Rattle.std.proofs.Common.{◌≡◌, map, take}
use Rattle.fws_ipfw.specs.NatText.{redirect_made}
use Rattle.fws_ipfw_read.proofs.redirects.redirects_made.Given as goal

abbrev pub invariant-loop-draft : goal.invariant-loop-draft
invariant-loop-draft l = l.all ≡ map (redirect_made l.alias) (take l.draft-index l.drafts)
