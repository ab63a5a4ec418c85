use Rattle.std.proofs.Common.{◌≡◌, drop}
use Rattle.fws_ios.specs.Walk.{permits}
use Rattle.fws_ios.proofs.model.listing.permits.Given as goal

abbrev pub invariant-loop-entry : goal.invariant-loop-entry
invariant-loop-entry l =
    permits l.scene.site.now l.scene.kind.now l.outward (drop l.entry-index l.entries) l.t ≡ permits l.scene.site.now l.scene.kind.now l.outward l.entries l.t
