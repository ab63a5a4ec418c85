use Rattle.std.proofs.Common.{◌≡◌, drop}
use Rattle.fws_ios.specs.Walk.{first_end, listed_end}
use Rattle.fws_ios.proofs.model.translating.first_listed_end.Given as goal

abbrev pub invariant-loop-nat : goal.invariant-loop-nat
invariant-loop-nat l =
    let given = listed_end l.scene.config.now l.scene.site.now l.scene.kind.now l.t in
    first_end given (drop l.nat-index l.nats) ≡ first_end given l.nats
