use Rattle.std.proofs.Common.{◌≡◌, List, take}
use Rattle.fws_flat.specs.Walk.{means}
use Rattle.fws_ifcl.specs.declared.diagram.Spot.{Spot}
use Rattle.fws_why.specs.Numbers.{AreNumbersOf}
use Rattle.fws_why.specs.Walked.{used_of}
use Rattle.fws_why.specs.WhyText.{why_text}
use Rattle.fws_why.proofs.saying.said.Given as goal

abbrev pub invariant-loop-p : goal.invariant-loop-p
invariant-loop-p l = (spots : List Spot) → AreNumbersOf l.ground.numbers.now spots
    → l.out ≡ why_text (means l.ground.code.now l.ground.site.now) (used_of l.ground.code.now l.ground.from.now spots l.ground.site.now) l.ground.labels.now l.conns (take l.p-index l.packets)
