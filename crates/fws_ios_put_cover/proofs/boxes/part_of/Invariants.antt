use Rattle.fws_ios_put_cover.specs.Boxes.{part}
use Rattle.fws_ios_put_cover.specs.Classes.{IsPartBefore}
use Rattle.fws_ios_put_cover.proofs.boxes.part_of.Given as goal

abbrev pub invariant-loop-f : goal.invariant-loop-f
invariant-loop-f l = IsPartBefore l.class l.tops l.sides (part l.initial.part 1) l.f l.part
