use Rattle.std.proofs.Common.{◌≡◌, All, map, take}
use Rattle.fws_ipt_put.specs.declared.marks.Mark.{Mark}
use Rattle.fws_ipt_put.specs.Gathered.{TellsOfAll}
use Rattle.fws_ipt_put.proofs.marking.marks_of.Given as goal

abbrev pub invariant-loop-rewrite : goal.invariant-loop-rewrite
invariant-loop-rewrite l =
    (map (λ (mark : Mark). mark.rewrite) l.marks.items ≡ take l.rewrite-index l.rewrites.keys) × All (TellsOfAll l.rows) l.marks.items
