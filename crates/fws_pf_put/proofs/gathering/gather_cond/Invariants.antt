use Rattle.std.proofs.Common.{drop}
use Rattle.fws_pf_print.specs.Printable.{behind_cond}
use Rattle.fws_pf_put.specs.Renumbered.{renamed_cond}
use Rattle.fws_pf_put.proofs.Numbering.{GathersSoFar}
use Rattle.fws_pf_put.proofs.gathering.gather_cond.Given as goal

abbrev pub invariant-loop-lit : goal.invariant-loop-lit
invariant-loop-lit l =
    GathersSoFar l.fn.tags.keys l.tags.keys (λ f known. behind_cond (renamed_cond f l.cond) known) (λ f known. behind_cond (renamed_cond f (drop l.lit-index l.cond)) known)
