use Rattle.std.proofs.Common.{◌≡◌, ◌++◌, drop}
use Rattle.fws_pf_put.specs.Renumbered.{place_in, renamed_cond}
use Rattle.fws_pf_put.proofs.names.renamed_cond.Given as goal

abbrev pub invariant-loop-lit : goal.invariant-loop-lit
invariant-loop-lit l =
    l.cond ++ renamed_cond (place_in l.tags.keys) (drop l.lit-index l.lits) ≡ renamed_cond (place_in l.tags.keys) l.lits
