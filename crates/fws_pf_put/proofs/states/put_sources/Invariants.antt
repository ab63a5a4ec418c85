use Rattle.std.proofs.Common.{◌≡◌, ◌++◌, List}
use Rattle.fws_pf.specs.declared.config.PfNat.{PfNat}
use Rattle.fws_pf_put.specs.Gathered.{rewrite_at}
use Rattle.fws_pf_put.specs.Sources.{AreSources}
use Rattle.fws_pf_put.proofs.states.put_sources.Given as goal

abbrev pub invariant-loop-k : goal.invariant-loop-k
invariant-loop-k l =
    (block : List PfNat) × (l.nats ≡ l.fn.nats ++ block) × AreSources (rewrite_at l.leaves l.nodes l.states) l.sources.ends.keys l.sources.sets.items l.k block
