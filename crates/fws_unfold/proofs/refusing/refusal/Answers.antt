use Rattle.std.proofs.Common.{List, ap, sym, subst, ◌∙◌}
use Rattle.fws_ifcl.specs.declared.diagram.Chain.{Chain}
use Rattle.fws_ifcl.specs.Loops.{NamesChains}
use Rattle.fws_ifcl.specs.Refusals.{first_chain, is_looped}
use Rattle.fws_unfold.proofs.Refused.{none_looped}
use Rattle.fws_unfold.proofs.refusing.refusal.Goals as goal

pub loop_of-requires-clause-known : goal.loop_of-requires-clause-known
loop_of-requires-clause-known c = subst (λ (chains : List Chain). NamesChains chains) (sym c.as_slice-chains.ensures) (c.ok_diagrams_name_chains.ensures c.args.f.now c.requires)

pub refusal_by_size-requires-clause-acyclic : goal.refusal_by_size-requires-clause-acyclic
refusal_by_size-requires-clause-acyclic c =
    none_looped c.args.f.now.chains (ap (λ (chains : List Chain). first_chain (is_looped chains) 0 chains) (sym c.as_slice-chains.ensures) ∙ sym c.in_ok-looped.ensures ∙ c.in-None.is)
