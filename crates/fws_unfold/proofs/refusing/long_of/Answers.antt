use Rattle.std.proofs.Common.{ap, ◌∙◌}
use Rattle.fws_ifcl.specs.Refusals.{size_within}
use Rattle.fws_unfold.specs.Levels.{capped, size_at}
use Rattle.fws_unfold.proofs.Refused.{sizes_known}
use Rattle.fws_unfold.proofs.refusing.long_of.Goals as goal

pub passed_at-requires : goal.passed_at-requires
passed_at-requires c =
    sizes_known c.sizes_stand_still.ensures c.args.f.now c.args.deep c.as_slice.result.now c.requires.acyclic c.requires.short
    (λ d. ap (λ t. size_at t d) c.as_slice.ensures.value ∙ c.in_ok-sizes.ensures d ∙ ap (λ chains. capped (size_within chains c.args.deep d)) c.requires.chains)
