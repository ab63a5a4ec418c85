use Rattle.std.proofs.Common.{◌≡◌, ◌&&◌, drop}
use Rattle.fws_ifcl.specs.Refusals.{first_chain, is_staged, begins_path}
use Rattle.fws_unfold.proofs.refusing.first_deep.Given as goal

abbrev pub invariant-loop-n : goal.invariant-loop-n
invariant-loop-n l = first_chain (λ c. is_staged l.f c && begins_path l.f.chains l.steps c) l.n (drop l.n l.f.chains)
    ≡ first_chain (λ c. is_staged l.f c && begins_path l.f.chains l.steps c) 0 l.f.chains
