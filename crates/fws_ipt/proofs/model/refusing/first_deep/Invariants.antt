use Rattle.std.proofs.Common.{◌≡◌, ◌&&◌, drop}
use Rattle.fws_ipt.specs.Refusals.{first_chain, is_builtin, begins_path}
use Rattle.fws_ipt.proofs.model.refusing.first_deep.Given as goal

abbrev pub invariant-loop-n : goal.invariant-loop-n
invariant-loop-n l = first_chain (λ c. is_builtin l.chains c && begins_path l.chains l.steps c) l.n (drop l.n l.chains)
    ≡ first_chain (λ c. is_builtin l.chains c && begins_path l.chains l.steps c) 0 l.chains
