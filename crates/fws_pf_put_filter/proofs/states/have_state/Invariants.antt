use Rattle.std.proofs.Common.{◌≡◌, take}
use Rattle.std.specs.Prelude.{All}
use Rattle.fws_pf_put_filter.specs.States.{state_at}
use Rattle.fws_pf_put_filter.proofs.states.have_state.Given as goal

abbrev pub invariant-loop-kid : goal.invariant-loop-kid
invariant-loop-kid l = All (λ kid. state_at l.states kid.node ≡ l.state) (take l.kid-index l.kids)
