use Rattle.std.proofs.Common.{◌≡◌, List, subst}
use Rattle.std.proofs.lemmas.List.{take_all}
use Rattle.std.specs.Prelude.{All}
use Rattle.fws_tree.specs.declared.node.Kid.{Kid}
use Rattle.fws_pf_put_filter.specs.States.{state_at}
use Rattle.fws_pf_put_filter.proofs.Stating.{all_more}
use Rattle.fws_pf_put_filter.proofs.states.have_state.Goals as goal

pub loop-kid-preserved : goal.loop-kid-preserved
loop-kid-preserved c =
    let P : Kid → Type 0 = λ kid. state_at c.args.states.now kid.node ≡ c.args.state in
    all_more P c.args.kids.now c.loop-kid.kid-index c.kid-item.result c.loop-kid-test.true c.kid-item.is c.loop-kid.invariant c.if-own-state.false

pub returns : goal.returns
returns c = λ e.
    subst (λ (l : List Kid). All (λ kid. state_at c.args.states.now kid.node ≡ c.args.state) l) (take_all c.loop-kid.kid-index c.args.kids.now c.loop-kid-test.false) c.loop-kid.invariant
