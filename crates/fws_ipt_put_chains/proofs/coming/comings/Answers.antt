use Rattle.std.proofs.Common.{ℕ, ◌-◌, subst, inl, inr, arith}
use Rattle.std.proofs.lemmas.Bool.{cases_eq}
use Rattle.fws_ipt_put_chains.specs.Comings.{both, coming_at, Flows}
use Rattle.fws_ipt_put_chains.proofs.Flowing.{covered-then, flows_kept}
use Rattle.fws_ipt_put_chains.proofs.coming.comings.Goals as goal

pub loop-k-preserved : goal.loop-k-preserved
loop-k-preserved c =
    let nodes = c.args.nodes.now in
    let old = c.loop-k.comings.items in
    let new = c.flow_on.new.comings.items in
    let inv = c.loop-k.invariant in
    let at : ℕ = c.loop-k.k - 1 in
    record {
      within = omega (arith, inv.within);
      size = omega (arith, inv.size, c.flow_on.ensures.size, c.loop-k.comings.ok.0, c.flow_on.new.comings.ok.0);
      last = λ k e. covered-then both (coming_at old k) (coming_at new k) (inv.last k e) (c.flow_on.ensures.grows k);
      flows = λ k le lt. elim (cases_eq at k) [
        | inl e ↦ subst (λ n. Flows nodes new n) e c.flow_on.ensures.flows
        | inr ne ↦ flows_kept nodes old new k (c.flow_on.ensures.later k le) c.flow_on.ensures.grows (inv.flows k (omega (arith, ne)) lt)
      ];
    }
