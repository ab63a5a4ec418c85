use Rattle.std.proofs.Common.{◌≡◌, length}
use Rattle.fws_ipt_put_chains.specs.Acts.{AreActs}
use Rattle.fws_ipt_put_chains.specs.Blocks.{IsBlock}
use Rattle.fws_ipt_put_chains.proofs.nodes.put_nodes.Given as goal

abbrev pub invariant-loop-k : goal.invariant-loop-k
invariant-loop-k l = record {
  size : length l.acts.items ≡ l.k;
  block : IsBlock l.plan.site.now l.plan.table l.initial.chains l.chains;
  acts : AreActs l.plan.site.now l.plan.seen l.plan.table l.plan.least (length l.initial.chains) l.chains l.comings l.leaves l.nodes l.acts.items;
}
