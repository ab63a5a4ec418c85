use Rattle.std.proofs.Common.{◌≡◌, ◌++◌, Option, [], sym, ap, ◌∙◌, subst, append_assoc}
use Rattle.std.specs.Prelude.{MatchOption}
use Rattle.fws_net.specs.declared.outcome.Rewrite.{Rewrite}
use Rattle.fws_pf_put.specs.Gathered.{rewrite_at}
use Rattle.fws_pf_put.specs.Sources.{IsSourceBlock}
use Rattle.fws_pf_put.proofs.SourceLists.{nil_behind, no_sources, sources_more}
use Rattle.fws_pf_put.proofs.states.put_sources.Goals as goal

pub loop-k-init : goal.loop-k-init
loop-k-init c =
    ([], sym (nil_behind c.args.nats.now), no_sources (rewrite_at c.args.leaves.now c.args.nodes.now c.args.states.now) c.args.sources.now.ends.keys c.args.sources.now.sets.items)

pub loop-k-preserved : goal.loop-k-preserved
loop-k-preserved c =
    let written = rewrite_at c.args.leaves.now c.args.nodes.now c.args.states.now in
    let sources = c.args.sources.now in
    let k = c.loop-k.k in
    let inv = c.loop-k.invariant in
    let put = c.in_ok-put_state.ensures in (
      inv.0 ++ put.0,
      put.1 ∙ ap (λ l. l ++ put.0) inv.1 ∙ append_assoc c.args.nats.now inv.0 put.0,
      sources_more written sources.ends.keys sources.sets.items k inv.0 put.0 inv.2
          (subst (λ (o : Option Rewrite). MatchOption o (put.0 ≡ []) (λ (w : Rewrite). IsSourceBlock sources.ends.keys sources.sets.items k w.src put.0)) c.rewrite_at-rewrite.ensures put.2),
    )
