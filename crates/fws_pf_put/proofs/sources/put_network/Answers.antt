use Rattle.std.proofs.Common.{◌++◌, map, sym, ap, ◌∙◌}
use Rattle.fws_pf_put.specs.Sources.{block_rule}
use Rattle.fws_pf_put.proofs.SourceBlocks.{network_block}
use Rattle.fws_pf_put.proofs.sources.put_network.Goals as goal

pub returns : goal.returns
returns c =
    let end = c.args.end in
    let parts = c.in_ok-parts.parts in (
      map (block_rule c.args.tag end) parts,
      c.in_ok-put_blocks.ensures.put ∙ ap (λ l. c.args.nats.now ++ map (block_rule c.args.tag end) l) c.as_slice.ensures,
      network_block c.args.sources.now.ends.keys c.args.sources.now.sets.items c.args.tag end c.put_blocks.ensures.fits c.requires c.in-Some.set.now parts (sym c.in-Some.ensures) c.in_ok-parts.ensures,
    )
