use Rattle.std.proofs.Common.{ℕ, List, subst}
use Rattle.fws_pf_put.specs.Gathered.{TellSources}
use Rattle.fws_pf_put.proofs.Whole.{all_drafted, known_by}
use Rattle.fws_pf_put.proofs.drafting.draft_of.Goals as goal

pub returns : goal.returns
returns c =
    let g = c.args.ground.now in
    let regular = c.requires.regular in
    let s = c.in_ok-sources.sources in
    all_drafted g.site.now g.tables.now g.leaves.now g.nodes.now g.states.now s.ends.keys s.sets.items c.none.result c.in_ok-rdr.rdr c.in_ok-nat.nat c.in_ok-filter.filter c.new.result c.requires
    (record { reached = c.reached_values_are_told.ensures; topped = c.seen_points_are_topped.ensures; leaves = c.leaf_nodes_are_leaves.ensures; seen = c.points_are_seen.ensures })
    (known_by g.site.now g.tables.now regular c.requires.fits c.views_are_told.ensures c.pf_keeps_new_packets.ensures c.pf_pairs_pass.ensures c.lost_pairs_are_dropped.ensures c.tops-tops.ensures.reduced)
    (subst (λ (ts : List ℕ). TellSources ts g.tables.now.fresh.1 s.ends.keys s.sets.items) regular.fresh_tops c.in_ok-sources.ensures)
    c.in_ok-nat.ensures c.in_ok-rdr.ensures c.in_ok-filter.ensures c.none.ensures
