use Rattle.std.proofs.Common.{◌≡◌, ℕ, Some, None, slice_get, ◌∙◌, ap}
use Rattle.std.specs.Prelude.{slice_index}
use Rattle.fws_pf_put_nat.specs.declared.ends.Ends.TheVariants.{One}
use Rattle.fws_pf_put_nat.specs.Scenes.{Scene}
use Rattle.fws_pf_put_nat.specs.Blocks.{root_nats}
use Rattle.fws_pf_put_nat.specs.Writings.{nats_of}
use Rattle.fws_pf_put_nat.proofs.Laws.{NodeLaws}
use Rattle.fws_pf_put_nat.proofs.Listing.{end_late, end_low, end_rules, root_none, root_rules}
use Rattle.fws_pf_put_nat.proofs.nodes.put_one.Goals as goal
use Rattle.fws_pf_put_nat.specs.Sheets.{scene_of}

pub put_end-requires : goal.put_end-requires
put_end-requires c = (c.args.sheet.now.site.now, c.requires.good.1.printed)

pub returns-in_ok-put_end-in-Some : goal.returns-in_ok-put_end-in-Some
returns-in_ok-put_end-in-Some c =
    let sheet = c.args.sheet.now in
    let s : Scene = (scene_of sheet) in
    let laws : NodeLaws = record { leaf = c.leaf_nodes_are_leaves.ensures; cut = c.cut_nodes_part_values.ensures } in
    let at : ℕ = c.args.at in
    let end = c.in-Some.end in
    let put = c.in_ok-put_end-in-Some.ensures.ok in
    let is : slice_get s.ends at ≡ Some (One (Some end)) = c.requires.there ∙ ap (λ o. Some (One o)) c.in-Some.is in
    let low = end_low s at end c.requires.settled is in (
      nats_of put.0 end (slice_index s.states at),
      put.1,
      end_rules laws s at c.args.path c.args.falls end put.0 c.requires.planned c.requires.inside low (end_late s at low) c.requires.good.1.entry c.in_ok-put_end-in-Some.ensures.room is
          (put.2 s.site c.requires.good.1.printed),
    )

pub returns-in_ok-put_root-in-None : goal.returns-in_ok-put_root-in-None
returns-in_ok-put_root-in-None c =
    let sheet = c.args.sheet.now in
    let s : Scene = (scene_of sheet) in
    let laws : NodeLaws = record { leaf = c.leaf_nodes_are_leaves.ensures; cut = c.cut_nodes_part_values.ensures } in
    let at : ℕ = c.args.at in
    let is : slice_get s.ends at ≡ Some (One None) = c.requires.there ∙ ap (λ o. Some (One o)) c.in-None.is in (
      root_nats c.args.path c.args.falls (slice_index s.states s.start),
      c.in_ok-put_root-in-None.ensures,
      root_rules s at c.args.path c.args.falls c.requires.planned c.requires.good.1.printed c.requires.good.1.entry (root_none laws c.reached_values_are_told.ensures s at (One None) c.requires.planned is tt),
    )
