use Rattle.std.proofs.Common.{◌≡◌, ℕ, Some, slice_get, ◌∙◌, ap, arith}
use Rattle.std.proofs.lemmas.Option.{slice_get-get_or}
use Rattle.std.specs.Prelude.{slice_index}
use Rattle.fws_pf_put_nat.specs.declared.ends.Ends.TheVariants.{Nothing, Many}
use Rattle.fws_pf_put_nat.specs.Scenes.{Scene}
use Rattle.fws_pf_put_nat.specs.Blocks.{root_nats}
use Rattle.fws_pf_put_nat.proofs.Laws.{NodeLaws}
use Rattle.fws_pf_put_nat.proofs.Listing.{many_none, root_none, root_rules}
use Rattle.fws_pf_put_nat.proofs.nodes.put_settled.Goals as goal
use Rattle.fws_pf_put_nat.specs.Sheets.{scene_of}

pub put_one-requires-clause-there : goal.put_one-requires-clause-there
put_one-requires-clause-there c =
    let ends = c.args.sheet.now.ends.now in
    let inside = c.requires.inside in
    let size = c.requires.planned.ends.size in
    slice_get-get_or ends c.args.at c.index-sheet-at.result (omega (arith, inside, size)) ∙ ap Some c.in-One.is

pub returns-in_ok-put_root-in-Nothing : goal.returns-in_ok-put_root-in-Nothing
returns-in_ok-put_root-in-Nothing c =
    let sheet = c.args.sheet.now in
    let s : Scene = (scene_of sheet) in
    let laws : NodeLaws = record { leaf = c.leaf_nodes_are_leaves.ensures; cut = c.cut_nodes_part_values.ensures } in
    let at : ℕ = c.args.at in
    let inside = c.requires.inside in
    let size = c.requires.planned.ends.size in
    let own = c.index-sheet-at.result in
    let is : slice_get s.ends at ≡ Some Nothing = slice_get-get_or s.ends at own (omega (arith, inside, size)) ∙ ap Some c.in-Nothing.is in (
      root_nats c.args.path c.args.falls (slice_index s.states s.start),
      c.in_ok-put_root-in-Nothing.ensures,
      root_rules s at c.args.path c.args.falls c.requires.planned c.requires.good.1.printed c.requires.good.1.entry (root_none laws c.reached_values_are_told.ensures s at Nothing c.requires.planned is tt),
    )

pub returns-in_ok-put_root-in-Many : goal.returns-in_ok-put_root-in-Many
returns-in_ok-put_root-in-Many c =
    let sheet = c.args.sheet.now in
    let s : Scene = (scene_of sheet) in
    let laws : NodeLaws = record { leaf = c.leaf_nodes_are_leaves.ensures; cut = c.cut_nodes_part_values.ensures } in
    let at : ℕ = c.args.at in
    let inside = c.requires.inside in
    let size = c.requires.planned.ends.size in
    let own = c.index-sheet-at.result in
    let is : slice_get s.ends at ≡ Some Many = slice_get-get_or s.ends at own (omega (arith, inside, size)) ∙ ap Some c.in-Many.is in (
      root_nats c.args.path c.args.falls (slice_index s.states s.start),
      c.in_ok-put_root-in-Many.ensures,
      root_rules s at c.args.path c.args.falls c.requires.planned c.requires.good.1.printed c.requires.good.1.entry (many_none laws s at c.requires.planned c.requires.inside c.requires.settled is),
    )
