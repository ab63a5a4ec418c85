use Rattle.std.proofs.Common.{◌≡◌, ◌<◌, ◌++◌, ◌∷◌, [], List, Some, length, get_or, slice_get, sym, ◌∙◌, ap, subst, arith}
use Rattle.std.proofs.lemmas.Option.{slice_get-get_or}
use Rattle.fws_tree.specs.declared.node.Kid.{Kid}
use Rattle.fws_ios_put_lists.specs.declared.turn.Turn.{Turn}
use Rattle.fws_ios_put_lists.specs.Blocks.{scene, Scene}
use Rattle.fws_ios_put_lists.specs.Turns.{AreTurns}
use Rattle.fws_ios_put_lists.proofs.Turning.{other_made}
use Rattle.fws_ios_put_lists.proofs.turns.other_turns.Goals as goal

pub returns : goal.returns
returns c =
    let sheet = c.args.sheet.now in
    let s : Scene = scene sheet.tree.now.0 sheet.tree.now.1 sheet.leaves.now sheet.nodes.now in
    let kids = c.args.kids.now in
    let kid : Kid = get_or kids 0 c.index-kids-0.result in
    let many = c.requires.node.many in
    let some : 0 < length kids = omega (arith, many) in
    let there : slice_get kids 0 ≡ Some kid = slice_get-get_or kids 0 c.index-kids-0.result some in
    let turn : Turn = record { path = c.args.path; node = kid.node; falls = c.args.falls } in
    subst (λ (l : List Turn). AreTurns s c.args.at c.args.path c.args.falls l) (sym (c.in_ok-put.ensures.ok ∙ ap (λ l. l ++ turn ∷ []) c.new-turns.ensures))
    (other_made s c.args.at c.args.f kids c.args.path c.args.falls kid there (record {
      laws = record { leaf = c.leaf_nodes_are_leaves.ensures; cut = c.cut_nodes_part_values.ensures };
      planned = c.requires.planned;
      inside = c.requires.inside;
      cuts = c.requires.cut;
      node = c.requires.node;
      good = c.requires.good;
      other = c.requires.other;
    }))
