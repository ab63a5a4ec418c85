use Rattle.std.proofs.Common.{◌≡◌, ◌++◌, ◌∷◌, [], List, sym, ◌∙◌, ap, subst}
use Rattle.fws_ios_put_entries.specs.Paths.{number_of}
use Rattle.fws_ios_put_lists.specs.declared.turn.Turn.{Turn}
use Rattle.fws_ios_put_lists.specs.Blocks.{scene, Scene}
use Rattle.fws_ios_put_lists.specs.Turns.{AreTurns}
use Rattle.fws_ios_put_lists.proofs.Turning.{asked_made, falls_by, kids_inside}
use Rattle.fws_ios_put_lists.proofs.turns.asked_turns.Goals as goal

pub dearest-requires-clause-inside : goal.dearest-requires-clause-inside
dearest-requires-clause-inside c =
    let sheet = c.args.sheet.now in
    kids_inside (scene sheet.tree.now.0 sheet.tree.now.1 sheet.leaves.now sheet.nodes.now) c.args.at (number_of c.args.side) c.args.kids.now c.requires.inside c.requires.node

pub returns : goal.returns
returns c =
    let sheet = c.args.sheet.now in
    let s : Scene = scene sheet.tree.now.0 sheet.tree.now.1 sheet.leaves.now sheet.nodes.now in
    let last = c.in_ok-last.last in
    let pass = c.leaf_at.result in
    let put = c.in_ok-put_kids.ensures in
    let turn : Turn = record { path = c.args.path; node = last; falls = c.args.falls } in
    let all : c.put.new.self ≡ put.0 ++ turn ∷ [] = c.in_ok-put.ensures.ok ∙ ap (λ l. l ++ turn ∷ []) (put.1 ∙ ap (λ l. l ++ put.0) c.new-turns.ensures) in
    subst (λ (l : List Turn). AreTurns s c.args.at c.args.path c.args.falls l) (sym all)
    (asked_made s c.args.at c.args.side c.args.kids.now c.args.path last pass put.0 c.args.falls (record {
      laws = record { leaf = c.leaf_nodes_are_leaves.ensures; cut = c.cut_nodes_part_values.ensures };
      planned = c.requires.planned;
      inside = c.requires.inside;
      node = c.requires.node;
      good = c.requires.good;
      last_is = c.in_ok-last.ensures;
      falls_to = falls_by s last pass c.leaf_at.ensures;
      tested = put.2;
    }))
