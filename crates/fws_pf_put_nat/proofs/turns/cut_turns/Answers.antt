use Rattle.std.proofs.Common.{◌≡◌, ◌++◌, List, sym, ◌∙◌, ap, subst}
use Rattle.fws_pf_put_nat.specs.Scenes.{Scene}
use Rattle.fws_pf_put_nat.specs.Turns.{last_turns, AreTurns}
use Rattle.fws_pf_put_nat.specs.Paths.{number_of}
use Rattle.fws_pf_put_nat.specs.declared.turn.Turn.{Turn}
use Rattle.fws_pf_put_nat.proofs.Kids.{kids_known, kids_within}
use Rattle.fws_pf_put_nat.proofs.Turning.{cut_made}
use Rattle.fws_pf_put_nat.proofs.turns.cut_turns.Goals as goal
use Rattle.fws_pf_put_nat.specs.Sheets.{scene_of}

pub put_kids-requires-clause-within : goal.put_kids-requires-clause-within
put_kids-requires-clause-within c =
    let sheet = c.args.sheet.now in
    kids_within (scene_of sheet) c.args.at (number_of c.args.side) c.args.kids.now c.requires.node

pub put_kids-requires-clause-known : goal.put_kids-requires-clause-known
put_kids-requires-clause-known c =
    let sheet = c.args.sheet.now in
    kids_known (scene_of sheet) c.args.at (number_of c.args.side) c.args.kids.now c.requires.planned c.requires.inside c.requires.node

pub returns : goal.returns
returns c =
    let sheet = c.args.sheet.now in
    let s : Scene = (scene_of sheet) in
    let put = c.in_ok-put_kids.ensures in
    let all : c.put_last.new.turns ≡ put.0 ++ last_turns c.last_of-last.result c.args.path c.args.falls =
    c.in_ok-put_last.ensures ∙ ap (λ l. l ++ last_turns c.last_of-last.result c.args.path c.args.falls) (put.1 ∙ ap (λ l. l ++ put.0) c.new-turns.ensures) in
    subst (λ (l : List Turn). AreTurns s c.args.at c.args.path c.args.falls l) (sym all)
    (cut_made s c.args.at c.args.side c.args.kids.now c.args.path c.args.falls c.last_of-last.result put.0 (record {
      laws = record { leaf = c.leaf_nodes_are_leaves.ensures; cut = c.cut_nodes_part_values.ensures };
      told = c.reached_values_are_told.ensures;
      planned = c.requires.planned;
      inside = c.requires.inside;
      cuts = c.requires.cut;
      good = c.requires.good;
      inward = c.requires.inward;
      last_is = c.last_of-last.ensures;
      tested = put.2;
    }))
