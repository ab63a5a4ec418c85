use Rattle.std.proofs.Common.{◌≡◌, ◌≤◌, ◌++◌, ◌∷◌, [], true, None, Some, sym, ◌∙◌, ap, subst, append_assoc}
use Rattle.std.specs.Prelude.{slice_index}
use Rattle.fws_iv.specs.declared.iv.Iv.{Iv}
use Rattle.fws_pf.specs.declared.config.PfNat.{PfNat}
use Rattle.fws_pf_put_nat.specs.declared.path.Path.{Path}
use Rattle.fws_pf_put_nat.specs.declared.side.Side.{Side}
use Rattle.fws_pf_put_nat.specs.Scenes.{Scene}
use Rattle.fws_pf_put_nat.specs.Turns.{IsPathTo}
use Rattle.fws_pf_put_nat.specs.Blocks.{AreNodeRules}
use Rattle.fws_pf_put_nat.specs.Paths.{nat_of, no_parts, part_of}
use Rattle.fws_pf_put_nat.proofs.Ending.{no_parts_ordered, whole_path_good}
use Rattle.fws_pf_put_nat.proofs.Listing.{whole_list}
use Rattle.fws_pf_put_nat.proofs.put.put_all.Goals as goal
use Rattle.fws_pf_put_nat.specs.Sheets.{scene_of}

pub put_node-requires-clause-good : goal.put_node-requires-clause-good
put_node-requires-clause-good c =
    let sheet = c.args.sheet.now in
    let s : Scene = (scene_of sheet) in
    subst (λ (p : Path). IsPathTo s s.start p) (sym c.whole_path-path.ensures) (whole_path_good s)

pub put_rule-requires : goal.put_rule-requires
put_rule-requires c =
    subst (λ (p : Path). (side : Side) (part : Iv) → part_of side p ≡ Some part → part.lo ≤ part.hi) (sym c.whole_path-path.ensures) no_parts_ordered

pub returns : goal.returns
returns c =
    let sheet = c.args.sheet.now in
    let s : Scene = (scene_of sheet) in
    let put = c.in_ok-put_node.ensures in
    let nat : PfNat = nat_of no_parts None (slice_index s.states s.start) in
    let rules : AreNodeRules s s.start no_parts true put.0 = subst (λ (p : Path). AreNodeRules s s.start p true put.0) c.whole_path-path.ensures put.2 in (
      put.0 ++ nat ∷ [],
      c.in_ok-put_rule.ensures ∙ ap (λ (p : Path). c.put_node.new.rules ++ nat_of p None (slice_index s.states s.start) ∷ []) c.whole_path-path.ensures
          ∙ ap (λ l. l ++ nat ∷ []) put.1 ∙ append_assoc c.args.rules.now put.0 (nat ∷ []),
      whole_list s put.0 c.requires.planned rules,
    )
