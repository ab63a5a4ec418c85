use Rattle.std.proofs.Common.{◌≡◌, ◌<◌, Some, List, length, slice_get, sym, ◌∙◌, ap, subst, arith}
use Rattle.std.proofs.lemmas.List.{take_all}
use Rattle.std.proofs.lemmas.Option.{slice_get-get_or}
use Rattle.fws_tree.specs.declared.node.Kid.{Kid}
use Rattle.fws_tree_seen.specs.Cuts.{kids_of}
use Rattle.fws_pf_put_nat.specs.Ends.{IsKidAccepted, Tells}
use Rattle.fws_pf_put_nat.proofs.Joining.{kid_more}
use Rattle.fws_pf_put_nat.proofs.ends.kid_ends.Goals as goal

pub loop-kid-preserved : goal.loop-kid-preserved
loop-kid-preserved c = λ outward tree h.
    let kid = c.kid-item.result in
    let own = c.index-ends-kid.result in
    let ends = c.args.ends.now in
    let inside : kid.node < length ends = subst (λ (k : Kid). k.node < length ends) (sym c.kid-item.is) (c.requires c.loop-kid.kid-index kid c.loop-kid-test.true) in
    let there : slice_get ends kid.node ≡ Some own = slice_get-get_or ends kid.node own inside ∙ ap Some (sym c.index-ends-kid.is) in
    kid_more outward tree c.args.kids.now c.loop-kid.kid-index kid c.loop-kid.all own c.joined-all.result c.loop-kid-test.true c.kid-item.is c.joined-all.ensures (c.loop-kid.invariant outward tree h) (h kid.node own there)

pub returns : goal.returns
returns c = λ outward tree h.
    subst (λ (l : List Kid). Tells outward (IsKidAccepted (kids_of tree l)) c.loop-kid.all) (take_all c.loop-kid.kid-index c.args.kids.now (omega arith)) (c.loop-kid.invariant outward tree h)
