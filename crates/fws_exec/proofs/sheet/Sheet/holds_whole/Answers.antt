use Rattle.std.proofs.Common.{◌≡◌, true, get_or, refl, sym, ◌∙◌, subst}
use Rattle.std.proofs.lemmas.Option.{same_Some, slice_get-get_or}
use Rattle.fws_flat.specs.declared.code.Ins.{Ins}
use Rattle.fws_net.specs.Conditions.{holds}
use Rattle.fws_exec.specs.declared.spot.Class.{Class}
use Rattle.fws_exec.specs.Divided.{seen_at}
use Rattle.fws_exec.proofs.Coursing.{part_within}
use Rattle.fws_exec.proofs.sheet.Sheet.holds_whole.Goals as goal

pub returns : goal.returns
returns c is ins d p got used inside here =
    let item : Ins = get_or c.args.errand.now.code.now c.args.place c.index-errand-place.result in
    let there = slice_get-get_or c.args.errand.now.code.now c.args.place c.index-errand-place.result (part_within c.args.errand.now.code.now c.args.errand.now.part c.args.place c.requires.part c.requires.high) in
    subst (λ (i : Ins). holds i.cond (seen_at c.args.errand.now.ground.site.now c.args.errand.now.ground.state c.args.errand.now.part d.progress p) ≡ true) (same_Some item ins (sym there ∙ got))
    (subst (λ (k : Class). holds item.cond (seen_at c.args.errand.now.ground.site.now c.args.errand.now.ground.state c.args.errand.now.part k.progress p) ≡ true)
    (same_Some c.in_ok-class.class.now d (sym c.in_ok-class.ensures.0 ∙ used))
    (c.is_held.ensures is (holds item.cond (seen_at c.args.errand.now.ground.site.now c.args.errand.now.ground.state c.args.errand.now.part c.in_ok-class.class.now.progress p))
    (c.holds.ensures (seen_at c.args.errand.now.ground.site.now c.args.errand.now.ground.state c.args.errand.now.part c.in_ok-class.class.now.progress p)
    (c.in_ok-look.ensures c.in_ok-class.class.now p c.in_ok-class.ensures.0 inside here) refl)))
