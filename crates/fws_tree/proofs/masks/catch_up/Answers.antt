use Rattle.std.proofs.Common.{◌≡◌, ◌<◌, ℕ, List, length, subst, sym, arith, rules}
use Rattle.fws_tree.specs.Bits.{AreMasks, Covers, bits_in}
use Rattle.fws_tree.specs.Held.{held_at}
use Rattle.fws_tree.proofs.Covering.{masks-push}
use Rattle.fws_tree.proofs.masks.catch_up.Goals as goal

pub mask_of-mask-requires-clause-masks : goal.mask_of-mask-requires-clause-masks
mask_of-mask-requires-clause-masks c = subst (λ (ms : List ℕ). AreMasks c.args.values.now c.args.store.now ms) (sym c.as_slice.ensures.value) c.loop-at.invariant.masks

pub returns-in_err-push : goal.returns-in_err-push
returns-in_err-push c = subst (λ (ms : List ℕ). AreMasks c.args.values.now c.args.store.now ms) (sym c.in_err-push.ensures.items) c.loop-at.invariant.masks

pub loop-at-preserved : goal.loop-at-preserved
loop-at-preserved c =
    let e : c.in-Ok.at ≡ length c.loop-at.masks.items = omega arith in
    let inside : length c.loop-at.masks.items < length c.args.store.now = omega arith in
    record {
      here = search rules;
      masks = masks-push c.args.values.now c.args.store.now c.loop-at.masks.items c.push.new.self.items c.mask_of-mask.result c.loop-at.invariant.masks c.in_ok-push.ensures.items inside
          (λ p. subst (λ (k : ℕ). Covers c.mask_of-mask.result (bits_in c.args.values.now (held_at c.args.store.now k p))) e (c.mask_of-mask.ensures p));
    }
