use Rattle.std.proofs.Common.{◌≡◌, ◌+◌, ◌&&◌, not, ℕ, List, [], get_or, length, arith, ap, ◌∙◌}
use Rattle.fws_iv.specs.Ivs.{has}
use Rattle.fws_box.specs.Boxes.{box_hits, sides_of}
use Rattle.fws_box.specs.Fields.{place_of}
use Rattle.fws_box.specs.Sides.{sides_have}
use Rattle.fws_box.proofs.Boxed.{two, cut_next, cut_all}
use Rattle.fws_box.proofs.SideBySide.{one}
use Rattle.fws_box.proofs.pieces.cut.Goals as goal

pub returns-in_default-clause-once : goal.returns-in_default-clause-once
returns-in_default-clause-once c p n =
    ap (λ bs. box_hits bs p) c.in_ok-push.ensures.items
    ∙ cut_all c.loop-k.pieces.items c.loop-k.left c.args.b.now c.at-field.result c.loop-k.k c.in_ok-both.both.now c.at-field.ensures c.in_default.ensures
    (two _ _ _ _ _ c.side.ensures.value c.side-in-loop-k.ensures.value c.in_ok-both.ensures.members) p n
    ∙ c.loop-k.invariant.once p n

pub loop-k-preserved : goal.loop-k-preserved
loop-k-preserved c =
    let next = cut_next c.loop-k.left c.in-Some.next c.args.b.now c.at-field.result c.loop-k.k c.in_ok-both.both.now c.at-field.ensures c.in-Some.ensures
    (two _ _ _ _ _ c.side.ensures.value c.side-in-loop-k.ensures.value c.in_ok-both.ensures.members) in
    let left = sides_of c.loop-k.left in
    let f = c.at-field.result in
    let hits : (p : List ℕ) → length p ≡ 12 → box_hits c.add_outside.new.pieces.items p ≡ box_hits c.loop-k.pieces.items p + one (sides_have left p && not (has (get_or (sides_of c.args.b.now) (place_of f) []) (get_or p (place_of f) 0))) =
    λ p n. c.in_ok-add_outside.ensures.hits p n
    ∙ ap (λ s. box_hits c.loop-k.pieces.items p + one (sides_have left p && not (has s (get_or p (place_of f) 0)))) c.side-in-loop-k-2.ensures.value in
    record {
      count = omega (arith, c.in_ok-add_outside.ensures.count);
      once = λ p n. omega (arith, hits p n, c.loop-k.invariant.once p n, next p n);
    }
