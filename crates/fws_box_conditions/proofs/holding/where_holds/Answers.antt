use Rattle.std.proofs.Common.{ℕ, Bool, List, take, arith}
use Rattle.fws_box.specs.Boxes.{sides_of}
use Rattle.fws_net.specs.declared.condition.Lit.{Lit}
use Rattle.fws_net.specs.Conditions.{lit_holds, holds}
use Rattle.fws_box_conditions.specs.Scenes.{view_of}
use Rattle.fws_box_conditions.proofs.Dividing.{parts_of_site, where_next, where_all}
use Rattle.fws_box_conditions.proofs.holding.where_holds.Goals as goal

pub those_where-requires-clause-within : goal.those_where-requires-clause-within
those_where-requires-clause-within c =
    let t : List ℕ → Bool = λ p. holds (take c.loop-lit.lit-index c.lits-lit-items.result.now) (view_of c.args.site.now c.args.scene.now p) in
    rw c.as_slice.ensures.value
    (parts_of_site c.args.site.now (sides_of c.args.area.now) t c.loop-lit.boxes.items c.requires.within c.loop-lit.invariant)

pub loop-lit-preserved : goal.loop-lit-preserved
loop-lit-preserved c =
    let test : List ℕ → Lit → Bool = λ p. lit_holds (view_of c.args.site.now c.args.scene.now p) in
    where_next (sides_of c.args.area.now) test c.lits-lit-items.result.now c.loop-lit.lit-index c.lit-item.result
    c.loop-lit.boxes.items c.in_ok-boxes-2.boxes.items
    (omega arith) c.lit-item.is c.loop-lit.invariant (rw c.as_slice.ensures.value at c.in_ok-boxes-2.ensures)

pub returns : goal.returns
returns c =
    let test : List ℕ → Lit → Bool = λ p. lit_holds (view_of c.args.site.now c.args.scene.now p) in
    let s = where_all (sides_of c.args.area.now) test c.lits-lit-items.result.now c.loop-lit.lit-index
    c.loop-lit.boxes.items (omega arith) c.loop-lit.invariant in
    rw c.lits-lit-items.ensures at s
