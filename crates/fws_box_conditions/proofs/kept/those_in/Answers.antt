use Rattle.std.proofs.Common.{ℕ, Bool, List, []}
use Rattle.fws_iv.specs.Ivs.{has}
use Rattle.fws_box.specs.Fields.{value_of}
use Rattle.fws_box_conditions.proofs.Counting.{those_more}
use Rattle.fws_box_conditions.proofs.kept.those_in.Goals as goal

pub loop-area-preserved : goal.loop-area-preserved
loop-area-preserved c =
    let test : List ℕ → Bool = λ p. has c.args.set.now (value_of p c.args.field) in
    those_more [] c.loop-area.yielded c.in-Some.area test c.loop-area.kept.items c.add_narrowed.new.boxes.items c.loop-area.invariant c.in_ok-add_narrowed.ensures
