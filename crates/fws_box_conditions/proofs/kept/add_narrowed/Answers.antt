use Rattle.std.proofs.Common.{ℕ, Bool, false, List, option_map, unwrap_or, sym, ap, ◌∙◌}
use Rattle.fws_iv.specs.Ivs.{has}
use Rattle.fws_box.specs.Boxes.{sides_of}
use Rattle.fws_box.specs.Fields.{value_of}
use Rattle.fws_box.specs.Sides.{sides_have}
use Rattle.fws_box_conditions.proofs.Counting.{adds_some}
use Rattle.fws_box_conditions.proofs.kept.add_narrowed.Goals as goal

pub returns-in_ok-push : goal.returns-in_ok-push
returns-in_ok-push c =
    let test : List ℕ → Bool = λ p. has c.args.set.now (value_of p c.args.field) in
    rw c.in_ok-push.ensures.items
    (adds_some (sides_of c.args.area.now) test c.args.boxes.now.items c.in-Some.part
    (λ p n. ap (λ o. unwrap_or (option_map (λ b. sides_have (sides_of b) p) o) false) (sym c.in-Some.is) ∙ c.in_ok-part.ensures.common p n))
