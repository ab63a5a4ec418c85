use Rattle.std.proofs.Common.{◌≡◌, get_or, length, [], ◌∙◌, true, sym, ap, subst, arith}
use Rattle.std.proofs.lemmas.List.{length-map}
use Rattle.fws_iv.specs.Ivs.{has, IsRegular}
use Rattle.fws_box.specs.Boxes.{sides_of}
use Rattle.fws_box.specs.Fields.{value_of}
use Rattle.fws_box.proofs.Boxed.{in_side}
use Rattle.fws_box.proofs.Placed.{seen_at}
use Rattle.fws_box.proofs.pbox.PBox.side.Goals as goal

pub returns-clause-filled : goal.returns-clause-filled
returns-clause-filled c e =
    let xs = c.args.self.now.sides in
    let twelve : length xs ≡ 12 = c.args.self.now.twelve in
    let n = length-map xs (λ s. s.now) in
    let k = c.place.result in
    c.args.self.now.filled k [] (omega arith) (seen_at xs k _ [] (omega arith) ∙ e)

pub returns-clause-regular : goal.returns-clause-regular
returns-clause-regular c =
    let xs = c.args.self.now.sides in
    let twelve : length xs ≡ 12 = c.args.self.now.twelve in
    let n = length-map xs (λ s. s.now) in
    let k = c.place.result in
    subst IsRegular (seen_at xs k _ [] (omega arith)) (c.args.self.now.regular k [] (omega arith))

pub returns-clause-has : goal.returns-clause-has
returns-clause-has c p n h =
    let xs = c.args.self.now.sides in
    let twelve : length xs ≡ 12 = c.args.self.now.twelve in
    let k = c.place.result in
    let seen : get_or (sides_of c.args.self.now) k [] ≡ (get_or xs k _).now = seen_at xs k _ [] (omega arith) in
    subst (λ s. has s (value_of p c.args.field) ≡ true) (ap (λ j. get_or (sides_of c.args.self.now) j []) (sym c.place.ensures.place) ∙ seen)
    (in_side c.args.self.now c.args.field p n h)
