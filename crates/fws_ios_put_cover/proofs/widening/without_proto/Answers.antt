use Rattle.std.proofs.Common.{◌≡◌, false, List, sym, ◌∙◌}
use Rattle.std.proofs.lemmas.Result.{IfOk-weaker}
use Rattle.fws_iv.specs.declared.iv.Iv.{Iv}
use Rattle.fws_ios_put_cover.specs.Inside.{asks_details, IsWidened, Widens}
use Rattle.fws_ios_put_cover.proofs.Wider.{proto_widens}
use Rattle.fws_ios_put_cover.proofs.widening.without_proto.Goals as goal

pub returns : goal.returns
returns c =
    let sides = c.args.sides in
    let none : asks_details sides ≡ false = sym c.asks_details.ensures ∙ c.if-asks_details.false in
    let P : List (List Iv) → Type 0 = λ new. IsWidened c.args.tops.now c.args.within.now.1 1 sides new in
    let Q : List (List Iv) → Type 0 = λ new. Widens c.args.established c.args.tops.now c.args.within.now.1 sides new in
    IfOk-weaker c.widened.result P Q (λ new w. proto_widens c.args.established c.args.tops.now c.args.within.now.1 sides new c.if-established.false none w) c.widened.ensures
