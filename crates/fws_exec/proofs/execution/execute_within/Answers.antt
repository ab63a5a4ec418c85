use Rattle.std.proofs.Common.{◌≡◌, cond, Option, Some, IfSome, List, ◌∙◌, ap, subst}
use Rattle.fws_box.specs.Sides.{sides_have}
use Rattle.fws_net.specs.declared.connection.Kind.{Kind}
use Rattle.fws_net.specs.declared.outcome.Outcome.TheVariants as outcomes
use Rattle.fws_net.specs.declared.packet.Packet.{Packet}
use Rattle.fws_net.specs.declared.site.Site.{Site}
use Rattle.fws_net.specs.Points.{packet_of}
use Rattle.fws_flat.specs.declared.code.Flat.{Flat}
use Rattle.fws_flat.specs.declared.code.Ins.{Ins}
use Rattle.fws_flat.specs.Walk.{means}
use Rattle.fws_exec.specs.Classes.{kind_of}
use Rattle.fws_exec.proofs.execution.execute_within.Goals as goal

-- this code means what the code of f means
abbrev MeansSame : Flat → List Ins → Type 0
MeansSame f code = (site : Site) (p : Packet) (k : Kind) → means (record f { code = code }) site p k ≡ means f site p k

-- the code that is executed is that which was found
found : (f : Flat) (o : Option (List Ins)) (code late : List Ins) → o ≡ Some code → late ≡ code → IfSome o (λ c. MeansSame f c) → MeansSame f late
found f o code late is same h site p k =
    let known : MeansSame f code = subst (λ x. IfSome x (λ c. MeansSame f c)) is h in
    ap (λ c. means (record f { code = c }) site p k) same ∙ known site p k

pub returns-in_ok-tree-in-Some-clause-value : goal.returns-in_ok-tree-in-Some-clause-value
returns-in_ok-tree-in-Some-clause-value c p w =
    c.in_ok-tree-in-Some.ensures.value p w
    ∙ ap (λ o. Some (cond (sides_have c.args.sides.now p) o outcomes.Drop)) (found c.args.f.now c.in_ok-code.field-0 c.in-Some.code c.as_slice.result.now c.in-Some.is c.as_slice.ensures c.in_ok-code.ensures.means c.args.site.now (packet_of p) (kind_of c.args.state p))
