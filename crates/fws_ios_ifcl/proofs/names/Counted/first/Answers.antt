use Rattle.std.proofs.Common.{◌≡◌, ◌<◌, length, slice_get, Some, arith, refl, sym, ap, ◌∙◌}
use Rattle.std.proofs.lemmas.Option.{slice_get_read}
use Rattle.fws_ios_ifcl.specs.Placed.{first_entry}
use Rattle.fws_ios_ifcl.proofs.Counted.{as_many, counted_there, uncounted}
use Rattle.fws_ios_ifcl.proofs.Named.{one}
use Rattle.fws_ios_ifcl.proofs.names.Counted.first.Goals as goal

pub index-requires : goal.index-requires
index-requires c =
    let lists = c.self.inside.lists in
    let many : length c.self.inside.firsts.items ≡ length lists = ap length c.self.invariant ∙ as_many 0 lists in
    omega (arith, many, c.in-Some.ensures.within)

pub returns-in-Some : goal.returns-in-Some
returns-in-Some c =
    let lists = c.self.inside.lists in
    let firsts = c.self.inside.firsts.items in
    let place = c.in-Some.place in
    let name = c.args.name.now in
    let x = c.index.result.now in
    let many : length firsts ≡ length lists = ap length c.self.invariant ∙ as_many 0 lists in
    let near : place < length firsts = omega (arith, many, c.in-Some.ensures.within) in
    let here : slice_get firsts place ≡ Some x = slice_get_read firsts (length firsts) place x refl near c.index.ensures in
    let there : slice_get firsts place ≡ Some (first_entry 0 name lists) = ap (λ l. slice_get l place) c.self.invariant ∙ counted_there name lists place c.in-Some.ensures.place in
    one x (first_entry 0 name lists) (sym here ∙ there) ∙ ap (first_entry 0 name) c.self.view_is

pub returns-in-None : goal.returns-in-None
returns-in-None c =
    sym (uncounted c.args.name.now 0 c.self.inside.lists 0 (sym c.in-None.ensures.place)) ∙ ap (first_entry 0 c.args.name.now) c.self.view_is
