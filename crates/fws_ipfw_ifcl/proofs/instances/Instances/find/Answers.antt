use Rattle.std.proofs.Common.{◌≡◌, length, slice_get, Some, refl, sym, ◌∙◌}
use Rattle.std.proofs.lemmas.Option.{slice_get_read}
use Rattle.fws_ipfw_ifcl.proofs.Found.{found_there}
use Rattle.fws_ipfw_ifcl.proofs.instances.Instances.find.Goals as goal

pub returns-then-has_number : goal.returns-then-has_number
returns-then-has_number c =
    let nats = c.args.nats.now in
    let nat = c.index-nats-place.result in
    let there : slice_get nats c.place-place.result ≡ Some nat = slice_get_read nats (length nats) c.place-place.result nat refl c.if-place-nats.true c.index-nats-place.is in
    found_there c.args.number nats c.place-place.result nat c.requires there (sym c.has_number.ensures ∙ c.if-has_number.true)
