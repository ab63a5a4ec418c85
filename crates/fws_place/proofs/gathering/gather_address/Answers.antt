use Rattle.std.proofs.Common.{ℕ, Option, sym, subst, OnOk}
use Rattle.fws_place.specs.Gathered.{IsGathered, IsOfAddress}
use Rattle.fws_place.proofs.gathering.gather_address.Goals as goal

pub returns-in-Some : goal.returns-in-Some
returns-in-Some c =
    let Family : Option ℕ → Type 0 = λ port. OnOk c.gather_services.result
    (IsGathered (IsOfAddress port c.args.local c.args.protos.now c.args.ports.now c.args.addr) c.args.met.now.keys c.gather_services.new.met.keys) in
    subst Family (sym c.in-Some.is) c.gather_services.ensures
