use Rattle.std.proofs.Common.{sym, ◌∙◌}
use Rattle.fws_ios_put_sources.specs.declared.parted.Parted.{Parted}
use Rattle.fws_ios_put_sources.proofs.Parts.{left_are_wider, left_parted}
use Rattle.fws_ios_put_sources.proofs.parting.projected.Goals as goal

pub returns-clause-tops : goal.returns-clause-tops
returns-clause-tops c = c.in_ok-denied.ensures.tops ∙ c.requires.parted.tops ∙ sym c.in_ok-permitted.ensures.tops

pub returns-clause-parted : goal.returns-clause-parted
returns-clause-parted c = λ apart.
    let new : Parted = record { permitted = c.in_ok-permitted.permitted; denied = c.in_ok-denied.denied } in
    left_parted c.args.fields c.args.sets.now new c.in_ok-permitted.ensures.tops c.in_ok-denied.ensures.tops c.in_ok-permitted.ensures.value apart c.requires.look c.requires.parted

pub returns-clause-wider : goal.returns-clause-wider
returns-clause-wider c =
    let new : Parted = record { permitted = c.in_ok-permitted.permitted; denied = c.in_ok-denied.denied } in
    left_are_wider c.args.fields c.args.sets.now new c.in_ok-permitted.ensures.tops c.requires.parted c.in_ok-permitted.ensures.value c.in_ok-denied.ensures.value
