use Rattle.std.proofs.Common.{Option, IfSome, sym, subst}
use Rattle.fws_ios_put_sources.specs.declared.parted.Parted.{Parted}
use Rattle.fws_ios_put_sources.specs.Parting.{AreWider, IsParted}
use Rattle.fws_ios_put_sources.proofs.Parts.{some_if}
use Rattle.fws_ios_put_sources.proofs.parting.parted_without.Goals as goal

pub returns-in-Ok-clause-parted : goal.returns-in-Ok-clause-parted
returns-in-Ok-clause-parted c =
    let P : Parted → Type 0 = λ s. IsParted s in
    subst (λ (o : Option Parted). IfSome o P) (sym c.kept_if.ensures) (some_if c.in-Ok.apart c.in_ok-new.new P (λ apart. c.in_ok-new.ensures.parted (c.in-Ok.ensures apart)))

pub returns-in-Ok-clause-wider : goal.returns-in-Ok-clause-wider
returns-in-Ok-clause-wider c =
    let P : Parted → Type 0 = λ s. AreWider c.args.sets.now s in
    subst (λ (o : Option Parted). IfSome o P) (sym c.kept_if.ensures) (some_if c.in-Ok.apart c.in_ok-new.new P (λ apart. c.in_ok-new.ensures.wider))
