-- The laws of lower crates on which the proofs rest.
use Rattle.fws_num.specs.Numbers.{AddressesAreDotted, DecimalsAreRead, NumbersAreDigits, PrefixesAreRead, QuadsAreDotted, SplitsBack}
use Rattle.fws_num.specs.Pieces.{JoinedAreDivided}
use Rattle.fws_num.specs.Written.{LinesAreRead, WordsAreRead}
use Rattle.fws_rules.specs.Names.{OrderlySitesAreNamed}

pub record Laws : Type 0 where
  pub decimals : DecimalsAreRead
  pub quads : QuadsAreDotted
  pub prefixes : PrefixesAreRead
  pub digits : NumbersAreDigits
  pub dotted_bytes : AddressesAreDotted
  pub splits : SplitsBack
  pub joined : JoinedAreDivided
  pub words : WordsAreRead
  pub lines : LinesAreRead
  pub named : OrderlySitesAreNamed
