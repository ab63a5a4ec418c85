-- The laws of lower crates on which the proofs rest.
use Rattle.fws_num.specs.Numbers.{AddressesAreDotted, DecimalsAreRead, NumbersAreDigits, QuadsAreDotted}
use Rattle.fws_num.specs.Written.{LinesAreRead, WordsAreRead}
use Rattle.fws_iv.specs.Ivs.{RangesAddMembers, RangesAreRegular, SameMembersSameList}
use Rattle.fws_rules.specs.Names.{OrderlySitesAreNamed}

pub record Laws : Type 0 where
  pub decimals : DecimalsAreRead
  pub quads : QuadsAreDotted
  pub digits : NumbersAreDigits
  pub dotted_bytes : AddressesAreDotted
  pub words : WordsAreRead
  pub lines : LinesAreRead
  pub same_members : SameMembersSameList
  pub ranges_regular : RangesAreRegular
  pub ranges_members : RangesAddMembers
  pub named : OrderlySitesAreNamed
