-- Which intervals a set keeps.
use Rattle.std.specs.Prelude.{List}
use Rattle.fws_iv.specs.declared.iv.Iv.{Iv}
use Rattle.fws_iv.specs.declared.stored.Kept.{Kept}
use Rattle.fws_iv.specs.declared.stored.Kept.TheVariants.{Own, Shared}

-- the intervals of a list with one owner, or with several
abbrev pub intervals_of : Kept → List Iv
intervals_of (Own list) = list.items
intervals_of (Shared list) = list.value.items
