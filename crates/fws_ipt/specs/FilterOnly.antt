-- Configurations that only filter.
use Rattle.std.specs.Prelude.{Bool, true, false, ◌&&◌, List, [], ◌∷◌, Option, Some, None}
use Rattle.std.specs.List.{list_all}
use Rattle.fws_ipt.specs.declared.config.IptTable.{IptTable}
use Rattle.fws_ipt.specs.declared.config.IptTable.TheVariants.{Filter, Nat, Mangle}
use Rattle.fws_ipt.specs.declared.config.IptRule.{IptRule}
use Rattle.fws_ipt.specs.declared.config.IptChain.{IptChain}
use Rattle.fws_ipt.specs.declared.config.IptConfig.{IptConfig}

abbrev pub is_empty : List IptRule → Bool
is_empty [] = true
is_empty (r ∷ rs) = false

-- a built-in chain of filter, or of another table without a rule and with the policy ACCEPT
abbrev pub fits_table : IptTable → Option Bool → List IptRule → Bool
fits_table table None rules = false
fits_table Filter (Some accepts) rules = true
fits_table Nat (Some accepts) rules = accepts && is_empty rules
fits_table Mangle (Some accepts) rules = accepts && is_empty rules

abbrev pub filters_only : IptChain → Bool
filters_only chain = fits_table chain.table chain.policy chain.rules

-- no chain is a user's, and no chain of nat or mangle has a rule or the policy DROP
abbrev pub is_filter_only : IptConfig → Bool
is_filter_only c = list_all filters_only c.chains
