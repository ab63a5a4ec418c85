-- The built-in chains of the tables.
use Rattle.std.specs.Prelude.{Bool, true, false, Some, List, [], ◌∷◌, ℕ, ◌+◌, slice_set}
use Rattle.fws_ipt.specs.declared.config.IptChain.{IptChain}
use Rattle.fws_ipt.specs.declared.config.IptRule.{IptRule}
use Rattle.fws_ipt.specs.declared.config.IptTable.{IptTable}
use Rattle.fws_ipt.specs.declared.config.IptTable.TheVariants.{Filter, Nat, Mangle}
use Rattle.fws_ipt.specs.declared.hook.Hook.{Hook}
use Rattle.fws_ipt.specs.declared.hook.Hook.TheVariants.{Prerouting, Input, Forward, Output, Postrouting}
use Rattle.fws_ipt.specs.Walk.{hook_name}
use Rattle.fws_ipt_put.specs.declared.marks.Mark.{Mark}
use Rattle.fws_ipt_put.specs.NatRules.{nat_rules}

-- the built-in chain of a table at a hook
abbrev pub builtin : IptTable → Hook → Bool → List IptRule → IptChain
builtin table hook accepts rules = record { table = table; name = hook_name hook; policy = Some accepts; rules = rules }

-- mangle decides on packets as they enter; one that no rule is for is dropped there
abbrev pub mangle_chains : List IptRule → List IptRule → List IptChain
mangle_chains arriving sending =
    builtin Mangle Prerouting false arriving ∷ builtin Mangle Input true [] ∷ builtin Mangle Forward true []
    ∷ builtin Mangle Output false sending ∷ builtin Mangle Postrouting true [] ∷ []

abbrev pub nat_chains : List Mark → List IptChain
nat_chains marks =
    builtin Nat Prerouting true (nat_rules Prerouting 5 marks) ∷ builtin Nat Input true (nat_rules Input 5 marks)
    ∷ builtin Nat Output true (nat_rules Output 5 marks) ∷ builtin Nat Postrouting true (nat_rules Postrouting 5 marks) ∷ []

-- filter decides on packets of connections with their destinations in place
abbrev pub filter_chains : List IptRule → List IptRule → List IptRule → List IptChain
filter_chains delivering forwarding sending =
    builtin Filter Input true delivering ∷ builtin Filter Forward true forwarding ∷ builtin Filter Output true sending ∷ []

-- chains with these rules in the built-in ones of mangle, and in those of filter, which stand from a place on
abbrev pub with_mangle : List IptChain → List IptRule → List IptRule → List IptChain
with_mangle chains arriving sending =
    slice_set (slice_set chains 0 (builtin Mangle Prerouting false arriving)) 3 (builtin Mangle Output false sending)

abbrev pub with_filter : List IptChain → ℕ → List IptRule → List IptRule → List IptRule → List IptChain
with_filter chains at delivering forwarding sent =
    slice_set (slice_set (slice_set chains at (builtin Filter Input true delivering)) (at + 1) (builtin Filter Forward true forwarding))
    (at + 2) (builtin Filter Output true sent)
