-- The rules of nat that write the ends of packets by their marks.
use Rattle.std.specs.Prelude.{ℕ, suc, ◌+◌, ◌-◌, ◌^◌, Bool, true, false, nat_lt, if◌then◌else◌, Option, Some, None, List, [], ◌∷◌, ◌++◌, map}
use Rattle.fws_num.specs.declared.prefix.Prefix.{Prefix}
use Rattle.fws_iv.specs.declared.iv.Iv.{Iv}
use Rattle.fws_net.specs.declared.condition.Lit.{Lit}
use Rattle.fws_net.specs.declared.condition.Test.{Test}
use Rattle.fws_net.specs.declared.condition.Test.TheVariants.{Dst, Proto, Src, Tag}
use Rattle.fws_net.specs.declared.outcome.End.{End}
use Rattle.fws_ipt.specs.declared.config.IptGo.{IptGo}
use Rattle.fws_ipt.specs.declared.config.IptGo.TheVariants as acts
use Rattle.fws_ipt.specs.declared.config.IptRule.{IptRule}
use Rattle.fws_ipt.specs.declared.hook.Hook.{Hook}
use Rattle.fws_ipt.specs.declared.hook.Hook.TheVariants.{Prerouting, Input, Forward, Output, Postrouting}
use Rattle.fws_ipt_put.specs.declared.marks.Mark.{Mark}

-- a literal that isn't negated
abbrev pub asked : Test → Lit
asked test = record { not = false; test = test }

-- an end is written over the source, or over the destination
abbrev pub writing : Bool → End → IptGo
writing true e = acts.Source e
writing false e = acts.Dest e

-- the addresses of a prefix without bits past its length
abbrev pub addresses : Prefix → List Iv
addresses net = record { lo = net.addr; hi = net.addr + (2 ^ (32 - net.len) - 1) } ∷ []

-- the source, or the destination, lies in the prefix
abbrev pub lies_in : Bool → Prefix → Test
lies_in true net = Src (addresses net)
lies_in false net = Dst (addresses net)

-- packets with the mark get the end
abbrev pub whole_rule : Bool → ℕ → End → IptRule
whole_rule on_source v e = record { cond = asked (Tag v) ∷ []; go = writing on_source e }

-- packets of a protocol with the mark get the end
abbrev pub port_rule : Bool → ℕ → End → ℕ → IptRule
port_rule on_source v e proto =
    record { cond = asked (Proto (record { lo = proto; hi = proto } ∷ [])) ∷ asked (Tag v) ∷ []; go = writing on_source e }

-- packets with the mark that have an address of the block get the network over it
abbrev pub block_rule : Bool → ℕ → End → Prefix → IptRule
block_rule on_source v e block =
    record { cond = asked (lies_in on_source block) ∷ asked (Tag v) ∷ []; go = acts.Netmap (record { addr = e.addr; len = e.len }) }

-- a rule, where it is wanted
abbrev pub one_if : Bool → IptRule → List IptRule
one_if wanted rule = if wanted then rule ∷ [] else []

abbrev pub port_rules : Bool → ℕ → End → Bool → Bool → List IptRule
port_rules on_source v e tcp udp = one_if tcp (port_rule on_source v e 6) ++ one_if udp (port_rule on_source v e 17)

-- an end without a port: a whole address, or a network over blocks
abbrev pub address_rules : Bool → ℕ → End → List Prefix → List IptRule
address_rules on_source v e blocks = if nat_lt e.len 32 then map (block_rule on_source v e) blocks else whole_rule on_source v e ∷ []

-- an end with a port, or one without
abbrev pub rules_for : Bool → ℕ → Mark → List Prefix → End → Option ℕ → List IptRule
rules_for on_source v mark blocks e None = address_rules on_source v e blocks
rules_for on_source v mark blocks e (Some port) = port_rules on_source v e mark.tcp mark.udp

-- the rules for an end, where there is one
abbrev pub end_rules : Bool → ℕ → Mark → List Prefix → Option End → List IptRule
end_rules on_source v mark blocks None = []
end_rules on_source v mark blocks (Some e) = rules_for on_source v mark blocks e e.port

-- the rules of a mark at a hook
abbrev pub mark_rules_at : Hook → ℕ → Mark → List IptRule
mark_rules_at Prerouting v mark = if mark.arrives then end_rules false v mark mark.dst_blocks mark.rewrite.dst else []
mark_rules_at Input v mark = if mark.arrives then end_rules true v mark mark.src_blocks mark.rewrite.src else []
mark_rules_at Forward v mark = []
mark_rules_at Output v mark = if mark.sends then end_rules false v mark mark.dst_blocks mark.rewrite.dst else []
mark_rules_at Postrouting v mark = end_rules true v mark mark.src_blocks mark.rewrite.src

-- the rules of the marks from v on
abbrev pub nat_rules : Hook → ℕ → List Mark → List IptRule
nat_rules hook v [] = []
nat_rules hook v (mark ∷ marks) = mark_rules_at hook v mark ++ nat_rules hook (suc v) marks
