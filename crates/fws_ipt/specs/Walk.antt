-- What one packet meets, rule by rule (iptables(8), iptables-extensions(8)).
use Rattle.std.specs.Prelude.{ℕ, zero, suc, Bool, true, false, ◌&&◌, nat_eq, slice_get, Option, Some, None, is_some, option_and_then, List, [], ◌∷◌, length, codes, if◌then◌else◌}
use Rattle.std.specs.List.{list_any}
use Rattle.std.specs.Option.{option_map_or}
use Rattle.std.specs.Str.{bytes_eq}
use Rattle.fws_net.specs.declared.packet.Packet.{Packet}
use Rattle.fws_net.specs.declared.outcome.End.{End}
use Rattle.fws_net.specs.declared.outcome.Rewrite.{Rewrite}
use Rattle.fws_net.specs.declared.outcome.Outcome.{Outcome}
use Rattle.fws_net.specs.declared.outcome.Outcome.TheVariants as outcomes
use Rattle.fws_net.specs.declared.connection.Rec.{Rec}
use Rattle.fws_net.specs.declared.connection.Kind.{Kind}
use Rattle.fws_net.specs.declared.connection.Kind.TheVariants.{New, Est}
use Rattle.fws_net.specs.declared.exit.Exit.{Exit}
use Rattle.fws_net.specs.declared.exit.Exit.TheVariants.{Deliver, Out, Lost}
use Rattle.fws_net.specs.declared.site.Site.{Site}
use Rattle.fws_net.specs.declared.view.View.{View}
use Rattle.fws_net.specs.Conditions.{holds}
use Rattle.fws_net.specs.Ends.{host_end}
use Rattle.fws_net.specs.Faces.{face_addr, loopback_addr}
use Rattle.fws_net.specs.Routes.{exit_at}
use Rattle.fws_net.specs.Showing.{receiving, sending}
use Rattle.fws_net.specs.Transits.{rewritten, with_rec_dst, with_rec_src, nothing_written}
use Rattle.fws_ipt.specs.declared.config.IptTable.{IptTable}
use Rattle.fws_ipt.specs.declared.config.IptTable.TheVariants.{Filter, Nat, Mangle}
use Rattle.fws_ipt.specs.declared.config.IptGo.{IptGo}
use Rattle.fws_ipt.specs.declared.config.IptGo.TheVariants.{Accept, Drop, Return, Next, Jump, Goto, Mark, Source, Masquerade, Dest, Redirect, Netmap}
use Rattle.fws_ipt.specs.declared.config.IptRule.{IptRule}
use Rattle.fws_ipt.specs.declared.config.IptChain.{IptChain}
use Rattle.fws_ipt.specs.declared.config.IptConfig.{IptConfig}
use Rattle.fws_rules.specs.Networks.{net_end}
use Rattle.fws_ipt.specs.declared.hook.Hook.{Hook}
use Rattle.fws_ipt.specs.declared.hook.Hook.TheVariants.{Prerouting, Input, Forward, Output, Postrouting}
use Rattle.fws_ipt.specs.declared.passage.Passage.{Passage}
use Rattle.fws_ipt.specs.declared.passage.ChainEnd.{ChainEnd}
use Rattle.fws_ipt.specs.declared.passage.ChainEnd.TheVariants.{Accepted, Dropped, Through}

-- What a rule sees

-- the receiving interface is shown before routing, to what is delivered and to what is forwarded
abbrev pub shows_recv : Hook → Bool
shows_recv Prerouting = true
shows_recv Input = true
shows_recv Forward = true
shows_recv Output = false
shows_recv Postrouting = false

-- the sending interface is shown to what is forwarded, to what the host sends, and before a packet leaves
abbrev pub shows_xmit : Hook → Bool
shows_xmit Prerouting = false
shows_xmit Input = false
shows_xmit Forward = true
shows_xmit Output = true
shows_xmit Postrouting = true

-- what a rule sees at a hook; the mark is the one tag
abbrev pub view_at : Site → Bool → Hook → Passage → View
view_at site is_est hook m = record {
  packet = m.packet;
  recv = if shows_recv hook then receiving m.packet else None;
  xmit = if shows_xmit hook then sending site m.packet else None;
  outward = false;
  est = is_est;
  tags = m.mark ∷ [];
}

-- What a rule writes

-- an end stands over the fields with which the packet p entered
abbrev pub with_wrote : Packet → Rewrite → Passage → Passage
with_wrote p w m = record m { packet = rewritten p w; wrote = w }

abbrev pub with_src : Packet → End → Passage → Passage
with_src p e m = with_wrote p (record m.wrote { src = Some e }) m

abbrev pub with_dst : Packet → End → Passage → Passage
with_dst p e m = with_wrote p (record m.wrote { dst = Some e }) m

abbrev pub with_mark : ℕ → Passage → Passage
with_mark v m = record m { mark = v }

-- Acts

-- DNAT and REDIRECT act where the destination is still to be routed, and NETMAP writes the destination there
abbrev pub writes_dst_at : Hook → Bool
writes_dst_at Prerouting = true
writes_dst_at Input = false
writes_dst_at Forward = false
writes_dst_at Output = true
writes_dst_at Postrouting = false

-- SNAT acts where the packet is about to leave or to be delivered, and NETMAP writes the source there
abbrev pub writes_src_at : Hook → Bool
writes_src_at Prerouting = false
writes_src_at Input = true
writes_src_at Forward = false
writes_src_at Output = false
writes_src_at Postrouting = true

-- MASQUERADE acts before a packet leaves
abbrev pub masquerades_at : Hook → Bool
masquerades_at Prerouting = false
masquerades_at Input = false
masquerades_at Forward = false
masquerades_at Output = false
masquerades_at Postrouting = true

-- the address that REDIRECT writes: the receiving interface's, for the host's own packets 127.0.0.1
abbrev pub redirect_addr : Site → Packet → ℕ
redirect_addr site p = if nat_eq p.entry 0 then loopback_addr else face_addr site p.entry

-- MASQUERADE writes the address of the sending interface
abbrev pub masqueraded : Site → Packet → Option ℕ → Passage → ChainEnd
masqueraded site p None m = Through m
masqueraded site p (Some entry) m = Accepted (with_src p (host_end (face_addr site entry) None) m)

-- goes on where a chain was left by its end; a verdict stands
abbrev pub back : (Passage → ChainEnd) → ChainEnd → ChainEnd
back next (Accepted m) = Accepted m
back next Dropped = Dropped
back next (Through m) = next m

-- what a rule of the packet that entered as p does: enter walks another chain, next the rules behind this one.
-- Behind a jump the walk goes on here; a goto leaves this chain for good
abbrev pub act : (ℕ → Passage → ChainEnd) → (Passage → ChainEnd) → Site → Packet → Hook → IptGo → Passage → ChainEnd
act enter next site p hook Accept m = Accepted m
act enter next site p hook Drop m = Dropped
act enter next site p hook Return m = Through m
act enter next site p hook Next m = next m
act enter next site p hook (Jump c) m = back next (enter c m)
act enter next site p hook (Goto c) m = enter c m
act enter next site p hook (Mark v) m = next (with_mark v m)
act enter next site p hook (Source e) m = if writes_src_at hook then Accepted (with_src p e m) else next m
act enter next site p hook Masquerade m = if masquerades_at hook then back next (masqueraded site p (sending site m.packet) m) else next m
act enter next site p hook (Dest e) m = if writes_dst_at hook then Accepted (with_dst p e m) else next m
act enter next site p hook (Redirect port) m =
    if writes_dst_at hook then Accepted (with_dst p (host_end (redirect_addr site p) port) m) else next m
act enter next site p hook (Netmap net) m =
    if writes_dst_at hook then Accepted (with_dst p (net_end net) m)
    else if writes_src_at hook then Accepted (with_src p (net_end net) m) else next m

-- Chains

-- the rules in their order
abbrev pub rules_walk : (ℕ → Passage → ChainEnd) → Site → Packet → Bool → Hook → List IptRule → Passage → ChainEnd
rules_walk enter site p is_est hook [] m = Through m
rules_walk enter site p is_est hook (r ∷ rs) m =
    if holds r.cond (view_at site is_est hook m)
    then act enter (rules_walk enter site p is_est hook rs) site p hook r.go m
    else rules_walk enter site p is_est hook rs m

-- the rules of the chain with this number
abbrev pub rules_at : List IptChain → ℕ → List IptRule
rules_at chains c = option_map_or (λ chain. chain.rules) (slice_get chains c) []

-- chain c, entered from the chains of the path, with at most n chains left to enter; one that is met again drops
abbrev pub chain_walk : List IptChain → Site → Packet → Bool → Hook → ℕ → List ℕ → ℕ → Passage → ChainEnd
chain_walk chains site p is_est hook zero path c m = Dropped
chain_walk chains site p is_est hook (suc n) path c m =
    if list_any (nat_eq c) path then Dropped
    else rules_walk (chain_walk chains site p is_est hook n (c ∷ path)) site p is_est hook (rules_at chains c) m

abbrev pub hook_name : Hook → List ℕ
hook_name Prerouting = codes "PREROUTING"
hook_name Input = codes "INPUT"
hook_name Forward = codes "FORWARD"
hook_name Output = codes "OUTPUT"
hook_name Postrouting = codes "POSTROUTING"

abbrev pub is_table : IptTable → IptTable → Bool
is_table Filter Filter = true
is_table Nat Nat = true
is_table Mangle Mangle = true
is_table _ _ = false

-- the built-in chain of this table at the hook
abbrev pub stands_at : IptTable → Hook → IptChain → Bool
stands_at table hook chain = is_table table chain.table && bytes_eq chain.name (hook_name hook) && is_some chain.policy

-- the number of the built-in chain of a table at a hook, counted from n
abbrev pub builtin_from : ℕ → IptTable → Hook → List IptChain → Option ℕ
builtin_from n table hook [] = None
builtin_from n table hook (chain ∷ chains) = if stands_at table hook chain then Some n else builtin_from (suc n) table hook chains

-- the policy of the chain with this number
abbrev pub policy_at : List IptChain → ℕ → Bool
policy_at chains c = option_map_or (λ chain. option_map_or (λ accepts. accepts) chain.policy true) (slice_get chains c) true

-- at the end of a built-in chain its policy decides
abbrev pub by_policy : Bool → ChainEnd → Option Passage
by_policy accepts (Accepted m) = Some m
by_policy accepts Dropped = None
by_policy accepts (Through m) = if accepts then Some m else None

-- a built-in chain; one that the file doesn't have accepts
abbrev pub builtin_walk : List IptChain → Site → Packet → Bool → Hook → Option ℕ → Passage → Option Passage
builtin_walk chains site p is_est hook None m = Some m
builtin_walk chains site p is_est hook (Some c) m =
    by_policy (policy_at chains c) (chain_walk chains site p is_est hook (length chains) [] c m)

-- The ways of a packet

-- an established packet doesn't meet the chains of nat: there its destination or source becomes that with which it leaves
abbrev pub tracked_at : Rec → Hook → Passage → Passage
tracked_at r Prerouting m = record m { packet = with_rec_dst r m.packet }
tracked_at r Input m = record m { packet = with_rec_src r m.packet }
tracked_at r Forward m = m
tracked_at r Output m = record m { packet = with_rec_dst r m.packet }
tracked_at r Postrouting m = record m { packet = with_rec_src r m.packet }

-- the chain of a table at a hook, for a packet of a class; none where it drops
abbrev pub visit : IptConfig → Site → Packet → Kind → IptTable → Hook → Passage → Option Passage
visit c site p New table hook m = builtin_walk c.chains site p false hook (builtin_from 0 table hook c.chains) m
visit c site p (Est r) Filter hook m = builtin_walk c.chains site p true hook (builtin_from 0 Filter hook c.chains) m
visit c site p (Est r) Nat hook m = Some (tracked_at r hook m)
visit c site p (Est r) Mangle hook m = builtin_walk c.chains site p true hook (builtin_from 0 Mangle hook c.chains) m

-- the chains in their order
abbrev pub visits : IptConfig → Site → Packet → Kind → List (IptTable × Hook) → Passage → Option Passage
visits c site p k [] m = Some m
visits c site p k (at ∷ rest) m = option_and_then (visits c site p k rest) (visit c site p k at.0 at.1 m)

abbrev pub arriving : List (IptTable × Hook)
arriving = (Mangle, Prerouting) ∷ (Nat, Prerouting) ∷ []

abbrev pub delivered : List (IptTable × Hook)
delivered = (Mangle, Input) ∷ (Filter, Input) ∷ (Nat, Input) ∷ []

abbrev pub forwarded : List (IptTable × Hook)
forwarded = (Mangle, Forward) ∷ (Filter, Forward) ∷ (Mangle, Postrouting) ∷ (Nat, Postrouting) ∷ []

abbrev pub sent_out : List (IptTable × Hook)
sent_out = (Mangle, Output) ∷ (Nat, Output) ∷ (Filter, Output) ∷ (Mangle, Postrouting) ∷ (Nat, Postrouting) ∷ []

-- behind the chains that stand before routing, by the exit of the destination as it stands
abbrev pub go_to : IptConfig → Site → Packet → Kind → Exit → Passage → Option Passage
go_to c site p k Deliver m = visits c site p k delivered m
go_to c site p k (Out entry) m = visits c site p k forwarded m
go_to c site p k Lost m = None

abbrev pub routed : IptConfig → Site → Packet → Kind → Passage → Option Passage
routed c site p k m = go_to c site p k (exit_at site p.entry m.packet.dst) m

-- the packet as it enters, with the mark 0
abbrev pub entering : Packet → Passage
entering p = record { packet = p; mark = 0; wrote = nothing_written }

-- the whole way of a packet: the host's own is sent, any other arrives
abbrev pub way_of : IptConfig → Site → Packet → Kind → Option Passage
way_of c site p k =
    if nat_eq p.entry 0 then visits c site p k sent_out (entering p)
    else option_and_then (routed c site p k) (visits c site p k arriving (entering p))

-- an established packet is accepted without a rewriting: it leaves with the ends of its connection
abbrev pub outcome_of : Kind → Option Passage → Outcome
outcome_of k None = outcomes.Drop
outcome_of New (Some m) = outcomes.Accept m.wrote
outcome_of (Est r) (Some m) = outcomes.Accept nothing_written

-- what becomes of a packet of a class
abbrev pub walk : IptConfig → Site → Packet → Kind → Outcome
walk c site p k = outcome_of k (way_of c site p k)
