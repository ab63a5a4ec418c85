-- Which rules a packet's walk uses: those that it comes to and whose conditions hold there, in their order. A rule has a number: rules
-- are counted from 0, through the chains in their order.
use Rattle.std.specs.Prelude.{ℕ, zero, suc, ◌+◌, Bool, true, false, nat_eq, take, Option, Some, None, List, [], ◌∷◌, ◌++◌, length, sum, map, if◌then◌else◌}
use Rattle.std.specs.List.{list_any}
use Rattle.std.specs.Option.{option_map_or}
use Rattle.fws_net.specs.declared.packet.Packet.{Packet}
use Rattle.fws_net.specs.declared.connection.Kind.{Kind}
use Rattle.fws_net.specs.declared.connection.Kind.TheVariants.{New, Est}
use Rattle.fws_net.specs.declared.exit.Exit.{Exit}
use Rattle.fws_net.specs.declared.exit.Exit.TheVariants.{Deliver, Out, Lost}
use Rattle.fws_net.specs.declared.site.Site.{Site}
use Rattle.fws_net.specs.Conditions.{holds}
use Rattle.fws_net.specs.Routes.{exit_at}
use Rattle.fws_net.specs.Showing.{sending}
use Rattle.fws_ipt.specs.declared.config.IptTable.{IptTable}
use Rattle.fws_ipt.specs.declared.config.IptTable.TheVariants.{Filter, Nat, Mangle}
use Rattle.fws_ipt.specs.declared.config.IptGo.{IptGo}
use Rattle.fws_ipt.specs.declared.config.IptGo.TheVariants.{Accept, Drop, Return, Next, Jump, Goto, Mark, Source, Masquerade, Dest, Redirect, Netmap}
use Rattle.fws_ipt.specs.declared.config.IptRule.{IptRule}
use Rattle.fws_ipt.specs.declared.config.IptChain.{IptChain}
use Rattle.fws_ipt.specs.declared.config.IptConfig.{IptConfig}
use Rattle.fws_ipt.specs.declared.hook.Hook.{Hook}
use Rattle.fws_ipt.specs.declared.passage.Passage.{Passage}
use Rattle.fws_ipt.specs.declared.passage.ChainEnd.{ChainEnd}
use Rattle.fws_ipt.specs.declared.passage.ChainEnd.TheVariants.{Accepted, Dropped, Through}
use Rattle.fws_ipt.specs.Walk.{view_at, with_mark, writes_dst_at, writes_src_at, masquerades_at, masqueraded, rules_at, chain_walk, builtin_from, visit, visits, arriving, delivered, forwarded, sent_out, entering}

-- the number of the first rule of a chain
abbrev pub first_number : List IptChain → ℕ → ℕ
first_number chains c = sum (map (λ chain. length chain.rules) (take c chains))

-- what is used behind a chain, which is nothing where it gave a verdict
abbrev pub used_back : (Passage → List ℕ) → ChainEnd → List ℕ
used_back next (Accepted m) = []
used_back next Dropped = []
used_back next (Through m) = next m

-- what is used behind a rule: in the chains that it enters, by used and enter, and in the rules behind it, by next
abbrev pub act_used : (ℕ → Passage → List ℕ) → (ℕ → Passage → ChainEnd) → (Passage → List ℕ) → Site → Packet → Hook → IptGo → Passage → List ℕ
act_used used enter next site p hook Accept m = []
act_used used enter next site p hook Drop m = []
act_used used enter next site p hook Return m = []
act_used used enter next site p hook Next m = next m
act_used used enter next site p hook (Jump c) m = used c m ++ used_back next (enter c m)
act_used used enter next site p hook (Goto c) m = used c m
act_used used enter next site p hook (Mark v) m = next (with_mark v m)
act_used used enter next site p hook (Source e) m = if writes_src_at hook then [] else next m
act_used used enter next site p hook Masquerade m = if masquerades_at hook then used_back next (masqueraded site p (sending site m.packet) m) else next m
act_used used enter next site p hook (Dest e) m = if writes_dst_at hook then [] else next m
act_used used enter next site p hook (Redirect port) m = if writes_dst_at hook then [] else next m
act_used used enter next site p hook (Netmap net) m = if writes_dst_at hook then [] else if writes_src_at hook then [] else next m

-- what is used of the rules, of which the first has the number n
abbrev pub rules_used : (ℕ → Passage → List ℕ) → (ℕ → Passage → ChainEnd) → Site → Packet → Bool → Hook → ℕ → List IptRule → Passage → List ℕ
rules_used used enter site p is_est hook n [] m = []
rules_used used enter site p is_est hook n (r ∷ rs) m =
    if holds r.cond (view_at site is_est hook m)
    then n ∷ act_used used enter (rules_used used enter site p is_est hook (suc n) rs) site p hook r.go m
    else rules_used used enter site p is_est hook (suc n) rs m

-- what is used from chain c on, entered from the chains of the path, with at most n chains left to enter
abbrev pub chain_used : List IptChain → Site → Packet → Bool → Hook → ℕ → List ℕ → ℕ → Passage → List ℕ
chain_used chains site p is_est hook zero path c m = []
chain_used chains site p is_est hook (suc n) path c m =
    if list_any (nat_eq c) path then []
    else rules_used (chain_used chains site p is_est hook n (c ∷ path)) (chain_walk chains site p is_est hook n (c ∷ path)) site p is_est hook
    (first_number chains c) (rules_at chains c) m

-- what is used of a built-in chain
abbrev pub builtin_used : List IptChain → Site → Packet → Bool → Hook → Option ℕ → Passage → List ℕ
builtin_used chains site p is_est hook None m = []
builtin_used chains site p is_est hook (Some c) m = chain_used chains site p is_est hook (length chains) [] c m

-- what is used of the chain of a table at a hook; an established packet doesn't meet those of nat
abbrev pub visit_used : IptConfig → Site → Packet → Kind → IptTable → Hook → Passage → List ℕ
visit_used c site p New table hook m = builtin_used c.chains site p false hook (builtin_from 0 table hook c.chains) m
visit_used c site p (Est r) Filter hook m = builtin_used c.chains site p true hook (builtin_from 0 Filter hook c.chains) m
visit_used c site p (Est r) Nat hook m = []
visit_used c site p (Est r) Mangle hook m = builtin_used c.chains site p true hook (builtin_from 0 Mangle hook c.chains) m

-- what is used of chains in their order, until one drops the packet
abbrev pub visits_used : IptConfig → Site → Packet → Kind → List (IptTable × Hook) → Passage → List ℕ
visits_used c site p k [] m = []
visits_used c site p k (at ∷ rest) m = visit_used c site p k at.0 at.1 m ++ option_map_or (visits_used c site p k rest) (visit c site p k at.0 at.1 m) []

-- what is used behind routing
abbrev pub used_onwards : IptConfig → Site → Packet → Kind → Exit → Passage → List ℕ
used_onwards c site p k Deliver m = visits_used c site p k delivered m
used_onwards c site p k (Out entry) m = visits_used c site p k forwarded m
used_onwards c site p k Lost m = []

-- the numbers of the rules that the walk of a packet of class k uses, in the order in which it comes to them
abbrev pub used : IptConfig → Site → Packet → Kind → List ℕ
used c site p k =
    if nat_eq p.entry 0 then visits_used c site p k sent_out (entering p)
    else visits_used c site p k arriving (entering p)
    ++ option_map_or (λ m. used_onwards c site p k (exit_at site p.entry m.packet.dst) m) (visits c site p k arriving (entering p)) []
