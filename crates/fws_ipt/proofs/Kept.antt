-- What holds of a new packet all along its way, if it holds as the packet enters and each rule keeps it.
use Rattle.std.proofs.Common.{◌≡◌, ℕ, zero, suc, Bool, true, false, cond, nat_eq, Option, Some, None, List, [], ◌∷◌, length, IfSome, option_and_then}
use Rattle.std.specs.List.{list_all, list_any}
use Rattle.std.proofs.lemmas.Bool.{and_parts, cond_both}
use Rattle.fws_net.specs.declared.packet.Packet.{Packet}
use Rattle.fws_net.specs.declared.connection.Kind.TheVariants.{New}
use Rattle.fws_net.specs.declared.site.Site.{Site}
use Rattle.fws_net.specs.Conditions.{holds}
use Rattle.fws_net.specs.Ends.{host_end}
use Rattle.fws_net.specs.Faces.{face_addr}
use Rattle.fws_net.specs.Showing.{sending}
use Rattle.fws_ipt.specs.declared.config.IptTable.{IptTable}
use Rattle.fws_ipt.specs.declared.config.IptGo.{IptGo}
use Rattle.fws_ipt.specs.declared.config.IptGo.TheVariants.{Accept, Drop, Return, Next, Jump, Goto, Mark, Source, Masquerade, Dest, Redirect, Netmap}
use Rattle.fws_ipt.specs.declared.config.IptRule.{IptRule}
use Rattle.fws_ipt.specs.declared.config.IptConfig.{IptConfig}
use Rattle.fws_ipt.specs.declared.hook.Hook.{Hook}
use Rattle.fws_ipt.specs.declared.passage.Passage.{Passage}
use Rattle.fws_ipt.specs.declared.passage.ChainEnd.{ChainEnd}
use Rattle.fws_ipt.specs.declared.passage.ChainEnd.TheVariants.{Accepted, Dropped, Through}
use Rattle.fws_rules.specs.Networks.{net_end}
use Rattle.fws_ipt.specs.Walk.{view_at, with_src, with_dst, with_mark, writes_dst_at, writes_src_at, masquerades_at, redirect_addr, masqueraded, back, act, rules_walk, rules_at, chain_walk, by_policy, policy_at, builtin_walk, builtin_from, visits}

-- where a chain was left with a packet, it holds of that
abbrev IfLeft : (Passage → Type 0) → ChainEnd → Type 0
IfLeft P (Accepted m) = P m
IfLeft P Dropped = Unit
IfLeft P (Through m) = P m

-- it holds of each passage that the act writes at a hook, of the packet that entered as p
abbrev pub Writes : (Passage → Type 0) → Site → Packet → Hook → IptGo → Passage → Type 0
Writes P site p hook (Mark v) m = P (with_mark v m)
Writes P site p hook (Source e) m = writes_src_at hook ≡ true → P (with_src p e m)
Writes P site p hook Masquerade m = (entry : ℕ) → P (with_src p (host_end (face_addr site entry) None) m)
Writes P site p hook (Dest e) m = writes_dst_at hook ≡ true → P (with_dst p e m)
Writes P site p hook (Redirect port) m = writes_dst_at hook ≡ true → P (with_dst p (host_end (redirect_addr site p) port) m)
Writes P site p hook (Netmap net) m = (writes_dst_at hook ≡ true → P (with_dst p (net_end net) m)) × (writes_src_at hook ≡ true → P (with_src p (net_end net) m))
Writes P site p hook _ m = Unit

back_kept : (P : Passage → Type 0) (next : Passage → ChainEnd) → ((m : Passage) → P m → IfLeft P (next m)) → (x : ChainEnd) → IfLeft P x → IfLeft P (back next x)
back_kept P next step (Accepted m) h = h
back_kept P next step Dropped h = tt
back_kept P next step (Through m) h = step m h

by_policy_kept : (P : Passage → Type 0) (accepts : Bool) (x : ChainEnd) → IfLeft P x → IfSome (by_policy accepts x) P
by_policy_kept P accepts (Accepted m) h = h
by_policy_kept P accepts Dropped h = tt
by_policy_kept P true (Through m) h = h
by_policy_kept P false (Through m) h = tt

then_kept : (P : Passage → Type 0) (next : Passage → Option Passage) → ((m : Passage) → P m → IfSome (next m) P)
    → (x : Option Passage) → IfSome x P → IfSome (option_and_then next x) P
then_kept P next step None h = tt
then_kept P next step (Some m) h = step m h

-- it is kept by rules of which something is known, at hooks of which something is known
module _ (c : IptConfig) (site : Site) (p : Packet) (P : Passage → Type 0) (is_known : IptRule → Bool) (is_met : Hook → Bool)
    (known : (n : ℕ) → list_all is_known (rules_at c.chains n) ≡ true)
    (kept : (hook : Hook) → is_met hook ≡ true → (r : IptRule) → is_known r ≡ true → (m : Passage) → P m → holds r.cond (view_at site false hook m) ≡ true
    → Writes P site p hook r.go m) where
  module _ (hook : Hook) where
    abbrev Keeps : (Passage → ChainEnd) → Type 0
    Keeps f = (m : Passage) → P m → IfLeft P (f m)

    masqueraded_kept : (o : Option ℕ) (m : Passage) → P m → ((entry : ℕ) → P (with_src p (host_end (face_addr site entry) None) m)) → IfLeft P (masqueraded site p o m)
    masqueraded_kept None m h writes = h
    masqueraded_kept (Some entry) m h writes = writes entry

    act_kept : (enter : ℕ → Passage → ChainEnd) → ((n : ℕ) → Keeps (enter n)) → (next : Passage → ChainEnd) → Keeps next
        → (go : IptGo) (m : Passage) → P m → Writes P site p hook go m → IfLeft P (act enter next site p hook go m)
    act_kept enter entered next step Accept m h writes = h
    act_kept enter entered next step Drop m h writes = tt
    act_kept enter entered next step Return m h writes = h
    act_kept enter entered next step Next m h writes = step m h
    act_kept enter entered next step (Jump n) m h writes = back_kept P next step (enter n m) (entered n m h)
    act_kept enter entered next step (Goto n) m h writes = entered n m h
    act_kept enter entered next step (Mark v) m h writes = step (with_mark v m) writes
    act_kept enter entered next step (Source e) m h writes =
        cond_both (writes_src_at hook) _ (next m) (IfLeft P) writes (λ off. step m h)
    act_kept enter entered next step Masquerade m h writes =
        cond_both (masquerades_at hook) (back next (masqueraded site p (sending site m.packet) m)) (next m) (IfLeft P)
        (λ on. back_kept P next step _ (masqueraded_kept (sending site m.packet) m h writes)) (λ off. step m h)
    act_kept enter entered next step (Dest e) m h writes =
        cond_both (writes_dst_at hook) _ (next m) (IfLeft P) writes (λ off. step m h)
    act_kept enter entered next step (Redirect port) m h writes =
        cond_both (writes_dst_at hook) _ (next m) (IfLeft P) writes (λ off. step m h)
    act_kept enter entered next step (Netmap net) m h writes =
        let behind = cond (writes_src_at hook) (Accepted (with_src p (net_end net) m)) (next m) in
        cond_both (writes_dst_at hook) (Accepted (with_dst p (net_end net) m)) behind (IfLeft P) writes.0
        (λ off. cond_both (writes_src_at hook) (Accepted (with_src p (net_end net) m)) (next m) (IfLeft P) writes.1 (λ off_too. step m h))

    module _ (met : is_met hook ≡ true) where
      rules_kept : (enter : ℕ → Passage → ChainEnd) → ((n : ℕ) → Keeps (enter n)) → (rules : List IptRule) → list_all is_known rules ≡ true
          → Keeps (rules_walk enter site p false hook rules)
      rules_kept enter entered [] all m h = h
      rules_kept enter entered (r ∷ rs) all m h =
          let both = and_parts (is_known r) (list_all is_known rs) all in
          let rest = rules_kept enter entered rs both.1 in
          cond_both (holds r.cond (view_at site false hook m)) _ (rules_walk enter site p false hook rs m) (IfLeft P)
          (λ on. act_kept enter entered (rules_walk enter site p false hook rs) rest r.go m h (kept hook met r both.0 m h on))
          (λ off. rest m h)

      chain_kept : (steps : ℕ) (path : List ℕ) (n : ℕ) → Keeps (chain_walk c.chains site p false hook steps path n)
      chain_kept zero path n m h = tt
      chain_kept (suc steps) path n m h =
          cond_both (list_any (nat_eq n) path) Dropped _ (IfLeft P) (λ on. tt)
          (λ off. rules_kept (chain_walk c.chains site p false hook steps (n ∷ path)) (chain_kept steps (n ∷ path)) (rules_at c.chains n) (known n) m h)

      builtin_kept : (o : Option ℕ) (m : Passage) → P m → IfSome (builtin_walk c.chains site p false hook o m) P
      builtin_kept None m h = h
      builtin_kept (Some n) m h = by_policy_kept P (policy_at c.chains n) _ (chain_kept (length c.chains) [] n m h)

  pub visits_kept : (stations : List (IptTable × Hook)) → list_all (λ at. is_met at.1) stations ≡ true → (m : Passage) → P m → IfSome (visits c site p New stations m) P
  visits_kept [] all m h = h
  visits_kept (at ∷ rest) all m h =
      let both = and_parts (is_met at.1) (list_all (λ other. is_met other.1) rest) all in
      then_kept P (visits c site p New rest) (visits_kept rest both.1) _
      (builtin_kept at.1 both.0 (builtin_from 0 at.0 at.1 c.chains) m h)
