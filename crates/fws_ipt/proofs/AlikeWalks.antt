-- Packets that entered alike visit chains alike.
use Rattle.std.proofs.Common.{◌≡◌, ℕ, zero, suc, Bool, true, false, cond, nat_eq, Option, Some, None, option_map, List, [], ◌∷◌, length, refl, ap, subst, option_and_then}
use Rattle.std.specs.List.{list_any}
use Rattle.std.proofs.lemmas.Bool.{true≢false, false≢true}
use Rattle.fws_net.specs.declared.packet.Packet.{Packet}
use Rattle.fws_net.specs.declared.connection.Rec.{Rec}
use Rattle.fws_net.specs.declared.connection.Kind.{Kind}
use Rattle.fws_net.specs.declared.connection.Kind.TheVariants.{New, Est}
use Rattle.fws_net.specs.declared.site.Site.{Site}
use Rattle.fws_net.specs.Conditions.{holds}
use Rattle.fws_net.specs.Ends.{host_end}
use Rattle.fws_net.specs.Faces.{face_addr, loopback_addr}
use Rattle.fws_net.specs.Showing.{sending, out_of}
use Rattle.fws_rules.specs.AlikeWays.{AlikeKinds, AlikeTransits, AlikeWays, LeadAlike, StayAlike}
use Rattle.fws_rules.specs.Networks.{net_end}
use Rattle.fws_ipt.specs.declared.config.IptTable.{IptTable}
use Rattle.fws_ipt.specs.declared.config.IptTable.TheVariants.{Filter, Nat, Mangle}
use Rattle.fws_ipt.specs.declared.config.IptGo.{IptGo}
use Rattle.fws_ipt.specs.declared.config.IptGo.TheVariants.{Accept, Drop, Return, Next, Jump, Goto, Mark, Source, Masquerade, Dest, Redirect, Netmap}
use Rattle.fws_ipt.specs.declared.config.IptRule.{IptRule}
use Rattle.fws_ipt.specs.declared.config.IptChain.{IptChain}
use Rattle.fws_ipt.specs.declared.config.IptConfig.{IptConfig}
use Rattle.fws_ipt.specs.declared.hook.Hook.{Hook}
use Rattle.fws_ipt.specs.declared.hook.Hook.TheVariants.{Prerouting, Input, Forward, Output, Postrouting}
use Rattle.fws_ipt.specs.declared.passage.Passage.{Passage}
use Rattle.fws_ipt.specs.declared.passage.ChainEnd.{ChainEnd}
use Rattle.fws_ipt.specs.declared.passage.ChainEnd.TheVariants.{Accepted, Dropped, Through}
use Rattle.fws_ipt.specs.Walk.{shows_recv, shows_xmit, view_at, with_dst, writes_dst_at, writes_src_at, masquerades_at, redirect_addr, masqueraded, back, act, rules_walk, rules_at, chain_walk, by_policy, policy_at, builtin_walk, tracked_at, visit, visits}
use Rattle.fws_ipt.proofs.Shown.{transit_of, mark_of, passage_of, visiting}

-- alike passages of a packet that entered as p
abbrev AlikePassages : Packet → Passage → Passage → Type 0
AlikePassages p m n = AlikeTransits p (transit_of m) (transit_of n)

abbrev AlikeEnds : Packet → ChainEnd → ChainEnd → Type 0
AlikeEnds p (Accepted m) (Accepted n) = AlikePassages p m n
AlikeEnds p Dropped Dropped = Unit
AlikeEnds p (Through m) (Through n) = AlikePassages p m n
AlikeEnds p _ _ = ⊥

abbrev AlikeVisits : Packet → Option Passage → Option Passage → Type 0
AlikeVisits p x y = AlikeWays p (option_map transit_of x) (option_map transit_of y)

chosen : (p : Packet) (b d : Bool) (x y other next : ChainEnd) → b ≡ d → AlikeEnds p x other → AlikeEnds p y next → AlikeEnds p (cond b x y) (cond d other next)
chosen p true true x y other next e h k = h
chosen p false false x y other next e h k = k
chosen p true false x y other next e h k = absurd (true≢false e)
chosen p false true x y other next e h k = absurd (false≢true e)

back_alike : (p : Packet) (f g : Passage → ChainEnd) → ((m n : Passage) → AlikePassages p m n → AlikeEnds p (f m) (g n))
    → (x y : ChainEnd) → AlikeEnds p x y → AlikeEnds p (back f x) (back g y)
back_alike p f g next (Accepted m) (Accepted n) h = h
back_alike p f g next Dropped Dropped h = tt
back_alike p f g next (Through m) (Through n) h = next m n h
back_alike p f g next _ _ h = absurd h

by_policy_alike : (p : Packet) (accepts : Bool) (x y : ChainEnd) → AlikeEnds p x y → AlikeVisits p (by_policy accepts x) (by_policy accepts y)
by_policy_alike p accepts (Accepted m) (Accepted n) h = h
by_policy_alike p accepts Dropped Dropped h = tt
by_policy_alike p true (Through m) (Through n) h = h
by_policy_alike p false (Through m) (Through n) h = tt
by_policy_alike p accepts _ _ h = absurd h

then_alike : (p : Packet) (f g : Passage → Option Passage) → ((m n : Passage) → AlikePassages p m n → AlikeVisits p (f m) (g n))
    → (x y : Option Passage) → AlikeVisits p x y → AlikeVisits p (option_and_then f x) (option_and_then g y)
then_alike p f g next (Some m) (Some n) h = next m n h
then_alike p f g next None None h = tt
then_alike p f g next _ _ h = absurd h

module _ (site : Site) (p q : Packet) (stay : StayAlike p q) where
  -- What rules do

  redirected_alike : (port : Option ℕ) (m n : Passage) → AlikePassages p m n
      → AlikePassages p (with_dst p (host_end (redirect_addr site p) port) m) (with_dst q (host_end (redirect_addr site q) port) n)
  redirected_alike port m n h =
      subst (λ x. AlikePassages p (with_dst p (host_end (redirect_addr site p) port) m) (with_dst q (host_end x port) n))
      (ap (λ x. cond (nat_eq x 0) loopback_addr (face_addr site x)) stay.entered.packet.entry) (stay.with_dst (host_end (redirect_addr site p) port) (transit_of m) (transit_of n) h)

  masqueraded_alike : (entry : Option ℕ) (m n : Passage) → AlikePassages p m n → AlikeEnds p (masqueraded site p entry m) (masqueraded site q entry n)
  masqueraded_alike None m n h = h
  masqueraded_alike (Some entry) m n h = stay.with_src (host_end (face_addr site entry) None) (transit_of m) (transit_of n) h

  module _ (is_est : Bool) (hook : Hook) where
    abbrev Follows : (Passage → ChainEnd) → (Passage → ChainEnd) → Type 0
    Follows f g = (m n : Passage) → AlikePassages p m n → AlikeEnds p (f m) (g n)

    act_alike : (enter other : ℕ → Passage → ChainEnd) → ((c : ℕ) → Follows (enter c) (other c)) → (f g : Passage → ChainEnd) → Follows f g
        → (go : IptGo) → Follows (act enter f site p hook go) (act other g site q hook go)
    act_alike enter other entered f g next Accept m n h = h
    act_alike enter other entered f g next Drop m n h = tt
    act_alike enter other entered f g next Return m n h = h
    act_alike enter other entered f g next Next m n h = next m n h
    act_alike enter other entered f g next (Jump c) m n h = back_alike p f g next (enter c m) (other c n) (entered c m n h)
    act_alike enter other entered f g next (Goto c) m n h = entered c m n h
    act_alike enter other entered f g next (Mark v) m n h = next _ _ (stay.with_only_tag v (transit_of m) (transit_of n) h)
    act_alike enter other entered f g next (Source e) m n h =
        chosen p (writes_src_at hook) (writes_src_at hook) _ (f m) _ (g n) refl (stay.with_src e (transit_of m) (transit_of n) h) (next m n h)
    act_alike enter other entered f g next Masquerade m n h =
        let same : sending site m.packet ≡ sending site n.packet = ap out_of (stay.exit site (transit_of m) (transit_of n) h) in
        let sent : AlikeEnds p (masqueraded site p (sending site m.packet) m) (masqueraded site q (sending site n.packet) n) =
        subst (λ o. AlikeEnds p (masqueraded site p (sending site m.packet) m) (masqueraded site q o n)) same (masqueraded_alike (sending site m.packet) m n h) in
        chosen p (masquerades_at hook) (masquerades_at hook) _ (f m) _ (g n) refl (back_alike p f g next _ _ sent) (next m n h)
    act_alike enter other entered f g next (Dest e) m n h =
        chosen p (writes_dst_at hook) (writes_dst_at hook) _ (f m) _ (g n) refl (stay.with_dst e (transit_of m) (transit_of n) h) (next m n h)
    act_alike enter other entered f g next (Redirect port) m n h =
        chosen p (writes_dst_at hook) (writes_dst_at hook) _ (f m) _ (g n) refl (redirected_alike port m n h) (next m n h)
    act_alike enter other entered f g next (Netmap net) m n h =
        chosen p (writes_dst_at hook) (writes_dst_at hook) _ _ _ _ refl (stay.with_dst (net_end net) (transit_of m) (transit_of n) h)
        (chosen p (writes_src_at hook) (writes_src_at hook) _ (f m) _ (g n) refl (stay.with_src (net_end net) (transit_of m) (transit_of n) h) (next m n h))

    rules_alike : (enter other : ℕ → Passage → ChainEnd) → ((c : ℕ) → Follows (enter c) (other c))
        → (rules : List IptRule) → Follows (rules_walk enter site p is_est hook rules) (rules_walk other site q is_est hook rules)
    rules_alike enter other entered [] m n h = h
    rules_alike enter other entered (r ∷ rs) m n h =
        let rest = rules_alike enter other entered rs in
        chosen p (holds r.cond (view_at site is_est hook m)) (holds r.cond (view_at site is_est hook n)) _ _ _ _
        (stay.holds site (shows_recv hook) (shows_xmit hook) false is_est r.cond (transit_of m) (transit_of n) h)
        (act_alike enter other entered (rules_walk enter site p is_est hook rs) (rules_walk other site q is_est hook rs) rest r.go m n h)
        (rest m n h)

    chain_alike : (chains : List IptChain) (steps : ℕ) (path : List ℕ) (c : ℕ)
        → Follows (chain_walk chains site p is_est hook steps path c) (chain_walk chains site q is_est hook steps path c)
    chain_alike chains zero path c m n h = tt
    chain_alike chains (suc steps) path c m n h =
        chosen p (list_any (nat_eq c) path) (list_any (nat_eq c) path) Dropped _ Dropped _ refl tt
        (rules_alike (chain_walk chains site p is_est hook steps (c ∷ path)) (chain_walk chains site q is_est hook steps (c ∷ path))
        (chain_alike chains steps (c ∷ path)) (rules_at chains c) m n h)

    builtin_alike : (chains : List IptChain) (c : Option ℕ) (m n : Passage) → AlikePassages p m n
        → AlikeVisits p (builtin_walk chains site p is_est hook c m) (builtin_walk chains site q is_est hook c n)
    builtin_alike chains None m n h = h
    builtin_alike chains (Some c) m n h = by_policy_alike p (policy_at chains c) _ _ (chain_alike chains (length chains) [] c m n h)

  -- What packets visit

  tracked_alike : (r s : Rec) → AlikeKinds p (Est r) (Est s) → (hook : Hook) (m n : Passage) → AlikePassages p m n
      → AlikePassages p (tracked_at r hook m) (tracked_at s hook n)
  tracked_alike r s k Prerouting m n h = stay.with_tracked_dst (Est r) (Est s) k (transit_of m) (transit_of n) h
  tracked_alike r s k Input m n h = stay.with_tracked_src (Est r) (Est s) k (transit_of m) (transit_of n) h
  tracked_alike r s k Forward m n h = h
  tracked_alike r s k Output m n h = stay.with_tracked_dst (Est r) (Est s) k (transit_of m) (transit_of n) h
  tracked_alike r s k Postrouting m n h = stay.with_tracked_src (Est r) (Est s) k (transit_of m) (transit_of n) h

  module _ (c : IptConfig) where
    visit_alike : (k l : Kind) → AlikeKinds p k l → (table : IptTable) (hook : Hook) (m n : Passage) → AlikePassages p m n
        → AlikeVisits p (visit c site p k table hook m) (visit c site q l table hook n)
    visit_alike New New same table hook m n h = builtin_alike false hook c.chains _ m n h
    visit_alike (Est r) (Est s) same Filter hook m n h = builtin_alike true hook c.chains _ m n h
    visit_alike (Est r) (Est s) same Nat hook m n h = tracked_alike r s same hook m n h
    visit_alike (Est r) (Est s) same Mangle hook m n h = builtin_alike true hook c.chains _ m n h
    visit_alike _ _ same table hook m n h = absurd same

    module _ (k l : Kind) (same : AlikeKinds p k l) where
      visits_alike : (stations : List (IptTable × Hook)) (m n : Passage) → AlikePassages p m n
          → AlikeVisits p (visits c site p k stations m) (visits c site q l stations n)
      visits_alike [] m n h = h
      visits_alike (at ∷ rest) m n h =
          then_alike p (visits c site p k rest) (visits c site q l rest) (visits_alike rest) _ _ (visit_alike k l same at.0 at.1 m n h)

      pub visiting_alike : (stations : List (IptTable × Hook)) → LeadAlike p (visiting c site stations p k) (visiting c site stations q l)
      visiting_alike stations t u h =
          visits_alike stations (passage_of t) (passage_of u)
          (record { packet = h.packet; tags = ap (λ tags. mark_of tags ∷ []) h.tags; verdict = refl; wrote = h.wrote; proto = h.proto })
