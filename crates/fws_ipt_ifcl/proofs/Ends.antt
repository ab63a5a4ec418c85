-- What the rules of nat write, as they stand in the diagram.
use Rattle.std.proofs.Common.{◌≡◌, ℕ, ◌+◌, ◌≤◌, Bool, true, false, cond, ◌&&◌, not, nat_eq, Option, Some, None, is_some, List, [], ◌∷◌, ◌++◌, length, arith, refl, sym, ap, ◌∙◌, subst}
use Rattle.std.proofs.lemmas.Bool.{false≢true, eqb-false}
use Rattle.std.specs.Option.{option_map_or}
use Rattle.fws_num.specs.declared.prefix.Prefix.{Prefix}
use Rattle.fws_net.specs.declared.condition.Test.TheVariants.{Recv, Xmit, Outward}
use Rattle.fws_net.specs.declared.connection.Kind.TheVariants.{New}
use Rattle.fws_net.specs.declared.exit.Exit.TheVariants.{Deliver, Out, Lost}
use Rattle.fws_net.specs.declared.outcome.End.{End}
use Rattle.fws_net.specs.declared.packet.Packet.{Packet}
use Rattle.fws_net.specs.declared.site.Site.{Site}
use Rattle.fws_net.specs.declared.transit.Transit.{Transit}
use Rattle.fws_net.specs.Conditions.{holds, is_shown}
use Rattle.fws_net.specs.Ends.{host_end}
use Rattle.fws_net.specs.Faces.{face_addr, loopback_addr}
use Rattle.fws_net.specs.Routes.{IsSound, is_local, route_of}
use Rattle.fws_net.specs.RouteLaws.{RoutesAreEntries}
use Rattle.fws_net.specs.Showing.{receiving, out_of, sending}
use Rattle.fws_net.specs.Transits.{with_src as writes_src}
use Rattle.fws_ifcl.specs.declared.diagram.Act.{Act}
use Rattle.fws_ifcl.specs.declared.diagram.Act.TheVariants.{Src, Dst}
use Rattle.fws_ifcl.specs.declared.diagram.Rule.{Rule}
use Rattle.fws_ifcl.specs.declared.diagram.Stage.{Stage}
use Rattle.fws_ifcl.specs.declared.step.ChainEnd.{ChainEnd}
use Rattle.fws_ifcl.specs.declared.step.ChainEnd.TheVariants.{Accepted}
use Rattle.fws_ifcl.specs.Walk.{sees}
use Rattle.fws_rules.specs.Literals.{one, positive, negative}
use Rattle.fws_ifcl_rules.specs.Rules.{ruled, always}
use Rattle.fws_ipt.specs.declared.config.IptTable.TheVariants.{Nat}
use Rattle.fws_ipt.specs.declared.hook.Hook.{Hook}
use Rattle.fws_ipt.specs.declared.hook.Hook.TheVariants.{Prerouting, Input, Forward, Output, Postrouting}
use Rattle.fws_ipt.specs.declared.passage.Passage.{Passage}
use Rattle.fws_ipt.specs.declared.passage.ChainEnd.{ChainEnd as IptEnd}
use Rattle.fws_ipt.specs.declared.passage.ChainEnd.TheVariants as ends
use Rattle.fws_rules.specs.Networks.{net_end}
use Rattle.fws_ipt.specs.Walk.{with_src, with_dst, writes_dst_at, writes_src_at, masquerades_at, redirect_addr, masqueraded, back}
use Rattle.fws_ipt_ifcl.specs.Blocks.{all_entries, by_entry, masquerading, redirecting, mapping}
use Rattle.fws_ipt_ifcl.proofs.Guarding.{written_by}
use Rattle.fws_ipt_ifcl.proofs.Scenes.{shown, shown_end, met, is_place}
use Rattle.fws_ipt_ifcl.proofs.Standing.{Stands}
use Rattle.fws_ipt_ifcl.proofs.Writes.{between, apart, entries_hit, entries_missed}

-- Sending interfaces

abbrev pub IsEntry : Site → ℕ → Type 0
IsEntry site e = (1 ≤ e) × (e ≤ length site.faces + 1)

same_some : (x e : ℕ) → Some x ≡ Some e → x ≡ e
same_some x e is = ap (λ o. option_map_or (λ y. y) o 0) is

none_some : (e : ℕ) → None ≡ Some e → ⊥
none_some e is = false≢true (ap is_some is)

entry_of : (site : Site) (a b c : Bool) (r e : ℕ) → IsEntry site r
    → out_of (cond a (cond b (Out 1) (Out r)) (cond b Deliver (cond c (Out r) Lost))) ≡ Some e → IsEntry site e
entry_of site true true c r e (low, high) is = subst (IsEntry site) (same_some 1 e is) (omega arith, omega arith)
entry_of site true false c r e within is = subst (IsEntry site) (same_some r e is) within
entry_of site false true c r e within is = absurd (none_some e is)
entry_of site false false true r e within is = subst (IsEntry site) (same_some r e is) within
entry_of site false false false r e within is = absurd (none_some e is)

pub sent_within : (site : Site) → IsSound site → RoutesAreEntries → (p : Packet) (e : ℕ) → sending site p ≡ Some e → IsEntry site e
sent_within site sound entries p e is =
    let route : (2 ≤ route_of site p.dst) × (route_of site p.dst ≤ length site.faces + 1) = entries site p.dst sound in
    let low : 1 ≤ route_of site p.dst = omega (arith, route.0) in
    entry_of site (nat_eq p.entry 0) (is_local site p.dst) site.forwarding (route_of site p.dst) e (low, route.1) is

-- rules that write, one list behind another
written_both : (site : Site) (p : Packet) (stage : Stage) (rules more : List Rule) (t : Transit)
    → written_by site p New stage (rules ++ more) t ≡ written_by site p New stage more (written_by site p New stage rules t)
written_both site p stage [] more t = refl
written_both site p stage (r ∷ rs) more t = written_both site p stage rs more _

-- what is sent by an interface is so where its source is written
pub still_sent : (site : Site) (p : Packet) (m : Passage) → Stands New p m → (x : ℕ) → sending site m.packet ≡ Some x
    → sending site (with_src p (host_end (face_addr site x) None) m).packet ≡ Some x
still_sent site p m stands x sent = ap (sending site) (sym stands) ∙ sent

module _ (site : Site) (sound : IsSound site) (entries : RoutesAreEntries) (p : Packet) (n : ℕ) (accepts : Bool) where
  abbrev there : Hook → Stage
  there hook = met n accepts Nat hook

  -- SNAT
  pub source_met : (hook : Hook) (e : End) (m : Passage) (rest : ChainEnd) (next : IptEnd) → rest ≡ shown_end accepts next
      → cond (holds (positive Outward ∷ []) (sees site New (there hook) (shown accepts m))) (Accepted (writes_src p e (shown accepts m))) rest
      ≡ shown_end accepts (cond (writes_src_at hook) (ends.Accepted (with_src p e m)) next)
  source_met Prerouting e m rest next on = on
  source_met Input e m rest next on = refl
  source_met Forward e m rest next on = on
  source_met Output e m rest next on = on
  source_met Postrouting e m rest next on = refl

  -- DNAT, and REDIRECT by its address
  pub dest_met : (hook : Hook) → is_place Nat hook ≡ true → (m : Passage) (made : Transit) (end : End) (rest : ChainEnd) (next : IptEnd)
      → (writes_dst_at hook ≡ true → made ≡ shown accepts (with_dst p end m)) → rest ≡ shown_end accepts next
      → cond (holds (negative Outward ∷ []) (sees site New (there hook) (shown accepts m))) (Accepted made) rest
      ≡ shown_end accepts (cond (writes_dst_at hook) (ends.Accepted (with_dst p end m)) next)
  dest_met Prerouting is m made end rest next here on = ap Accepted (here refl)
  dest_met Input is m made end rest next here on = on
  dest_met Forward is m made end rest next here on = absurd (false≢true is)
  dest_met Output is m made end rest next here on = ap Accepted (here refl)
  dest_met Postrouting is m made end rest next here on = on

  -- NETMAP
  pub netmap_met : (hook : Hook) → is_place Nat hook ≡ true → (on_source : Bool) → on_source ≡ writes_src_at hook → (net : Prefix) (m : Passage) (next : IptEnd)
      → Accepted (written_by site p New (there hook) (always (mapping on_source net) ∷ []) (shown accepts m))
      ≡ shown_end accepts (cond (writes_dst_at hook) (ends.Accepted (with_dst p (net_end net) m))
      (cond (writes_src_at hook) (ends.Accepted (with_src p (net_end net) m)) next))
  netmap_met Prerouting is on_source side net m next =
      ap (λ s. Accepted (written_by site p New (there Prerouting) (always (mapping s net) ∷ []) (shown accepts m))) side
  netmap_met Input is on_source side net m next =
      ap (λ s. Accepted (written_by site p New (there Input) (always (mapping s net) ∷ []) (shown accepts m))) side
  netmap_met Forward is on_source side net m next = absurd (false≢true is)
  netmap_met Output is on_source side net m next =
      ap (λ s. Accepted (written_by site p New (there Output) (always (mapping s net) ∷ []) (shown accepts m))) side
  netmap_met Postrouting is on_source side net m next =
      ap (λ s. Accepted (written_by site p New (there Postrouting) (always (mapping s net) ∷ []) (shown accepts m))) side

  -- MASQUERADE

  -- the rules for entries, where no sending interface is shown
  pub masquerade_none : (hook : Hook) (m : Passage) → (sees site New (there hook) (shown accepts m)).xmit ≡ None
      → written_by site p New (there hook) (masquerading site) (shown accepts m) ≡ shown accepts m
  masquerade_none hook m none =
      let act : ℕ → Act = λ entry. Src (host_end (face_addr site entry) None) in
      entries_missed site p New (there hook) Xmit act 1 (length site.faces + 1) (shown accepts m) (λ e le. ap (λ o. is_shown o (one e e) && true) none)

  -- and where one is
  pub masquerade_writes : (m : Passage) → Stands New p m → (x : ℕ) → sending site m.packet ≡ Some x → IsEntry site x
      → written_by site p New (there Postrouting) (masquerading site) (shown accepts m) ≡ shown accepts (with_src p (host_end (face_addr site x) None) m)
  masquerade_writes m stands x sent (low, high) =
      let act : ℕ → Act = λ entry. Src (host_end (face_addr site entry) None) in
      let still : sending site (with_src p (host_end (face_addr site x) None) m).packet ≡ Some x = still_sent site p m stands x sent in
      entries_hit site p New (there Postrouting) Xmit act x 1 (length site.faces + 1) (shown accepts m) low (omega (arith, high))
      (ap (λ o. is_shown o (one x x) && true) sent ∙ ap (λ b. b && true) (between x x x (omega arith) (omega arith)))
      (λ e other. ap (λ o. is_shown o (one e e) && true) sent ∙ ap (λ b. b && true) (apart e x other))
      (λ e other. ap (λ o. is_shown o (one e e) && true) still ∙ ap (λ b. b && true) (apart e x other))

  leaving_met : (m : Passage) → Stands New p m → (o : Option ℕ) → sending site m.packet ≡ o
      → (rest : ChainEnd) (next : Passage → IptEnd) → rest ≡ shown_end accepts (next m)
      → cond (is_shown o (all_entries site) && true) (Accepted (written_by site p New (there Postrouting) (masquerading site) (shown accepts m))) rest
      ≡ shown_end accepts (back next (masqueraded site p o m))
  leaving_met m stands None sent rest next on = on
  leaving_met m stands (Some x) sent rest next on =
      let within = sent_within site sound entries m.packet x sent in
      ap (λ b. cond (b && true) (Accepted (written_by site p New (there Postrouting) (masquerading site) (shown accepts m))) rest) (between 1 (length site.faces + 1) x within.0 within.1)
      ∙ ap Accepted (masquerade_writes m stands x sent within)

  pub masquerade_met : (hook : Hook) (m : Passage) → Stands New p m → (rest : ChainEnd) (next : Passage → IptEnd) → rest ≡ shown_end accepts (next m)
      → cond (holds (positive Outward ∷ positive (Xmit (all_entries site)) ∷ []) (sees site New (there hook) (shown accepts m)))
      (Accepted (written_by site p New (there hook) (masquerading site) (shown accepts m))) rest
      ≡ shown_end accepts (cond (masquerades_at hook) (back next (masqueraded site p (sending site m.packet) m)) (next m))
  masquerade_met Prerouting m stands rest next on = on
  masquerade_met Input m stands rest next on = on
  masquerade_met Forward m stands rest next on = on
  masquerade_met Output m stands rest next on = on
  masquerade_met Postrouting m stands rest next on = leaving_met m stands (sending site m.packet) refl rest next on

  -- REDIRECT

  -- no receiving interface is shown
  redirect_host : (hook : Hook) (port : Option ℕ) (m : Passage) → (sees site New (there hook) (shown accepts m)).recv ≡ None
      → written_by site p New (there hook) (redirecting site port) (shown accepts m) ≡ shown accepts (with_dst p (host_end loopback_addr port) m)
  redirect_host hook port m none =
      let act : ℕ → Act = λ entry. Dst (host_end (face_addr site entry) port) in
      let last : Rule = ruled (negative (Recv (all_entries site)) ∷ []) (Dst (host_end loopback_addr port)) in
      written_both site p (there hook) (by_entry Recv act 1 (length site.faces + 1)) (last ∷ []) (shown accepts m)
      ∙ ap (written_by site p New (there hook) (last ∷ []))
      (entries_missed site p New (there hook) Recv act 1 (length site.faces + 1) (shown accepts m) (λ e le. ap (λ o. is_shown o (one e e) && true) none))
      ∙ ap (λ o. cond (not (is_shown o (all_entries site)) && true) (shown accepts (with_dst p (host_end loopback_addr port) m)) (shown accepts m)) none

  -- one is, and stays where the destination is written
  redirect_entry : (hook : Hook) (port : Option ℕ) (m : Passage) (x : ℕ) → IsEntry site x → (sees site New (there hook) (shown accepts m)).recv ≡ Some x
      → (sees site New (there hook) (shown accepts (with_dst p (host_end (face_addr site x) port) m))).recv ≡ Some x
      → written_by site p New (there hook) (redirecting site port) (shown accepts m) ≡ shown accepts (with_dst p (host_end (face_addr site x) port) m)
  redirect_entry hook port m x (low, high) came still =
      let act : ℕ → Act = λ entry. Dst (host_end (face_addr site entry) port) in
      let last : Rule = ruled (negative (Recv (all_entries site)) ∷ []) (Dst (host_end loopback_addr port)) in
      let made = with_dst p (host_end (face_addr site x) port) m in
      written_both site p (there hook) (by_entry Recv act 1 (length site.faces + 1)) (last ∷ []) (shown accepts m)
      ∙ ap (written_by site p New (there hook) (last ∷ []))
      (entries_hit site p New (there hook) Recv act x 1 (length site.faces + 1) (shown accepts m) low (omega (arith, high))
      (ap (λ o. is_shown o (one x x) && true) came ∙ ap (λ b. b && true) (between x x x (omega arith) (omega arith)))
      (λ e other. ap (λ o. is_shown o (one e e) && true) came ∙ ap (λ b. b && true) (apart e x other))
      (λ e other. ap (λ o. is_shown o (one e e) && true) still ∙ ap (λ b. b && true) (apart e x other)))
      ∙ ap (λ o. cond (not (is_shown o (all_entries site)) && true) (shown accepts (with_dst p (host_end loopback_addr port) made)) (shown accepts made)) still
      ∙ ap (λ b. cond (not b && true) (shown accepts (with_dst p (host_end loopback_addr port) made)) (shown accepts made)) (between 1 (length site.faces + 1) x low high)

  -- an arriving packet
  redirect_arriving : (port : Option ℕ) (m : Passage) → Stands New p m → p.entry ≤ length site.faces + 1 → (b : Bool) → nat_eq p.entry 0 ≡ b
      → written_by site p New (there Prerouting) (redirecting site port) (shown accepts m)
      ≡ shown accepts (with_dst p (host_end (cond b loopback_addr (face_addr site p.entry)) port) m)
  redirect_arriving port m stands of_site true is =
      redirect_host Prerouting port m (ap receiving stands ∙ ap (λ b. cond b None (Some p.entry)) is)
  redirect_arriving port m stands of_site false is =
      let some : p.entry ≡ 0 → ⊥ = eqb-false p.entry 0 is in
      let low : 1 ≤ p.entry = omega (arith, some) in
      redirect_entry Prerouting port m p.entry (low, of_site)
      (ap receiving stands ∙ ap (λ b. cond b None (Some p.entry)) is) (ap (λ b. cond b None (Some p.entry)) is)

  pub redirect_met : (hook : Hook) (port : Option ℕ) (m : Passage) → Stands New p m → p.entry ≤ length site.faces + 1
      → (hook ≡ Output → nat_eq p.entry 0 ≡ true) → writes_dst_at hook ≡ true
      → written_by site p New (there hook) (redirecting site port) (shown accepts m) ≡ shown accepts (with_dst p (host_end (redirect_addr site p) port) m)
  redirect_met Prerouting port m stands of_site own is = redirect_arriving port m stands of_site (nat_eq p.entry 0) refl
  redirect_met Input port m stands of_site own is = absurd (false≢true is)
  redirect_met Forward port m stands of_site own is = absurd (false≢true is)
  redirect_met Output port m stands of_site own is =
      redirect_host Output port m refl
      ∙ ap (λ b. shown accepts (with_dst p (host_end (cond b loopback_addr (face_addr site p.entry)) port) m)) (sym (own refl))
  redirect_met Postrouting port m stands of_site own is = absurd (false≢true is)
