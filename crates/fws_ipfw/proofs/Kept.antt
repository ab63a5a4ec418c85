-- What holds of a new packet all along a pass, if it holds as the packet enters it and tags and instances keep it.
use Rattle.std.proofs.Common.{◌≡◌, ℕ, Bool, true, false, ◌++◌, not, nat_eq, nat_lt, Option, Some, None, filter, List, [], ◌∷◌, IfSome}
use Rattle.std.specs.List.{list_all}
use Rattle.std.specs.Option.{option_map_or}
use Rattle.std.proofs.lemmas.Bool.{cond_both}
use Rattle.fws_net.specs.declared.packet.Packet.{Packet}
use Rattle.fws_net.specs.declared.connection.Kind.TheVariants.{New}
use Rattle.fws_net.specs.declared.site.Site.{Site}
use Rattle.fws_net.specs.declared.transit.Transit.{Transit}
use Rattle.fws_net.specs.Conditions.{holds}
use Rattle.fws_net.specs.Transits.{has_tag}
use Rattle.fws_ipfw.specs.declared.config.IpfwAct.{IpfwAct}
use Rattle.fws_ipfw.specs.declared.config.IpfwAct.TheVariants.{Allow, Deny, Count, Skip, Check, Nat}
use Rattle.fws_ipfw.specs.declared.config.IpfwTag.{IpfwTag}
use Rattle.fws_ipfw.specs.declared.config.IpfwTag.TheVariants.{Nothing, Add, Remove}
use Rattle.fws_ipfw.specs.declared.config.IpfwRule.{IpfwRule}
use Rattle.fws_ipfw.specs.declared.config.IpfwConfig.{IpfwConfig}
use Rattle.fws_ipfw.specs.declared.config.IpfwNat.{IpfwNat}
use Rattle.fws_ipfw.specs.declared.pass.Pass.{Pass}
use Rattle.fws_ipfw.specs.declared.pass.Step.{Step}
use Rattle.fws_ipfw.specs.declared.pass.Step.TheVariants.{Accepted, Dropped, Onwards}
use Rattle.fws_ipfw.specs.Soundness.{nat_fits}
use Rattle.fws_ipfw.specs.Walk.{view_on, tracked_on, nat_numbered, translated_by, translated, ended, tagged, behind, step_of, stepped, rules_walk, pass_walk}
use Rattle.fws_ipfw.proofs.AlikeWalks.{numbered_fits}

-- how a pass goes on with a packet of which it holds
abbrev IfLeft : (Transit → Type 0) → Step → Type 0
IfLeft P (Accepted t) = P t
IfLeft P Dropped = Unit
IfLeft P (Onwards to m) = P m.transit

stepped_kept : (P : Transit → Type 0) (go : ℕ → Pass → Option Transit) → ((to : ℕ) (m : Pass) → P m.transit → IfSome (go to m) P) → (x : Step) → IfLeft P x → IfSome (stepped go x) P
stepped_kept P go next (Accepted t) h = h
stepped_kept P go next Dropped h = tt
stepped_kept P go next (Onwards to m) h = next to m h

module _ (c : IpfwConfig) (site : Site) (p : Packet) (fits : list_all nat_fits c.nats ≡ true) (P : Transit → Type 0) (outward : Bool)
    (tags_kept : (xs : List ℕ) (t : Transit) → P t → P (record t { tags = xs }))
    (nat_kept : (nat : IpfwNat) → nat_fits nat ≡ true → (t : Transit) → P t → P (translated_by p New outward nat t)) where
  tagged_kept : (tag : IpfwTag) (t : Transit) → P t → P (tagged tag t)
  tagged_kept Nothing t h = h
  tagged_kept (Add n) t h = cond_both (has_tag n t) t (record t { tags = t.tags ++ n ∷ [] }) P (λ e. h) (λ e. tags_kept (t.tags ++ n ∷ []) t h)
  tagged_kept (Remove n) t h = tags_kept (filter (λ tag. not (nat_eq n tag)) t.tags) t h

  -- a new packet has no end with which it leaves
  untracked : (on : Bool) (t : Transit) → P t → P (tracked_on New on t)
  untracked true t h = h
  untracked false t h = h

  ended_kept : (m : Pass) → P m.transit → P (ended New outward m)
  ended_kept m h = cond_both m.translated m.transit (tracked_on New outward m.transit) P (λ e. h) (λ e. untracked outward m.transit h)

  by_some : (nat : Option IpfwNat) → IfSome nat (λ found. nat_fits found ≡ true) → (t : Transit) → P t → P (option_map_or (λ found. translated_by p New outward found t) nat t)
  by_some None fit t h = h
  by_some (Some nat) fit t h = nat_kept nat fit t h

  translated_kept : (nat : Option IpfwNat) → IfSome nat (λ found. nat_fits found ≡ true) → (m : Pass) → P m.transit → P (translated p New outward nat m).transit
  translated_kept nat fit m h =
      let moved : Pass = record { transit = option_map_or (λ found. translated_by p New outward found m.transit) nat m.transit; translated = true } in
      cond_both m.translated m moved (λ n. P n.transit) (λ e. h) (λ e. by_some nat fit m.transit h)

  behind_kept : (ends : Bool) (m : Pass) → P m.transit → IfLeft P (behind ends m)
  behind_kept true m h = h
  behind_kept false m h = h

  step_kept : (act : IpfwAct) (m : Pass) → P m.transit → IfLeft P (step_of c site p New outward act m)
  step_kept Allow m h = ended_kept m h
  step_kept Deny m h = tt
  step_kept Count m h = h
  step_kept (Skip to) m h = h
  step_kept Check m h = h
  step_kept (Nat number) m h = behind_kept site.one_pass _ (translated_kept (nat_numbered number c.nats) (numbered_fits number c.nats fits) m h)

  rules_kept : (rules : List IpfwRule) (to : ℕ) (m : Pass) → P m.transit → IfSome (rules_walk c site p New outward rules to m) P
  rules_kept [] to m h = tt
  rules_kept (r ∷ rs) to m h =
      cond_both (nat_lt r.number to) (rules_walk c site p New outward rs to m) _ (λ way. IfSome way P) (λ e. rules_kept rs to m h)
      (λ e. cond_both (holds r.cond (view_on site New outward m.transit)) _ (rules_walk c site p New outward rs 0 m) (λ way. IfSome way P)
      (λ on. stepped_kept P (rules_walk c site p New outward rs) (rules_kept rs) _ (step_kept r.act _ (tagged_kept r.tag m.transit h)))
      (λ off. rules_kept rs 0 m h))

  pub pass_kept : (t : Transit) → P t → IfSome (pass_walk c site p New outward t) P
  pass_kept t h = rules_kept c.rules 0 (record { transit = t; translated = false }) h
