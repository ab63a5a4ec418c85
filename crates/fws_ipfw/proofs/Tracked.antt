-- Established packets come to routing with the destination with which they leave.
use Rattle.std.proofs.Common.{◌≡◌, ℕ, Bool, true, false, ◌&&◌, ◌++◌, nat_lt, nat_le, nat_eq, Option, Some, None, is_some, List, [], ◌∷◌, IfSome, refl}
use Rattle.std.specs.List.{list_all}
use Rattle.std.specs.Option.{option_map_or}
use Rattle.std.proofs.lemmas.Bool.{false≢true, and_parts, cond_both}
use Rattle.fws_net.specs.declared.packet.Packet.{Packet}
use Rattle.fws_net.specs.declared.connection.Rec.{Rec}
use Rattle.fws_net.specs.declared.connection.Kind.TheVariants.{Est}
use Rattle.fws_net.specs.declared.site.Site.{Site}
use Rattle.fws_net.specs.declared.transit.Transit.{Transit}
use Rattle.fws_net.specs.Conditions.{holds}
use Rattle.fws_net.specs.Transits.{has_tag, with_tracked_dst}
use Rattle.fws_ipfw.specs.declared.config.IpfwAct.{IpfwAct}
use Rattle.fws_ipfw.specs.declared.config.IpfwAct.TheVariants.{Allow, Deny, Count, Skip, Check, Nat}
use Rattle.fws_ipfw.specs.declared.config.IpfwTag.{IpfwTag}
use Rattle.fws_ipfw.specs.declared.config.IpfwTag.TheVariants.{Nothing, Add, Remove}
use Rattle.fws_ipfw.specs.declared.config.IpfwRule.{IpfwRule}
use Rattle.fws_ipfw.specs.declared.config.IpfwConfig.{IpfwConfig}
use Rattle.fws_ipfw.specs.declared.config.IpfwNat.{IpfwNat}
use Rattle.fws_ipfw.specs.declared.pass.Pass.{Pass}
use Rattle.fws_ipfw.specs.declared.pass.Step.{Step}
use Rattle.fws_ipfw.specs.declared.pass.Step.TheVariants.{Accepted, Dropped, Onwards}
use Rattle.fws_ipfw.specs.Soundness.{act_fits, rule_fits}
use Rattle.fws_ipfw.specs.Walk.{view_on, nat_numbered, translated_by, translated, ended, tagged, behind, step_of, stepped, rules_walk, pass_walk}
use Rattle.fws_ipfw.proofs.Lists.{found_any}

module _ (c : IpfwConfig) (site : Site) (p : Packet) (r : Rec) where
  abbrev Tracked : Transit → Type 0
  Tracked t = t.packet.dst ≡ r.rdst

  -- a translated packet has the destination with which it leaves
  abbrev IsTracked : Pass → Type 0
  IsTracked m = m.translated ≡ true → Tracked m.transit

  abbrev StepTracked : Step → Type 0
  StepTracked (Accepted t) = Tracked t
  StepTracked Dropped = Unit
  StepTracked (Onwards to m) = IsTracked m

  stepped_tracked : (go : ℕ → Pass → Option Transit) → ((to : ℕ) (m : Pass) → IsTracked m → IfSome (go to m) Tracked) → (x : Step) → StepTracked x → IfSome (stepped go x) Tracked
  stepped_tracked go next (Accepted t) h = h
  stepped_tracked go next Dropped h = tt
  stepped_tracked go next (Onwards to m) h = next to m h

  ended_tracked : (m : Pass) → IsTracked m → Tracked (ended (Est r) false m)
  ended_tracked m h = cond_both m.translated m.transit (with_tracked_dst (Est r) m.transit) Tracked h (λ e. refl)

  tagged_same : (tag : IpfwTag) (t : Transit) → Tracked t → Tracked (tagged tag t)
  tagged_same Nothing t h = h
  tagged_same (Add n) t h = cond_both (has_tag n t) t (record t { tags = t.tags ++ n ∷ [] }) Tracked (λ e. h) (λ e. h)
  tagged_same (Remove n) t h = h

  by_some : (nat : Option IpfwNat) → is_some nat ≡ true → (t : Transit) → Tracked (option_map_or (λ found. translated_by p (Est r) false found t) nat t)
  by_some None there t = absurd (false≢true there)
  by_some (Some nat) there t = refl

  translated_tracked : (nat : Option IpfwNat) → is_some nat ≡ true → (m : Pass) → IsTracked m → Tracked (translated p (Est r) false nat m).transit
  translated_tracked nat there m h =
      let moved : Pass = record { transit = option_map_or (λ found. translated_by p (Est r) false found m.transit) nat m.transit; translated = true } in
      cond_both m.translated m moved (λ n. Tracked n.transit) h (λ e. by_some nat there m.transit)

  behind_tracked : (ends : Bool) (m : Pass) → Tracked m.transit → StepTracked (behind ends m)
  behind_tracked true m h = h
  behind_tracked false m h = λ e. h

  step_tracked : (number : ℕ) (act : IpfwAct) → act_fits c.nats number act ≡ true → (m : Pass) → IsTracked m → StepTracked (step_of c site p (Est r) false act m)
  step_tracked number Allow fit m h = ended_tracked m h
  step_tracked number Deny fit m h = tt
  step_tracked number Count fit m h = h
  step_tracked number (Skip to) fit m h = h
  step_tracked number Check fit m h = ended_tracked m h
  step_tracked number (Nat n) fit m h =
      behind_tracked site.one_pass _ (translated_tracked (nat_numbered n c.nats) (found_any (λ nat. nat_eq nat.number n) c.nats fit) m h)

  act_of_fits : (rule : IpfwRule) → rule_fits c.nats rule ≡ true → act_fits c.nats rule.number rule.act ≡ true
  act_of_fits rule fit =
      (and_parts (nat_lt 0 rule.number && nat_le rule.number 65534) (act_fits c.nats rule.number rule.act)
      (and_parts _ _ (and_parts _ _ (and_parts _ _ fit).0).0).0).1

  rules_tracked : (rules : List IpfwRule) → list_all (rule_fits c.nats) rules ≡ true → (to : ℕ) (m : Pass) → IsTracked m
      → IfSome (rules_walk c site p (Est r) false rules to m) Tracked
  rules_tracked [] all to m h = tt
  rules_tracked (rule ∷ rules) all to m h =
      let both = and_parts (rule_fits c.nats rule) (list_all (rule_fits c.nats) rules) all in
      let go = rules_walk c site p (Est r) false rules in
      cond_both (nat_lt rule.number to) (go to m) _ (λ way. IfSome way Tracked) (λ e. rules_tracked rules both.1 to m h)
      (λ e. cond_both rule.keep (Some (ended (Est r) false m)) _ (λ way. IfSome way Tracked) (λ on. ended_tracked m h)
      (λ off. cond_both (holds rule.cond (view_on site (Est r) false m.transit)) _ (go 0 m) (λ way. IfSome way Tracked)
      (λ on. stepped_tracked go (rules_tracked rules both.1) _
      (step_tracked rule.number rule.act (act_of_fits rule both.0) _ (λ once. tagged_same rule.tag m.transit (h once))))
      (λ on. rules_tracked rules both.1 0 m h)))

  -- what comes to routing has the destination with which it leaves
  pub arrived_tracked : list_all (rule_fits c.nats) c.rules ≡ true → (t : Transit) → IfSome (pass_walk c site p (Est r) false t) Tracked
  arrived_tracked all t = rules_tracked c.rules all 0 (record { transit = t; translated = false }) (λ never. absurd (false≢true never))
