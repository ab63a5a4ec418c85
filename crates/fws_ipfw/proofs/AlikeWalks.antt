-- Packets that entered alike pass alike.
use Rattle.std.proofs.Common.{◌≡◌, ℕ, Bool, true, false, ◌&&◌, cond, nat_eq, nat_lt, nat_le, Option, Some, None, List, [], ◌∷◌, IfSome, refl, ap, ◌∙◌, subst}
use Rattle.std.specs.List.{list_all}
use Rattle.std.specs.Option.{option_map_or}
use Rattle.std.proofs.lemmas.Bool.{true≢false, false≢true, and_parts, cond_both}
use Rattle.fws_net.specs.declared.packet.Packet.{Packet}
use Rattle.fws_net.specs.declared.condition.Lit.{Lit}
use Rattle.fws_net.specs.declared.connection.Kind.{Kind}
use Rattle.fws_net.specs.declared.connection.Kind.TheVariants.{New, Est}
use Rattle.fws_net.specs.declared.site.Site.{Site}
use Rattle.fws_net.specs.declared.transit.Transit.{Transit}
use Rattle.fws_net.specs.Conditions.{holds}
use Rattle.fws_net.specs.Connections.{is_est}
use Rattle.fws_net.specs.Ends.{host_end}
use Rattle.fws_net.specs.Transits.{seen, with_src, with_dst}
use Rattle.fws_rules.specs.AlikeWays.{AlikeKinds, AlikeTransits, AlikeWays, MakeAlike, LeadAlike, StayAlike}
use Rattle.fws_ipfw.specs.declared.config.IpfwAct.{IpfwAct}
use Rattle.fws_ipfw.specs.declared.config.IpfwAct.TheVariants.{Allow, Deny, Count, Skip, Check, Nat}
use Rattle.fws_ipfw.specs.declared.config.IpfwTag.{IpfwTag}
use Rattle.fws_ipfw.specs.declared.config.IpfwTag.TheVariants.{Nothing, Add, Remove}
use Rattle.fws_ipfw.specs.declared.config.IpfwRule.{IpfwRule}
use Rattle.fws_ipfw.specs.declared.config.IpfwConfig.{IpfwConfig}
use Rattle.fws_ipfw.specs.declared.config.IpfwNat.{IpfwNat}
use Rattle.fws_ipfw.specs.declared.config.Redirect.{Redirect}
use Rattle.fws_ipfw.specs.declared.pass.Pass.{Pass}
use Rattle.fws_ipfw.specs.declared.pass.Step.{Step}
use Rattle.fws_ipfw.specs.declared.pass.Step.TheVariants.{Accepted, Dropped, Onwards}
use Rattle.fws_ipfw.specs.Soundness.{redirect_fits, nat_fits}
use Rattle.fws_ipfw.specs.Walk.{view_on, redirect_in, redirect_out, translated_in, translated_out, tracked_on, nat_numbered, translated_by, translated, ended, tagged, checked, behind, step_of, stepped, rules_walk, pass_walk}
use Rattle.fws_ipfw.proofs.Redirects.{in_alike, out_alike}

record AlikePasses (p : Packet) (m n : Pass) : Type 0 where
  transit : AlikeTransits p m.transit n.transit
  once : m.translated ≡ n.translated

abbrev AlikeSteps : Packet → Step → Step → Type 0
AlikeSteps p (Accepted t) (Accepted u) = AlikeTransits p t u
AlikeSteps p Dropped Dropped = Unit
AlikeSteps p (Onwards x m) (Onwards y n) = (x ≡ y) × AlikePasses p m n
AlikeSteps p _ _ = ⊥

-- a relation of two choices by tests that agree
both_chosen : {X : Type 0} (R : X → X → Type 0) (b d : Bool) (x y v w : X) → b ≡ d → R x v → R y w → R (cond b x y) (cond d v w)
both_chosen R true true x y v w e h k = h
both_chosen R false false x y v w e h k = k
both_chosen R true false x y v w e h k = absurd (true≢false e)
both_chosen R false true x y v w e h k = absurd (false≢true e)

stepped_alike : (p : Packet) (f g : ℕ → Pass → Option Transit) → ((to : ℕ) (m n : Pass) → AlikePasses p m n → AlikeWays p (f to m) (g to n))
    → (x y : Step) → AlikeSteps p x y → AlikeWays p (stepped f x) (stepped g y)
stepped_alike p f g next (Accepted t) (Accepted u) h = h
stepped_alike p f g next Dropped Dropped h = tt
stepped_alike p f g next (Onwards x m) (Onwards y n) h = subst (λ to. AlikeWays p (f x m) (g to n)) h.0 (next x m n h.1)
stepped_alike p f g next _ _ h = absurd h

est_alike : (p : Packet) (k l : Kind) → AlikeKinds p k l → is_est k ≡ is_est l
est_alike p New New same = refl
est_alike p (Est r) (Est s) same = refl
est_alike p _ _ same = absurd same

pub numbered_fits : (n : ℕ) (nats : List IpfwNat) → list_all nat_fits nats ≡ true → IfSome (nat_numbered n nats) (λ nat. nat_fits nat ≡ true)
numbered_fits n [] all = tt
numbered_fits n (nat ∷ nats) all =
    let both = and_parts (nat_fits nat) (list_all nat_fits nats) all in
    cond_both (nat_eq nat.number n) (Some nat) (nat_numbered n nats) (λ o. IfSome o (λ found. nat_fits found ≡ true)) (λ e. both.0) (λ e. numbered_fits n nats both.1)

pub redirects_fit : (nat : IpfwNat) → nat_fits nat ≡ true → list_all redirect_fits nat.redirects ≡ true
redirects_fit nat h = (and_parts (nat_lt 0 nat.number && nat_le nat.number 65535) (list_all redirect_fits nat.redirects) h).1

module _ (p q : Packet) (stay : StayAlike p q) where
  tagged_alike : (tag : IpfwTag) → MakeAlike p (tagged tag) (tagged tag)
  tagged_alike Nothing t u h = h
  tagged_alike (Add n) t u h = stay.with_tag n t u h
  tagged_alike (Remove n) t u h = stay.without_tag n t u h

  -- Established packets

  tracked_alike : (k l : Kind) → AlikeKinds p k l → (outward : Bool) → MakeAlike p (tracked_on k outward) (tracked_on l outward)
  tracked_alike k l same true t u h = stay.with_tracked_src k l same t u h
  tracked_alike k l same false t u h = stay.with_tracked_dst k l same t u h

  ended_alike : (k l : Kind) → AlikeKinds p k l → (outward : Bool) (m n : Pass) → AlikePasses p m n → AlikeTransits p (ended k outward m) (ended l outward n)
  ended_alike k l same outward m n h =
      both_chosen (AlikeTransits p) m.translated n.translated m.transit (tracked_on k outward m.transit) n.transit (tracked_on l outward n.transit) h.once h.transit
      (tracked_alike k l same outward m.transit n.transit h.transit)

  -- Translation

  moved_in : (o : Option Redirect) (t u : Transit) → AlikeTransits p t u
      → AlikeTransits p (option_map_or (λ r. with_dst p r.local t) o t) (option_map_or (λ r. with_dst q r.local u) o u)
  moved_in None t u h = h
  moved_in (Some r) t u h = stay.with_dst r.local t u h

  translated_in_alike : (nat : IpfwNat) → nat_fits nat ≡ true → MakeAlike p (translated_in nat p) (translated_in nat q)
  translated_in_alike nat fits t u h =
      subst (λ o. AlikeTransits p (translated_in nat p t) (option_map_or (λ r. with_dst q r.local u) o u))
      (in_alike t.packet u.packet h.packet nat.redirects (redirects_fit nat fits)) (moved_in (redirect_in nat.redirects t.packet) t u h)

  translated_out_alike : (nat : IpfwNat) → nat_fits nat ≡ true → MakeAlike p (translated_out nat p) (translated_out nat q)
  translated_out_alike nat fits t u h =
      subst (λ o. AlikeTransits p (translated_out nat p t) (with_src q (option_map_or (λ r. r.public) o (host_end nat.alias None)) u))
      (out_alike t.packet u.packet h.packet nat.redirects (redirects_fit nat fits))
      (stay.with_src (option_map_or (λ r. r.public) (redirect_out nat.redirects t.packet) (host_end nat.alias None)) t u h)

  translated_by_alike : (k l : Kind) → AlikeKinds p k l → (outward : Bool) (nat : IpfwNat) → nat_fits nat ≡ true
      → MakeAlike p (translated_by p k outward nat) (translated_by q l outward nat)
  translated_by_alike New New same true nat fits t u h = translated_out_alike nat fits t u h
  translated_by_alike New New same false nat fits t u h = translated_in_alike nat fits t u h
  translated_by_alike (Est r) (Est s) same outward nat fits t u h = tracked_alike (Est r) (Est s) same outward t u h
  translated_by_alike _ _ same outward nat fits t u h = absurd same

  module _ (k l : Kind) (same : AlikeKinds p k l) where
    by_some : (outward : Bool) (nat : Option IpfwNat) → IfSome nat (λ found. nat_fits found ≡ true) → (t u : Transit) → AlikeTransits p t u
        → AlikeTransits p (option_map_or (λ found. translated_by p k outward found t) nat t) (option_map_or (λ found. translated_by q l outward found u) nat u)
    by_some outward None fits t u h = h
    by_some outward (Some nat) fits t u h = translated_by_alike k l same outward nat fits t u h

    translated_alike : (outward : Bool) (nat : Option IpfwNat) → IfSome nat (λ found. nat_fits found ≡ true) → (m n : Pass) → AlikePasses p m n
        → AlikePasses p (translated p k outward nat m) (translated q l outward nat n)
    translated_alike outward nat fits m n h =
        both_chosen (AlikePasses p) m.translated n.translated m _ n _ h.once h
        (record { transit = by_some outward nat fits m.transit n.transit h.transit; once = refl })

    -- Rules

    checked_alike : (outward : Bool) (m n : Pass) → AlikePasses p m n → AlikeSteps p (checked k outward m) (checked l outward n)
    checked_alike outward m n h = by_kind k l same
      where
        by_kind : (x y : Kind) → AlikeKinds p x y → AlikeSteps p (checked x outward m) (checked y outward n)
        by_kind New New one = (refl, h)
        by_kind (Est r) (Est s) one = ended_alike (Est r) (Est s) one outward m n h
        by_kind _ _ one = absurd one

    behind_alike : (ends : Bool) (m n : Pass) → AlikePasses p m n → AlikeSteps p (behind ends m) (behind ends n)
    behind_alike true m n h = h.transit
    behind_alike false m n h = (refl, h)

    module _ (c : IpfwConfig) (site : Site) (fits : list_all nat_fits c.nats ≡ true) where
      step_alike : (outward : Bool) (act : IpfwAct) (m n : Pass) → AlikePasses p m n → AlikeSteps p (step_of c site p k outward act m) (step_of c site q l outward act n)
      step_alike outward Allow m n h = ended_alike k l same outward m n h
      step_alike outward Deny m n h = tt
      step_alike outward Count m n h = (refl, h)
      step_alike outward (Skip to) m n h = (refl, h)
      step_alike outward Check m n h = checked_alike outward m n h
      step_alike outward (Nat number) m n h =
          behind_alike site.one_pass _ _ (translated_alike outward (nat_numbered number c.nats) (numbered_fits number c.nats fits) m n h)

      holds_alike : (outward : Bool) (lits : List Lit) (t u : Transit) → AlikeTransits p t u → holds lits (view_on site k outward t) ≡ holds lits (view_on site l outward u)
      holds_alike outward lits t u h =
          stay.holds site true outward outward (is_est k) lits t u h ∙ ap (λ est. holds lits (seen site true outward outward est u)) (est_alike p k l same)

      rules_alike : (outward : Bool) (rules : List IpfwRule) (to : ℕ) (m n : Pass) → AlikePasses p m n
          → AlikeWays p (rules_walk c site p k outward rules to m) (rules_walk c site q l outward rules to n)
      rules_alike outward [] to m n h = tt
      rules_alike outward (r ∷ rs) to m n h =
          stay.chosen (nat_lt r.number to) (nat_lt r.number to) (rules_walk c site p k outward rs to m) _ (rules_walk c site q l outward rs to n) _ refl
          (rules_alike outward rs to m n h)
          (stay.chosen (is_est k && r.keep) (is_est l && r.keep) (Some (ended k outward m)) _ (Some (ended l outward n)) _
          (ap (λ b. b && r.keep) (est_alike p k l same)) (ended_alike k l same outward m n h)
          (stay.chosen (holds r.cond (view_on site k outward m.transit)) (holds r.cond (view_on site l outward n.transit)) _
          (rules_walk c site p k outward rs 0 m) _ (rules_walk c site q l outward rs 0 n)
          (holds_alike outward r.cond m.transit n.transit h.transit)
          (stepped_alike p (rules_walk c site p k outward rs) (rules_walk c site q l outward rs) (rules_alike outward rs) _ _
          (step_alike outward r.act _ _ (record { transit = tagged_alike r.tag m.transit n.transit h.transit; once = h.once })))
          (rules_alike outward rs 0 m n h)))

      pub pass_alike : (outward : Bool) → LeadAlike p (pass_walk c site p k outward) (pass_walk c site q l outward)
      pass_alike outward t u h = rules_alike outward c.rules 0 _ _ (record { transit = h; once = refl })
