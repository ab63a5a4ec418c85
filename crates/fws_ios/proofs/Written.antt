-- Ports are written for TCP and UDP alone.
use Rattle.std.proofs.Common.{◌≡◌, ℕ, Bool, true, false, ◌&&◌, ◌||◌, Option, Some, None, is_some, is_none, List, [], ◌∷◌, IfSome, refl, sym, subst, ⊎_elim}
use Rattle.std.specs.List.{list_all}
use Rattle.std.specs.Option.{option_map_or}
use Rattle.std.proofs.lemmas.Bool.{false≢true, both_ways, and_parts, or_cases, cond_both, eqb-true}
use Rattle.fws_net.specs.declared.packet.Packet.{Packet}
use Rattle.fws_net.specs.declared.outcome.End.{End}
use Rattle.fws_net.specs.declared.connection.Kind.TheVariants.{New}
use Rattle.fws_net.specs.declared.site.Site.{Site}
use Rattle.fws_net.specs.declared.transit.Transit.{Transit}
use Rattle.fws_net.specs.Ends.{host_end}
use Rattle.fws_net.specs.Fates.{has_ports}
use Rattle.fws_rules.specs.Regular.{IsPortless}
use Rattle.fws_ios.specs.declared.config.IosConfig.{IosConfig}
use Rattle.fws_ios.specs.declared.config.IosNat.{IosNat}
use Rattle.fws_ios.specs.declared.config.IosNat.TheVariants.{Static, List as Listed}
use Rattle.fws_ios.specs.Soundness.{is_whole, nat_fits}
use Rattle.fws_ios.specs.Values as values
use Rattle.fws_ios.specs.Walk.{says, is_of_proto, is_end, inner_end, outer_end, listed_end, first_end, source_end, arrived, forwarded}
use Rattle.fws_ios.proofs.Kept.{arrived_kept, forwarded_kept, routed_kept, sent_kept}

none_there : (port : Option ℕ) → is_none port ≡ true → port ≡ None
none_there None e = refl
none_there (Some x) e = absurd (false≢true e)

-- a static that applies to a protocol without ports has none
unported : (proto : Option ℕ) (n : ℕ) (b c d e : Bool) → has_ports n ≡ false → is_of_proto proto n ≡ true
    → ((values.has_ports proto && b && c) || (is_none proto && d && e)) ≡ true → (d ≡ true) × (e ≡ true)
unported None n b c d e off on fit = and_parts d e fit
unported (Some m) n b c d e off on fit =
    ⊎_elim
    (λ ports.
    absurd (both_ways (has_ports n) off
    (subst (λ x. has_ports x ≡ true) (sym (eqb-true n m on)) (and_parts (has_ports m) b (and_parts (has_ports m && b) c ports).0).0)))
    (λ never. absurd (false≢true never)) (or_cases (values.has_ports (Some m) && b && c) (false && d && e) fit)

static_unported : (proto : Option ℕ) (local global : End) (n : ℕ) → nat_fits (Static proto local global) ≡ true → has_ports n ≡ false → is_of_proto proto n ≡ true
    → (local.port ≡ None) × (global.port ≡ None)
static_unported proto local global n fit off on =
    let known =
    unported proto n (is_some local.port) (is_some global.port) (is_none local.port) (is_none global.port) off on
    (and_parts (is_whole local && is_whole global) _ fit).1 in
    (none_there local.port known.0, none_there global.port known.1)

abbrev HasNoPort : End → Type 0
HasNoPort e = e.port ≡ None

inner_unported : (v : Packet) → has_ports v.proto ≡ false → (nat : IosNat) → nat_fits nat ≡ true → IfSome (inner_end v nat) HasNoPort
inner_unported v off (Static proto local global) fit =
    cond_both (is_of_proto proto v.proto && is_end global v.proto v.dst v.dport) (Some local) None (λ o. IfSome o HasNoPort)
    (λ on. (static_unported proto local global v.proto fit off (and_parts (is_of_proto proto v.proto) (is_end global v.proto v.dst v.dport) on).0).0) (λ e. tt)
inner_unported v off (Listed name addr) fit = tt

outer_unported : (v : Packet) → has_ports v.proto ≡ false → (nat : IosNat) → nat_fits nat ≡ true → IfSome (outer_end v nat) HasNoPort
outer_unported v off (Static proto local global) fit =
    cond_both (is_of_proto proto v.proto && is_end local v.proto v.src v.sport) (Some global) None (λ o. IfSome o HasNoPort)
    (λ on. (static_unported proto local global v.proto fit off (and_parts (is_of_proto proto v.proto) (is_end local v.proto v.src v.sport) on).0).1) (λ e. tt)
outer_unported v off (Listed name addr) fit = tt

else_known : (P : End → Type 0) (o other : Option End) → IfSome o P → IfSome other P → IfSome (option_map_or Some o other) P
else_known P None other h k = k
else_known P (Some e) other h k = h

first_known : (P : End → Type 0) (given : IosNat → Option End) (nats : List IosNat) → ((nat : IosNat) → nat_fits nat ≡ true → IfSome (given nat) P)
    → list_all nat_fits nats ≡ true → IfSome (first_end given nats) P
first_known P given [] each all = tt
first_known P given (nat ∷ nats) each all =
    let both = and_parts (nat_fits nat) (list_all nat_fits nats) all in
    else_known P (given nat) (first_end given nats) (each nat both.0) (first_known P given nats each both.1)

module _ (c : IosConfig) (site : Site) (fits : list_all nat_fits c.nats ≡ true) (p : Packet) (off : has_ports p.proto ≡ false) where
  lacks_ports : (t : Transit) → IsPortless p t → has_ports t.packet.proto ≡ false
  lacks_ports t h = subst (λ n. has_ports n ≡ false) (sym h.proto) off

  listed_unported : (t : Transit) (nat : IosNat) → IfSome (listed_end c site New t nat) HasNoPort
  listed_unported t (Static proto local global) = tt
  listed_unported t (Listed name addr) = cond_both (says c site New true false name t) (Some (host_end addr None)) None (λ o. IfSome o HasNoPort) (λ e. refl) (λ e. tt)

  source_unported : (t : Transit) → IsPortless p t → IfSome (source_end c site New t) HasNoPort
  source_unported t h =
      else_known HasNoPort (first_end (outer_end t.packet) c.nats) (first_end (listed_end c site New t) c.nats)
      (first_known HasNoPort (outer_end t.packet) c.nats (outer_unported t.packet (lacks_ports t h)) fits)
      (first_known HasNoPort (listed_end c site New t) c.nats (λ nat fit. listed_unported t nat) fits)

  weakened : (P Q : End → Type 0) (o : Option End) → ((e : End) → P e → Q e) → IfSome o P → IfSome o Q
  weakened P Q None step h = tt
  weakened P Q (Some e) step h = step e h

  pub arrived_portless : (t : Transit) → IsPortless p t → IfSome (arrived c site p New t) (IsPortless p)
  arrived_portless t h =
      arrived_kept c site p (IsPortless p) New t
      (routed_kept c site p (IsPortless p) t
      (weakened HasNoPort _ (first_end (inner_end t.packet) c.nats) (λ e none. record { proto = refl; wrote = (h.wrote.0, none) })
      (first_known HasNoPort (inner_end t.packet) c.nats (inner_unported t.packet (lacks_ports t h)) fits)) h)

  pub forwarded_portless : (t : Transit) → IsPortless p t → IfSome (forwarded c site p New t) (IsPortless p)
  forwarded_portless t h =
      forwarded_kept c site p (IsPortless p) New t
      (sent_kept c site p (IsPortless p) t
      (weakened HasNoPort _ (source_end c site New t) (λ e none. record { proto = refl; wrote = (none, h.wrote.1) }) (source_unported t h)) h)
