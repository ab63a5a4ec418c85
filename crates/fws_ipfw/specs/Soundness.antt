-- What holds of every configuration that a text spells.
use Rattle.std.specs.Prelude.{◌≡◌, ℕ, Bool, true, false, ◌&&◌, ◌||◌, not, nat_le, nat_lt, is_none, is_some, Ok, List, [], ◌∷◌}
use Rattle.std.specs.List.{list_all}
use Rattle.fws_net.specs.declared.condition.Lit.{Lit}
use Rattle.fws_net.specs.declared.site.Site.{Site}
use Rattle.fws_ipfw.specs.declared.config.IpfwAct.{IpfwAct}
use Rattle.fws_ipfw.specs.declared.config.IpfwAct.TheVariants.{Skip, Check, Nat}
use Rattle.fws_ipfw.specs.declared.config.IpfwTag.{IpfwTag}
use Rattle.fws_ipfw.specs.declared.config.IpfwTag.TheVariants.{Nothing, Add, Remove}
use Rattle.fws_ipfw.specs.declared.config.IpfwRule.{IpfwRule}
use Rattle.fws_ipfw.specs.declared.config.Redirect.{Redirect}
use Rattle.fws_ipfw.specs.declared.config.IpfwNat.{IpfwNat}
use Rattle.fws_ipfw.specs.declared.config.IpfwConfig.{IpfwConfig}
use Rattle.fws_ipfw.specs.FileText.{spelled, has_nat}
use Rattle.fws_ipfw.specs.RuleText.{allows, has_ports}

-- Rules

abbrev pub is_ahead : IpfwRule → List IpfwRule → Bool
is_ahead r [] = true
is_ahead r (s ∷ ss) = nat_le r.number s.number

-- no rule has a greater number than the next one
abbrev pub are_ordered : List IpfwRule → Bool
are_ordered [] = true
are_ordered (r ∷ rs) = is_ahead r rs && are_ordered rs

-- a rule skips forward, and translates by an instance that is there
abbrev pub act_fits : List IpfwNat → ℕ → IpfwAct → Bool
act_fits nats number (Skip n) = nat_lt number n && nat_le n 65534
act_fits nats number (Nat n) = has_nat nats n
act_fits nats number _ = true

abbrev pub is_check : IpfwAct → Bool
is_check Check = true
is_check _ = false

-- a tag is a number from 1 to 65534
abbrev pub tag_fits : IpfwTag → Bool
tag_fits Nothing = true
tag_fits (Add n) = nat_lt 0 n && nat_le n 65534
tag_fits (Remove n) = nat_lt 0 n && nat_le n 65534

abbrev pub leaves_tags : IpfwTag → Bool
leaves_tags Nothing = true
leaves_tags _ = false

-- the condition of every packet
abbrev pub is_everywhere : List Lit → Bool
is_everywhere [] = true
is_everywhere (lit ∷ lits) = false

-- a rule has a number from 1 to 65534, its act and its tag fit, state is kept where the packet is allowed, and a check-state
-- rule holds of every packet and leaves tags as they are
abbrev pub rule_fits : List IpfwNat → IpfwRule → Bool
rule_fits nats r =
    nat_lt 0 r.number && nat_le r.number 65534 && act_fits nats r.number r.act && tag_fits r.tag
    && (not r.keep || allows r.act) && (not (is_check r.act) || (is_everywhere r.cond && leaves_tags r.tag))

-- Instances

-- a redirect is one of ports of TCP or UDP, with a port at each end, or one of addresses without ports
abbrev pub redirect_fits : Redirect → Bool
redirect_fits r =
    (has_ports r.proto && is_some r.local.port && is_some r.public.port)
    || (is_none r.proto && is_none r.local.port && is_none r.public.port)

abbrev pub nat_fits : IpfwNat → Bool
nat_fits nat = nat_lt 0 nat.number && nat_le nat.number 65535 && list_all redirect_fits nat.redirects

-- no two instances have the same number
abbrev pub are_apart : List IpfwNat → Bool
are_apart [] = true
are_apart (nat ∷ nats) = not (has_nat nats nat.number) && are_apart nats

-- Configurations

abbrev pub is_fitting : IpfwConfig → Bool
is_fitting c = list_all (rule_fits c.nats) c.rules && list_all nat_fits c.nats && are_apart c.nats

-- what a text spells is fitting, and its rules stand by their numbers
abbrev pub SpelledFits : Type 0
SpelledFits = (site : Site) (text : List ℕ) (c : IpfwConfig) → spelled site text ≡ Ok c → (is_fitting c ≡ true) × (are_ordered c.rules ≡ true)
