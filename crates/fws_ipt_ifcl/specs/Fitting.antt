-- What is asked of configurations whose diagrams keep their walks; it holds of every configuration that a text spells.
use Rattle.std.specs.Prelude.{◌≡◌, ℕ, Bool, true, false, ◌||◌, not, nat_eq, is_some, Ok, List, ◌++◌}
use Rattle.std.specs.List.{list_all, list_any}
use Rattle.std.specs.Option.{option_map_or}
use Rattle.fws_net.specs.declared.condition.Test.{Test}
use Rattle.fws_net.specs.declared.condition.Test.TheVariants.{Via, Outward}
use Rattle.fws_net.specs.declared.site.Site.{Site}
use Rattle.fws_ipt.specs.declared.config.IptGo.{IptGo}
use Rattle.fws_ipt.specs.declared.config.IptGo.TheVariants.{Netmap}
use Rattle.fws_ipt.specs.declared.config.IptRule.{IptRule}
use Rattle.fws_ipt.specs.declared.config.IptChain.{IptChain}
use Rattle.fws_ipt.specs.declared.config.IptConfig.{IptConfig}
use Rattle.fws_ipt.specs.FileText.{spelled}
use Rattle.fws_ipt.specs.Refusals.{is_builtin}
use Rattle.fws_ipt.specs.Soundness.{is_fitting}
use Rattle.fws_ipt.specs.Walk.{builtin_from, arriving, delivered, forwarded, sent_out}

-- a test that doesn't ask on which side of routing a rule stands
abbrev pub is_sideless : Test → Bool
is_sideless (Via set) = false
is_sideless Outward = false
is_sideless _ = true

-- no rule tests on which side of routing it stands
abbrev pub has_sideless_rules : IptChain → Bool
has_sideless_rules chain = list_all (λ (rule : IptRule). list_all (λ lit. is_sideless lit.test) rule.cond) chain.rules

abbrev pub is_sideless_config : IptConfig → Bool
is_sideless_config c = list_all has_sideless_rules c.chains

abbrev pub is_netmap : IptGo → Bool
is_netmap (Netmap net) = true
is_netmap _ = false

-- NETMAP stands in built-in chains alone
abbrev pub has_netmaps_placed : IptChain → Bool
has_netmaps_placed chain = is_some chain.policy || list_all (λ (rule : IptRule). not (is_netmap rule.go)) chain.rules

abbrev pub are_netmaps_placed : IptConfig → Bool
are_netmaps_placed c = list_all has_netmaps_placed c.chains

-- the chain is the built-in one of a table at a hook, where packets meet it
abbrev pub is_met : List IptChain → ℕ → Bool
is_met chains n =
    list_any (λ (at : _). option_map_or (nat_eq n) (builtin_from 0 at.0 at.1 chains) false) (arriving ++ delivered ++ forwarded ++ sent_out)

-- each built-in chain is met
abbrev pub AreMet : List IptChain → Type 0
AreMet chains = (n : ℕ) → is_builtin chains n ≡ true → is_met chains n ≡ true

-- what the laws of a diagram ask of its configuration, besides that no chain reaches itself
pub record IsDrawable (c : IptConfig) : Type 0 where
  pub fitting : is_fitting c ≡ true
  pub sideless : is_sideless_config c ≡ true
  pub netmaps_placed : are_netmaps_placed c ≡ true
  pub met : AreMet c.chains

-- what a text spells is such
abbrev pub SpelledDiagrams : Type 0
SpelledDiagrams = (site : Site) (text : List ℕ) (c : IptConfig) → spelled site text ≡ Ok c → IsDrawable c
