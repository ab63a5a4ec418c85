-- What is asked of configurations whose diagrams keep their walks; it holds of every configuration that a text spells.
use Rattle.std.specs.Prelude.{◌≡◌, ℕ, true, Ok, List}
use Rattle.std.specs.List.{list_all}
use Rattle.fws_net.specs.declared.site.Site.{Site}
use Rattle.fws_ipfw.specs.declared.config.IpfwConfig.{IpfwConfig}
use Rattle.fws_ipfw.specs.FileText.{spelled}
use Rattle.fws_ipfw.specs.Soundness.{are_ordered, are_apart, nat_fits}

-- what the laws of a diagram ask of its configuration: its rules stand by their numbers, and its instances have numbers of
-- their own and redirect ports for TCP and UDP alone
pub record IsDrawable (c : IpfwConfig) : Type 0 where
  pub ordered : are_ordered c.rules ≡ true
  pub apart : are_apart c.nats ≡ true
  pub fitting : list_all nat_fits c.nats ≡ true

-- what a text spells is such
abbrev pub SpelledDiagrams : Type 0
SpelledDiagrams = (site : Site) (text : List ℕ) (c : IpfwConfig) → spelled site text ≡ Ok c → IsDrawable c
