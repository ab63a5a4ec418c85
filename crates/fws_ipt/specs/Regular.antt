-- Walks have in common what the walks of all systems have, where ports are written for TCP and UDP alone.
use Rattle.std.specs.Prelude.{◌≡◌, ℕ, Bool, true, Ok, List}
use Rattle.std.specs.List.{list_all}
use Rattle.fws_net.specs.declared.site.Site.{Site}
use Rattle.fws_net.specs.RegularWalks.{IsRegularWalk}
use Rattle.fws_ipt.specs.declared.config.IptRule.{IptRule}
use Rattle.fws_ipt.specs.declared.config.IptConfig.{IptConfig}
use Rattle.fws_ipt.specs.FileText.{spelled}
use Rattle.fws_ipt.specs.Spelled.{asks_ports, may_write}
use Rattle.fws_ipt.specs.Walk.{walk}

-- a rule that writes a port asks for TCP or for UDP
abbrev pub is_port_asked : IptRule → Bool
is_port_asked rule = may_write (asks_ports rule.cond) rule.go

-- so does each rule of each chain
abbrev pub ports_are_asked : IptConfig → Bool
ports_are_asked c = list_all (λ chain. list_all is_port_asked chain.rules) c.chains

-- where each rule does, the walk is regular
abbrev pub AskedWalksAreRegular : Type 0
AskedWalksAreRegular = (site : Site) (c : IptConfig) → ports_are_asked c ≡ true → IsRegularWalk site (walk c site)

-- the walk of what a text spells is regular
abbrev pub SpelledWalksAreRegular : Type 0
SpelledWalksAreRegular = (site : Site) (text : List ℕ) (c : IptConfig) → spelled site text ≡ Ok c → IsRegularWalk site (walk c site)
