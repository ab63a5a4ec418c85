-- What holds of every configuration that a text spells.
use Rattle.std.specs.Prelude.{◌≡◌, ℕ, suc, Bool, true, false, ◌&&◌, ◌||◌, not, nat_eq, nat_le, nat_lt, Option, Ok, List, [], ◌∷◌, length}
use Rattle.std.specs.List.{list_all, list_any}
use Rattle.std.specs.Option.{option_map_or}
use Rattle.fws_iv.specs.declared.iv.Iv.{Iv}
use Rattle.fws_net.specs.declared.condition.Lit.{Lit}
use Rattle.fws_net.specs.declared.condition.Test.{Test}
use Rattle.fws_net.specs.declared.condition.Test.TheVariants.{Sport, Dport, Icmp, Proto, Tag}
use Rattle.fws_net.specs.declared.outcome.End.{End}
use Rattle.fws_net.specs.declared.site.Site.{Site}
use Rattle.fws_pf.specs.declared.config.PfConfig.{PfConfig}
use Rattle.fws_pf.specs.declared.config.PfNat.{PfNat}
use Rattle.fws_pf.specs.declared.config.PfRule.{PfRule}
use Rattle.fws_pf.specs.Drawn.{is_port_protocol}
use Rattle.fws_pf.specs.FileText.{spelled}

-- Conditions

-- the literal asks for one protocol, which passes the test
abbrev pub asks : (ℕ → Bool) → Test → Bool
asks test (Proto (x ∷ [])) = nat_eq x.lo x.hi && test x.lo
asks test _ = false

-- the condition asks for such a protocol
abbrev pub names_protocol : (ℕ → Bool) → List Lit → Bool
names_protocol test cond = list_any (λ lit. not lit.not && asks test lit.test) cond

-- a literal of ports or of ICMP types stands in a condition that asks for a protocol that has them; a tag is one of so many
abbrev pub test_fits : ℕ → List Lit → Test → Bool
test_fits tags cond (Sport set) = names_protocol is_port_protocol cond
test_fits tags cond (Dport set) = names_protocol is_port_protocol cond
test_fits tags cond (Icmp set) = names_protocol (nat_eq 1) cond
test_fits tags cond (Tag n) = nat_lt n tags
test_fits tags cond _ = true

abbrev pub cond_fits : ℕ → List Lit → Bool
cond_fits tags cond = list_all (λ lit. test_fits tags cond lit.test) cond

-- a tag is one of so many
abbrev pub tag_fits : ℕ → Option ℕ → Bool
tag_fits tags tag = option_map_or (λ n. nat_lt n tags) tag true

-- Rules

abbrev pub rule_fits : ℕ → PfRule → Bool
rule_fits tags r = cond_fits tags r.cond && tag_fits tags r.tag && (not r.keep || r.pass)

-- an end with a port is written where the protocol has ports
abbrev pub end_fits : List Lit → End → Bool
end_fits cond e = option_map_or (λ port. names_protocol is_port_protocol cond) e.port true

abbrev pub nat_fits : ℕ → PfNat → Bool
nat_fits tags nat = cond_fits tags nat.cond && tag_fits tags nat.tag && option_map_or (end_fits nat.cond) nat.to true

-- Configurations

-- the interfaces that are skipped are those of the site
abbrev pub is_entry : ℕ → Iv → Bool
is_entry last x = nat_le 1 x.lo && nat_le x.hi last

abbrev pub is_fitting : Site → PfConfig → Bool
is_fitting site c =
    list_all (is_entry (suc (length site.faces))) c.skip && list_all (nat_fits (length c.tags)) c.rdr && list_all (nat_fits (length c.tags)) c.nat
    && list_all (rule_fits (length c.tags)) c.filter

-- what a text spells is fitting
abbrev pub SpelledFits : Type 0
SpelledFits = (site : Site) (text : List ℕ) (c : PfConfig) → spelled site text ≡ Ok c → is_fitting site c ≡ true
