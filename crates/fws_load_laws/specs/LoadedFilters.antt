-- The filters that the generator's texts spell.
use Rattle.std.specs.Prelude.{◌≡◌, ◌≤◌, ℕ, ◌+◌, ◌*◌, ◌%◌, ◌^◌, true, false, Bool, Some, None, Ok, List, [], ◌∷◌, map, codes}
use Rattle.std.specs.List.{range_with_len}
use Rattle.fws_iv.specs.declared.iv.Iv.{Iv}
use Rattle.fws_net.specs.declared.condition.Test.TheVariants.{Src, Dst, Dport, Proto, Est}
use Rattle.fws_net.specs.declared.site.Site.{Site}
use Rattle.fws_rules.specs.Literals.{positive, one}
use Rattle.fws_ipt.specs.declared.config.IptTable.TheVariants.{Filter}
use Rattle.fws_ipt.specs.declared.config.IptGo.TheVariants.{Accept}
use Rattle.fws_ipt.specs.declared.config.IptRule.{IptRule}
use Rattle.fws_ipt.specs.declared.config.IptChain.{IptChain}
use Rattle.fws_ipt.specs.declared.config.IptConfig.{IptConfig}
use Rattle.fws_ipt.specs.FileText.{spelled}
use Rattle.fws_ipt.specs.Refusals.{refusal_of}
use Rattle.fws_load.specs.Load.{filter_text}

-- the 256 addresses from this one on
abbrev pub net_from : ℕ → List Iv
net_from addr = one addr (addr + 255)

-- packets of connections are accepted
abbrev pub known_rule : IptRule
known_rule = record { cond = positive Est ∷ []; go = Accept }

-- the rule with this number: TCP from the network with this number, counted from 10.0.0.0/24 on, to one of the 256 networks
-- from 172.16.0.0/24 on, and there to the port with this number, counted from 1000 on
abbrev pub load_rule : ℕ → IptRule
load_rule k = record {
  cond =
      positive (Src (net_from (10 * 2 ^ 24 + k * 256)))
      ∷ positive (Dst (net_from (172 * 2 ^ 24 + 16 * 2 ^ 16 + 7 * k % 256 * 256)))
      ∷ positive (Proto (one 6 6))
      ∷ positive (Dport (one (1000 + k) (1000 + k)))
      ∷ [];
  go = Accept;
}

-- a built-in chain of the table filter: its name, whether its end accepts, and its rules
abbrev pub filter_chain : List ℕ → Bool → List IptRule → IptChain
filter_chain name accepts rules = record { table = Filter; name = name; policy = Some accepts; rules = rules }

-- the three chains of filter, of which the one of forwarded packets has these rules
abbrev pub load_chains : List IptRule → List IptChain
load_chains rules =
    filter_chain (codes "INPUT") true [] ∷ filter_chain (codes "FORWARD") false rules ∷ filter_chain (codes "OUTPUT") true [] ∷ []

-- the filter with this number of rules: forwarded are packets of connections, and else just what one of the rules accepts
abbrev pub load_config : ℕ → IptConfig
load_config n = record { chains = load_chains (known_rule ∷ map load_rule (range_with_len 0 n)) }

-- no line of a text with at most 4000 rules is refused, and it spells this filter, whatever the site
abbrev pub LoadTextsAreRead : Type 0
LoadTextsAreRead = (site : Site) (n : ℕ) → n ≤ 4000 → spelled site (filter_text n) ≡ Ok (load_config n)

-- no chain of such a filter reaches itself, none is too deep, and the rules don't become too many
abbrev pub LoadConfigsAreNotRefused : Type 0
LoadConfigsAreNotRefused = (site : Site) (n : ℕ) → refusal_of site (load_config n) ≡ None
