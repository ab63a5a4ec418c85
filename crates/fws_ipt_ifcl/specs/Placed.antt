-- The diagram of an iptables configuration that has a place for each of its rules, and these places: the first of the rules to which a
-- rule is unfolded. The walk comes to that one as the walk of the configuration comes to the rule, and its condition is the rule's.
use Rattle.std.specs.Prelude.{ℕ, suc, ◌+◌, Bool, List, [], ◌∷◌, ◌++◌, length}
use Rattle.fws_net.specs.declared.site.Site.{Site}
use Rattle.fws_ifcl.specs.declared.diagram.Ifcl.{Ifcl}
use Rattle.fws_ifcl.specs.declared.diagram.Spot.{Spot}
use Rattle.fws_ifcl_rules.specs.UsedPlaces.{untold, first_told, chain_spots}
use Rattle.fws_ipt.specs.declared.config.IptRule.{IptRule}
use Rattle.fws_ipt.specs.declared.config.IptChain.{IptChain}
use Rattle.fws_ipt.specs.declared.config.IptConfig.{IptConfig}
use Rattle.fws_ipt.specs.Refusals.{width_of, head_width}
use Rattle.fws_ipt_ifcl.specs.declared.side.SideTest.TheVariants.{Each}
use Rattle.fws_ipt_ifcl.specs.Blocks.{unfolded}
use Rattle.fws_ipt_ifcl.specs.Diagram.{headed, is_on_source, drawn_by}

-- rules that write ask for their side behind the first of their rules
abbrev pub placed_of : Site → IptConfig → Ifcl
placed_of site c = drawn_by Each site c

-- the numbers of rules beside those to which they are unfolded, of which the first has the place at; the first rule is counted n
abbrev pub rules_told : Site → Bool → ℕ → ℕ → List IptRule → List (List ℕ)
rules_told site on_source at n [] = []
rules_told site on_source at n (r ∷ rs) =
    first_told n (unfolded Each site on_source at r.cond r.go) ++ rules_told site on_source (at + width_of (length site.faces) r.go) (suc n) rs

-- those of a chain
abbrev pub chain_told : Site → ℕ → IptChain → List (List ℕ)
chain_told site n chain =
    untold (headed chain.table chain.policy) ++ rules_told site (is_on_source chain.name) (head_width chain.table chain.policy) n chain.rules

-- those of chains
abbrev pub chains_told : Site → ℕ → List IptChain → List (List (List ℕ))
chains_told site n [] = []
chains_told site n (chain ∷ chains) = chain_told site n chain ∷ chains_told site (n + length chain.rules) chains

-- where the rules of the configuration stand: the diagram's own chains have none of them
abbrev pub spots_of : Site → IptConfig → List Spot
spots_of site c = chain_spots 0 ([] ∷ [] ∷ [] ∷ chains_told site 0 c.chains)
