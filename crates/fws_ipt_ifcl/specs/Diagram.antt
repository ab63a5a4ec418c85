-- The control diagram of an iptables configuration.
use Rattle.std.specs.Prelude.{ℕ, ◌+◌, Bool, true, false, ◌&&◌, ◌||◌, Option, Some, List, [], ◌∷◌, ◌++◌, length, map, codes}
use Rattle.std.specs.Option.{option_map_or}
use Rattle.std.specs.Str.{bytes_eq}
use Rattle.fws_net.specs.declared.condition.Test.TheVariants.{Est}
use Rattle.fws_net.specs.declared.site.Site.{Site}
use Rattle.fws_ifcl.specs.declared.diagram.Act.{Act}
use Rattle.fws_ifcl.specs.declared.diagram.Act.TheVariants.{Accept, RecSrc, RecDst, OnlyTag}
use Rattle.fws_ifcl.specs.declared.diagram.Rule.{Rule}
use Rattle.fws_ifcl.specs.declared.diagram.Chain.{Chain}
use Rattle.fws_ifcl.specs.declared.diagram.Stage.{Stage}
use Rattle.fws_ifcl.specs.declared.diagram.Ifcl.{Ifcl}
use Rattle.fws_rules.specs.Literals.{positive}
use Rattle.fws_ifcl_rules.specs.Rules.{ruled, always}
use Rattle.fws_ipt.specs.declared.config.IptTable.{IptTable}
use Rattle.fws_ipt.specs.declared.config.IptTable.TheVariants.{Nat}
use Rattle.fws_ipt.specs.declared.config.IptRule.{IptRule}
use Rattle.fws_ipt.specs.declared.config.IptChain.{IptChain}
use Rattle.fws_ipt.specs.declared.config.IptConfig.{IptConfig}
use Rattle.fws_ipt.specs.declared.hook.Hook.{Hook}
use Rattle.fws_ipt.specs.declared.hook.Hook.TheVariants.{Prerouting, Input, Output, Postrouting}
use Rattle.fws_ipt.specs.Refusals.{width_of, head_width}
use Rattle.fws_ipt.specs.Walk.{hook_name, is_table, shows_recv, shows_xmit, writes_src_at, policy_at, builtin_from, arriving, delivered, forwarded, sent_out}
use Rattle.fws_ipt_ifcl.specs.declared.side.SideTest.{SideTest}
use Rattle.fws_ipt_ifcl.specs.declared.side.SideTest.TheVariants.{First}
use Rattle.fws_ipt_ifcl.specs.Blocks.{unfolded}

-- Chains

-- the chains that begin the diagram, each with one rule
abbrev pub own_chain : List ℕ → Act → Chain
own_chain name act = record { name = name; rules = always act ∷ [] }

-- the mark begins at 0; a packet of a connection gets the destination and the source with which it leaves
abbrev pub own_chains : List Chain
own_chains = own_chain (codes "mark") (OnlyTag 0) ∷ own_chain (codes "destination") RecDst ∷ own_chain (codes "source") RecSrc ∷ []

-- a packet of a connection doesn't meet the rules of nat
abbrev pub headed : IptTable → Option Bool → List Rule
headed Nat (Some accepts) = ruled (positive Est ∷ []) Accept ∷ []
headed _ _ = []

-- the rules of rules, of which the first has the place at
abbrev pub unfolded_all : SideTest → Site → Bool → ℕ → List IptRule → List Rule
unfolded_all test site on_source at [] = []
unfolded_all test site on_source at (r ∷ rs) =
    unfolded test site on_source at r.cond r.go ++ unfolded_all test site on_source (at + width_of (length site.faces) r.go) rs

-- the names of the built-in chains in which sources are written
abbrev pub is_on_source : List ℕ → Bool
is_on_source name = bytes_eq name (hook_name Input) || bytes_eq name (hook_name Postrouting)

abbrev pub chain_for : SideTest → Site → IptChain → Chain
chain_for test site chain = record {
  name = chain.name;
  rules = headed chain.table chain.policy ++ unfolded_all test site (is_on_source chain.name) (head_width chain.table chain.policy) chain.rules;
}

-- Stages

-- the stage of one of the diagram's own chains
abbrev pub own_stage : ℕ → Stage
own_stage n = record { chain = n; shows_recv = false; shows_xmit = false; outward = false; end = true }

-- what a packet of a connection gets ahead of the rules of nat at a hook
abbrev pub tracked_at : IptTable → Hook → List Stage
tracked_at Nat Prerouting = own_stage 1 ∷ []
tracked_at Nat Output = own_stage 1 ∷ []
tracked_at Nat Input = own_stage 2 ∷ []
tracked_at Nat Postrouting = own_stage 2 ∷ []
tracked_at _ _ = []

-- the stage of the file's chain with this number, for a table at a hook
abbrev pub stage_for : List IptChain → IptTable → Hook → ℕ → Stage
stage_for chains table hook c = record {
  chain = c + 3;
  shows_recv = shows_recv hook;
  shows_xmit = shows_xmit hook;
  outward = is_table Nat table && writes_src_at hook;
  end = policy_at chains c;
}

-- a built-in chain that the file doesn't have has no stage
abbrev pub builtin_stage : List IptChain → IptTable → Hook → List Stage
builtin_stage chains table hook = option_map_or (λ c. stage_for chains table hook c ∷ []) (builtin_from 0 table hook chains) []

-- the stages of built-in chains in their order
abbrev pub stages_for : List IptChain → List (IptTable × Hook) → List Stage
stages_for chains [] = []
stages_for chains (at ∷ rest) = tracked_at at.0 at.1 ++ builtin_stage chains at.0 at.1 ++ stages_for chains rest

-- the whole diagram, by where rules that write ask for their side: the file's chains stand behind the three of its own
abbrev pub drawn_by : SideTest → Site → IptConfig → Ifcl
drawn_by test site c = record {
  chains = own_chains ++ map (chain_for test site) c.chains;
  arrive = own_stage 0 ∷ stages_for c.chains arriving;
  deliver = stages_for c.chains delivered;
  forward = stages_for c.chains forwarded;
  send = own_stage 0 ∷ stages_for c.chains sent_out;
}

-- the diagram of a configuration: the side is asked for with the condition
abbrev pub diagram_of : Site → IptConfig → Ifcl
diagram_of site c = drawn_by First site c
