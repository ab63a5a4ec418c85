-- The control diagram of a pf configuration.
use Rattle.std.specs.Prelude.{◌≡◌, ℕ, ◌+◌, Bool, true, false, List, [], ◌∷◌, ◌++◌, codes, if◌then◌else◌}
use Rattle.fws_net.specs.declared.condition.Test.TheVariants.{Est, Via}
use Rattle.fws_ifcl.specs.declared.diagram.Act.TheVariants.{Accept, RecDst}
use Rattle.fws_ifcl.specs.declared.diagram.Rule.{Rule}
use Rattle.fws_ifcl.specs.declared.diagram.Chain.{Chain}
use Rattle.fws_ifcl.specs.declared.diagram.Stage.{Stage}
use Rattle.fws_ifcl.specs.declared.diagram.Ifcl.{Ifcl}
use Rattle.fws_rules.specs.Literals.{positive}
use Rattle.fws_ifcl_rules.specs.Rules.{ruled}
use Rattle.fws_join.specs.declared.decision.Decision.{Decision}
use Rattle.fws_pf.specs.declared.config.PfConfig.{PfConfig}
use Rattle.fws_pf.specs.Walk.{translations}
use Rattle.fws_pf_ifcl.specs.Blocks.{IsTail, Order, filter_rules, order_of, translation_widths, translations_from}

-- a packet of a connection passes, behind the in pass with the destination with which it leaves
abbrev pub tracking : Bool → List Rule
tracking outward = (if outward then [] else ruled (positive Est ∷ []) RecDst ∷ []) ++ ruled (positive Est ∷ []) Accept ∷ []

-- on an interface that is skipped nothing is met
abbrev pub skipping : PfConfig → List Rule
skipping c = ruled (positive (Via c.skip) ∷ []) Accept ∷ []

-- where the translations of a pass begin, and where its filter rules do
abbrev pub translations_place : Bool → ℕ
translations_place outward = if outward then 2 else 3

abbrev pub filter_place : Bool → PfConfig → ℕ
filter_place outward c = translations_place outward + translation_widths outward (translations c outward)

-- all rules of a pass, with those of filter rules in this order
abbrev pub pass_rules : Order → Bool → PfConfig → List Rule
pass_rules order outward c =
    tracking outward ++ skipping c ++ translations_from outward (filter_place outward c) (translations_place outward) (translations c outward)
    ++ filter_rules order outward (filter_place outward c) c.filter

-- the rules of a pass, with decisions that stand for those of the tail
pub record IsPass (in_order outward : Bool) (c : PfConfig) (rules : List Rule) : Type 0 where
  pub tail : List Decision
  pub stands : IsTail outward c.filter tail
  pub are : rules ≡ pass_rules (order_of in_order (λ _. tail)) outward c

-- decisions stand for those of the tails of both passes
abbrev pub AreTails : PfConfig → (Bool → List Decision) → Type 0
AreTails c tails = (outward : Bool) → IsTail outward c.filter (tails outward)

-- the in pass and the out pass
abbrev pub chains_of : Order → PfConfig → List Chain
chains_of order c =
    record { name = codes "in"; rules = pass_rules order false c } ∷ record { name = codes "out"; rules = pass_rules order true c } ∷ []

-- both passes are behind other chains
pub record ArePasses (in_order : Bool) (c : PfConfig) (ahead chains : List Chain) : Type 0 where
  pub tails : Bool → List Decision
  pub stand : AreTails c tails
  pub are : chains ≡ ahead ++ chains_of (order_of in_order tails) c

-- a packet passes where no rule decides
abbrev pub pass_stage : Bool → Stage
pass_stage outward = record { chain = if outward then 1 else 0; shows_recv = true; shows_xmit = outward; outward = outward; end = true }

-- the whole diagram
abbrev pub drawn_of : Order → PfConfig → Ifcl
drawn_of order c = record {
  chains = chains_of order c;
  arrive = pass_stage false ∷ [];
  deliver = [];
  forward = pass_stage true ∷ [];
  send = pass_stage true ∷ [];
}

-- the diagram of a configuration, with decisions that stand for those of the tails
pub record IsDrawn (in_order : Bool) (c : PfConfig) (d : Ifcl) : Type 0 where
  pub tails : Bool → List Decision
  pub stand : AreTails c tails
  pub are : d ≡ drawn_of (order_of in_order tails) c
