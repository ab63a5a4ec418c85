-- The control diagram of a configuration of OpenBSD's pf.
use Rattle.std.specs.Prelude.{◌≡◌, ℕ, Bool, true, false, nat_lt, List, [], ◌∷◌, ◌++◌, length, map, codes, if◌then◌else◌}
use Rattle.fws_net.specs.declared.condition.Test.TheVariants.{Est, Via}
use Rattle.fws_net.specs.declared.outcome.End.{End}
use Rattle.fws_ifcl.specs.declared.diagram.Act.TheVariants.{Accept, RecDst}
use Rattle.fws_ifcl.specs.declared.diagram.Rule.{Rule}
use Rattle.fws_ifcl.specs.declared.diagram.Chain.{Chain}
use Rattle.fws_ifcl.specs.declared.diagram.Stage.{Stage}
use Rattle.fws_ifcl.specs.declared.diagram.Ifcl.{Ifcl}
use Rattle.fws_rules.specs.Literals.{positive}
use Rattle.fws_ifcl_rules.specs.Rules.{ruled, always}
use Rattle.fws_pfo.specs.declared.config.PfoConfig.{PfoConfig}
use Rattle.fws_pfo_ifcl.specs.declared.frame.Frame.{Frame}
use Rattle.fws_pfo_ifcl.specs.declared.ruling.Ruling.{Ruling}
use Rattle.fws_pfo_ifcl.specs.Blocks.{IsTail, filter_rules, head_of}
use Rattle.fws_pfo_ifcl.specs.Ends.{gathered}
use Rattle.fws_pfo_ifcl.specs.Held.{bit_count, bits_of, telling}

-- a packet of a connection passes, behind the in pass with the destination with which it leaves
abbrev pub tracking : Bool → List Rule
tracking outward = (if outward then [] else ruled (positive Est ∷ []) RecDst ∷ []) ++ ruled (positive Est ∷ []) Accept ∷ []

-- on an interface that is skipped nothing is met
abbrev pub skipping : PfoConfig → List Rule
skipping c = ruled (positive (Via c.skip) ∷ []) Accept ∷ []

-- what the rules of a pass are drawn with: the ends that rules ahead of the tail hold are told by tags behind those of names
abbrev pub frame_by : Bool → ℕ → List End → Frame
frame_by outward tags ends = record { outward = outward; tags = tags; bits = bit_count (length ends); ends = ends }

abbrev pub frame_of : Bool → PfoConfig → Frame
frame_of outward c = frame_by outward (length c.tags) (gathered outward [] (head_of outward c.rules))

abbrev pub larger : ℕ → ℕ → ℕ
larger a b = if nat_lt a b then b else a

-- the out pass begins with no end held
abbrev pub clearing : Bool → PfoConfig → List Rule
clearing outward c =
    if outward then map always (telling (length c.tags) (bits_of (larger (frame_of false c).bits (frame_of true c).bits) 0)) else []

-- all rules of a pass: those ahead of the rules of the configuration, and theirs
abbrev pub front_rules : Bool → PfoConfig → List Rule
front_rules outward c = tracking outward ++ skipping c ++ clearing outward c

-- with these rulings for the tails of both passes
abbrev pub pass_rules : (Bool → List Ruling) → Bool → PfoConfig → List Rule
pass_rules tails outward c = front_rules outward c ++ filter_rules (frame_of outward c) (length (front_rules outward c)) c.rules (tails outward)

-- the rules of a pass, with rulings that stand for those of the tail
pub record IsPass (outward : Bool) (c : PfoConfig) (rules : List Rule) : Type 0 where
  pub tail : List Ruling
  pub stands : IsTail outward c.rules tail
  pub are : rules ≡ pass_rules (λ _. tail) outward c

-- rulings stand for those of the tails of both passes
abbrev pub AreTails : PfoConfig → (Bool → List Ruling) → Type 0
AreTails c tails = (outward : Bool) → IsTail outward c.rules (tails outward)

-- the in pass and the out pass
abbrev pub chains_of : (Bool → List Ruling) → PfoConfig → List Chain
chains_of tails c =
    record { name = codes "in"; rules = pass_rules tails false c } ∷ record { name = codes "out"; rules = pass_rules tails true c } ∷ []

-- both passes are behind other chains
pub record ArePasses (c : PfoConfig) (ahead chains : List Chain) : Type 0 where
  pub tails : Bool → List Ruling
  pub stand : AreTails c tails
  pub are : chains ≡ ahead ++ chains_of tails c

-- a packet passes where no rule decides
abbrev pub pass_stage : Bool → Stage
pass_stage outward = record { chain = if outward then 1 else 0; shows_recv = true; shows_xmit = outward; outward = outward; end = true }

-- the whole diagram
abbrev pub drawn_of : (Bool → List Ruling) → PfoConfig → Ifcl
drawn_of tails c = record {
  chains = chains_of tails c;
  arrive = pass_stage false ∷ [];
  deliver = [];
  forward = pass_stage true ∷ [];
  send = pass_stage true ∷ [];
}

-- the diagram of a configuration, with rulings that stand for those of the tails
pub record IsDrawn (c : PfoConfig) (d : Ifcl) : Type 0 where
  pub tails : Bool → List Ruling
  pub stand : AreTails c tails
  pub are : d ≡ drawn_of tails c
