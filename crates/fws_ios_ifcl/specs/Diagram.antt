-- The control diagram of a configuration of Cisco IOS.
use Rattle.std.specs.Prelude.{ℕ, Bool, true, false, List, [], ◌∷◌, ◌++◌, length, codes}
use Rattle.fws_net.specs.declared.condition.Test.TheVariants.{Est, Recv, Xmit}
use Rattle.fws_ifcl.specs.declared.diagram.Act.TheVariants.{Accept, RecDst, RecSrc}
use Rattle.fws_ifcl.specs.declared.diagram.Rule.{Rule}
use Rattle.fws_ifcl.specs.declared.diagram.Chain.{Chain}
use Rattle.fws_ifcl.specs.declared.diagram.Stage.{Stage}
use Rattle.fws_ifcl.specs.declared.diagram.Ifcl.{Ifcl}
use Rattle.fws_rules.specs.Literals.{negative, positive}
use Rattle.fws_ifcl_rules.specs.Rules.{ruled}
use Rattle.fws_ios.specs.declared.config.IosConfig.{IosConfig}
use Rattle.fws_ios_ifcl.specs.Blocks.{applied_from, choosing_from, statics_from}

-- the lists that are applied in a direction
abbrev pub list_rules : Bool → IosConfig → List Rule
list_rules outward c = applied_from outward 0 c.lists c.groups

-- an established packet gets the destination with which it leaves, and a new one that doesn't come in by the outside keeps its own
abbrev pub kept_destinations : IosConfig → List Rule
kept_destinations c = ruled (positive Est ∷ []) RecDst ∷ ruled (positive Est ∷ []) Accept ∷ ruled (negative (Recv c.outside) ∷ []) Accept ∷ []

-- those of other packets are translated by statics
abbrev pub destination_rules : IosConfig → List Rule
destination_rules c = kept_destinations c ++ statics_from false 3 c.nats

-- an established packet gets the source with which it leaves, and a new one that doesn't come in by the inside and go out by the
-- outside keeps its own
abbrev pub kept_sources : IosConfig → List Rule
kept_sources c =
    ruled (positive Est ∷ []) RecSrc ∷ ruled (positive Est ∷ []) Accept ∷ ruled (negative (Recv c.inside) ∷ []) Accept
    ∷ ruled (negative (Xmit c.outside) ∷ []) Accept ∷ []

-- those of other packets are translated by statics first and by lists then
abbrev pub source_front : IosConfig → List Rule
source_front c = kept_sources c ++ statics_from true 4 c.nats

abbrev pub source_rules : IosConfig → List Rule
source_rules c = source_front c ++ choosing_from (length (source_front c)) c.lists [] c.nats

-- lists as packets come in, destinations, sources, and lists as packets go out
abbrev pub chains_of : IosConfig → List Chain
chains_of c =
    record { name = codes "in"; rules = list_rules false c } ∷ record { name = codes "destination"; rules = destination_rules c }
    ∷ record { name = codes "source"; rules = source_rules c } ∷ record { name = codes "out"; rules = list_rules true c } ∷ []

-- a packet goes on where no rule decides
abbrev pub stage_of : Bool → ℕ → Stage
stage_of outward chain = record { chain = chain; shows_recv = true; shows_xmit = outward; outward = outward; end = true }

-- the whole diagram
abbrev pub diagram_of : IosConfig → Ifcl
diagram_of c = record {
  chains = chains_of c;
  arrive = stage_of false 0 ∷ stage_of false 1 ∷ [];
  deliver = [];
  forward = stage_of true 2 ∷ stage_of true 3 ∷ [];
  send = [];
}
