-- The control diagram of an ipfw configuration.
use Rattle.std.specs.Prelude.{ℕ, ◌+◌, Bool, true, false, ◌&&◌, not, List, [], ◌∷◌, ◌++◌, codes, if◌then◌else◌}
use Rattle.std.specs.List.{list_any}
use Rattle.fws_net.specs.declared.condition.Test.TheVariants.{Outward}
use Rattle.fws_net.specs.declared.site.Site.{Site}
use Rattle.fws_ifcl.specs.declared.diagram.Act.TheVariants.{Accept, Drop, RecSrc, RecDst}
use Rattle.fws_ifcl.specs.declared.diagram.Rule.{Rule}
use Rattle.fws_ifcl.specs.declared.diagram.Chain.{Chain}
use Rattle.fws_ifcl.specs.declared.diagram.Stage.{Stage}
use Rattle.fws_ifcl.specs.declared.diagram.Ifcl.{Ifcl}
use Rattle.fws_rules.specs.Literals.{positive, negative}
use Rattle.fws_ifcl_rules.specs.Rules.{ruled, always}
use Rattle.fws_ipfw.specs.declared.config.IpfwAct.{IpfwAct}
use Rattle.fws_ipfw.specs.declared.config.IpfwAct.TheVariants as acts
use Rattle.fws_ipfw.specs.declared.config.IpfwRule.{IpfwRule}
use Rattle.fws_ipfw.specs.declared.config.IpfwConfig.{IpfwConfig}
use Rattle.fws_ipfw_ifcl.specs.Blocks.{widths, blocks}

-- Rules

abbrev pub translates : IpfwAct → Bool
translates (acts.Nat n) = true
translates _ = false

-- a packet may go on behind a translation
abbrev pub goes_on : Site → IpfwConfig → Bool
goes_on site c = not site.one_pass && list_any (λ (r : IpfwRule). translates r.act) c.rules

-- how many rules the second half has
abbrev pub second_width : Site → IpfwConfig → ℕ
second_width site c = if goes_on site c then widths c.nats true c.rules else 0

-- the places of the second half, and of the rules that end a pass; each half ends with a rule that drops
abbrev pub second_place : IpfwConfig → ℕ
second_place c = widths c.nats false c.rules + 1

abbrev pub ending_place : Site → IpfwConfig → ℕ
ending_place site c = second_place c + (second_width site c + 1)

-- a pass ends accepted: a packet of a connection gets the end with which it leaves
abbrev pub ending : List Rule
ending = ruled (negative Outward ∷ []) RecDst ∷ ruled (positive Outward ∷ []) RecSrc ∷ always Accept ∷ []

-- where a half begins
abbrev pub half_place : IpfwConfig → Bool → ℕ
half_place c translated = if translated then second_place c else 0

abbrev pub half : Site → IpfwConfig → Bool → List Rule
half site c translated = blocks c.nats site.one_pass translated (ending_place site c) (half_place c translated) (second_place c) c.rules

abbrev pub second_half : Site → IpfwConfig → List Rule
second_half site c = if goes_on site c then half site c true else []

abbrev pub all_rules : Site → IpfwConfig → List Rule
all_rules site c = half site c false ++ always Drop ∷ second_half site c ++ always Drop ∷ ending

-- Chains and stages

-- a pass goes through all rules; the host's own packets of connections get the destination with which they leave first
abbrev pub chains_of : Site → IpfwConfig → List Chain
chains_of site c =
    record { name = codes "rules"; rules = all_rules site c } ∷ record { name = codes "destination"; rules = always RecDst ∷ [] } ∷ []

-- a pass as packets come in, or go out; no walk comes to the end of its chain
abbrev pub pass_stage : Bool → Stage
pass_stage outward = record { chain = 0; shows_recv = true; shows_xmit = outward; outward = outward; end = true }

abbrev pub destination_stage : Stage
destination_stage = record { chain = 1; shows_recv = false; shows_xmit = false; outward = false; end = true }

-- the whole diagram
abbrev pub diagram_of : Site → IpfwConfig → Ifcl
diagram_of site c = record {
  chains = chains_of site c;
  arrive = pass_stage false ∷ [];
  deliver = [];
  forward = pass_stage true ∷ [];
  send = destination_stage ∷ pass_stage true ∷ [];
}
