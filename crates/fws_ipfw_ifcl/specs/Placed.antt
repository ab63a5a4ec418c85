-- The diagram of an ipfw configuration that tells which rules a walk uses, and where each rule of the configuration stands in it. Packets of
-- connections pass at a rule that keeps state whether its condition holds or not, and at a check-state rule the diagram asks for them with one
-- literal more. So ahead of such a rule one is drawn that has its condition and does nothing: it is used where the rule is used.
use Rattle.std.specs.Prelude.{ℕ, zero, suc, Bool, true, false, ◌||◌, List, [], ◌∷◌, ◌++◌, if◌then◌else◌}
use Rattle.fws_net.specs.declared.site.Site.{Site}
use Rattle.fws_ifcl.specs.declared.diagram.Act.TheVariants.{Drop}
use Rattle.fws_ifcl.specs.declared.diagram.Ifcl.{Ifcl}
use Rattle.fws_ifcl.specs.declared.diagram.Spot.{Spot}
use Rattle.fws_ifcl_rules.specs.Rules.{always}
use Rattle.fws_ifcl_rules.specs.UsedPlaces.{untold, chain_spots}
use Rattle.fws_ipfw.specs.declared.config.IpfwAct.TheVariants as acts
use Rattle.fws_ipfw.specs.declared.config.IpfwTag.TheVariants as tags
use Rattle.fws_ipfw.specs.declared.config.IpfwNat.{IpfwNat}
use Rattle.fws_ipfw.specs.declared.config.IpfwRule.{IpfwRule}
use Rattle.fws_ipfw.specs.declared.config.IpfwConfig.{IpfwConfig}
use Rattle.fws_ipfw.specs.Soundness.{is_check}
use Rattle.fws_ipfw_ifcl.specs.Blocks.{width}
use Rattle.fws_ipfw_ifcl.specs.Diagram.{goes_on, ending, diagram_of}

-- The configuration that is drawn

-- packets of connections are looked up at the rule
abbrev pub looks_up : IpfwRule → Bool
looks_up r = r.keep || is_check r.act

-- the rule that stands ahead of such a one
abbrev pub counting : IpfwRule → IpfwRule
counting r = record { number = r.number; cond = r.cond; act = acts.Count; tag = tags.Nothing; keep = false }

abbrev pub counted : List IpfwRule → List IpfwRule
counted [] = []
counted (r ∷ rs) = if looks_up r then counting r ∷ r ∷ counted rs else r ∷ counted rs

abbrev pub with_counts : IpfwConfig → IpfwConfig
with_counts c = record { rules = counted c.rules; nats = c.nats }

-- it is drawn as any other
abbrev pub placed_of : Site → IpfwConfig → Ifcl
placed_of site c = diagram_of site (with_counts c)

-- Where rules stand

-- nothing beside so many rules
abbrev pub nothing_beside : ℕ → List (List ℕ)
nothing_beside zero = []
nothing_beside (suc n) = [] ∷ nothing_beside n

-- numbers beside the first of them, and nothing beside the others
abbrev pub first_beside : List ℕ → ℕ → List (List ℕ)
first_beside numbers zero = []
first_beside numbers (suc n) = numbers ∷ nothing_beside n

-- how many rules a rule is unfolded to in a half, with the one ahead of it
abbrev pub placed_width : List IpfwNat → Bool → IpfwRule → ℕ
placed_width nats translated r = if looks_up r then suc (width nats translated r) else width nats translated r

-- the numbers beside the rules of a half, of which the first rule is the one counted n
abbrev pub half_told : List IpfwNat → Bool → ℕ → List IpfwRule → List (List ℕ)
half_told nats translated n [] = []
half_told nats translated n (r ∷ rs) = first_beside (n ∷ []) (placed_width nats translated r) ++ half_told nats translated (suc n) rs

abbrev pub second_told : Site → IpfwConfig → List (List ℕ)
second_told site c = if goes_on site (with_counts c) then half_told c.nats true 0 c.rules else []

-- all numbers beside the rules of a pass
abbrev pub all_told : Site → IpfwConfig → List (List ℕ)
all_told site c = half_told c.nats false 0 c.rules ++ [] ∷ second_told site c ++ untold (always Drop ∷ ending)

-- where the rules of the configuration stand
abbrev pub spots_of : Site → IpfwConfig → List Spot
spots_of site c = chain_spots 0 (all_told site c ∷ [])
