-- Which rules a packet's walk uses: those that it comes to and whose conditions hold, in their order.
use Rattle.std.specs.Prelude.{ℕ, zero, suc, Bool, ◌&&◌, nat_eq, nat_lt, List, [], ◌∷◌, ◌++◌, length, if◌then◌else◌}
use Rattle.std.specs.List.{list_any}
use Rattle.std.specs.Option.{option_map_or}
use Rattle.fws_net.specs.declared.packet.Packet.{Packet}
use Rattle.fws_net.specs.declared.connection.Kind.{Kind}
use Rattle.fws_net.specs.declared.site.Site.{Site}
use Rattle.fws_net.specs.declared.transit.Transit.{Transit}
use Rattle.fws_net.specs.Conditions.{holds}
use Rattle.fws_net.specs.Transits.{with_verdict, used_by}
use Rattle.fws_ifcl.specs.declared.diagram.Rule.{Rule}
use Rattle.fws_ifcl.specs.declared.diagram.Chain.{Chain}
use Rattle.fws_ifcl.specs.declared.diagram.Stage.{Stage}
use Rattle.fws_ifcl.specs.declared.diagram.Ifcl.{Ifcl}
use Rattle.fws_ifcl.specs.declared.diagram.Place.{Place}
use Rattle.fws_ifcl.specs.declared.step.ChainEnd.{ChainEnd}
use Rattle.fws_ifcl.specs.declared.step.ChainEnd.TheVariants.{Accepted, Dropped, Through}
use Rattle.fws_ifcl.specs.declared.step.Step.{Step}
use Rattle.fws_ifcl.specs.declared.step.Step.TheVariants.{Leave, Onwards, Enter, Switch}
use Rattle.fws_ifcl.specs.Walk.{sees, step_of, rules_at, chain_walk, stage_walk, stages_walk}

-- what is used behind a chain, which is nothing where it ended the stage or dropped
abbrev pub used_back : (Transit → List Place) → ChainEnd → List Place
used_back next (Accepted t) = []
used_back next Dropped = []
used_back next (Through t) = next t

-- what is used behind a rule: in the chains that it enters, by used and enter, and in the rules behind it from a place on, by go
abbrev pub used_behind : (ℕ → Transit → List Place) → (ℕ → Transit → ChainEnd) → (ℕ → Transit → List Place) → Step → List Place
used_behind used enter go (Leave end) = []
used_behind used enter go (Onwards to t) = go to t
used_behind used enter go (Enter c t) = used c t ++ used_back (go 0) (enter c t)
used_behind used enter go (Switch c t) = used c t

-- what is used of the rules of chain c, of which the first has the place at; those before the place to are passed over
abbrev pub rules_used : (ℕ → Transit → List Place) → (ℕ → Transit → ChainEnd) → ℕ → Site → Packet → Kind → Stage → ℕ → List Rule → ℕ → Transit → List Place
rules_used used enter c site p k stage at [] to t = []
rules_used used enter c site p k stage at (r ∷ rs) to t =
    if nat_lt at to then rules_used used enter c site p k stage (suc at) rs to t
    else if holds r.cond (sees site k stage t)
    then record { chain = c; rule = at } ∷ used_behind used enter (rules_used used enter c site p k stage (suc at) rs) (step_of p k r.act t)
    else rules_used used enter c site p k stage (suc at) rs 0 t

-- what is used from chain c on, entered from the chains of the path, with at most n chains left to enter
abbrev pub chain_used : List Chain → Site → Packet → Kind → Stage → ℕ → List ℕ → ℕ → Transit → List Place
chain_used chains site p k stage zero path c t = []
chain_used chains site p k stage (suc n) path c t =
    if list_any (nat_eq c) path then []
    else rules_used (chain_used chains site p k stage n (c ∷ path)) (chain_walk chains site p k stage n (c ∷ path)) c site p k stage 0 (rules_at chains c) 0 t

abbrev pub stage_used : List Chain → Site → Packet → Kind → Stage → Transit → List Place
stage_used chains site p k stage t = chain_used chains site p k stage (length chains) [] stage.chain (with_verdict stage.end t)

-- what is used in stages, until one drops the packet
abbrev pub stages_used : List Chain → Site → Packet → Kind → List Stage → Transit → List Place
stages_used chains site p k [] t = []
stages_used chains site p k (stage ∷ stages) t =
    stage_used chains site p k stage t ++ option_map_or (stages_used chains site p k stages) (stage_walk chains site p k stage t) []

-- the places of the rules that the walk of a packet of class k uses, in the order in which it comes to them
abbrev pub used_places : Ifcl → Site → Packet → Kind → List Place
used_places f site p k = used_by (stages_walk f.chains site p k f.arrive) (stages_used f.chains site p k f.arrive)
    (stages_used f.chains site p k f.deliver) (stages_used f.chains site p k f.forward) (stages_used f.chains site p k f.send) site p

abbrev pub is_place : Place → Place → Bool
is_place a b = nat_eq a.chain b.chain && nat_eq a.rule b.rule

-- the walk of a packet of class k comes to the rule at the place, and its condition holds there
abbrev pub uses : Ifcl → Site → Packet → Kind → Place → Bool
uses f site p k at = list_any (is_place at) (used_places f site p k)
