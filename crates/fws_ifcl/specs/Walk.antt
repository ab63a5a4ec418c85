-- What a packet meets in a control diagram, rule by rule.
use Rattle.std.specs.Prelude.{ℕ, zero, suc, nat_eq, nat_lt, slice_get, Option, Some, None, option_and_then, List, [], ◌∷◌, length, if◌then◌else◌}
use Rattle.std.specs.List.{list_any}
use Rattle.std.specs.Option.{option_map_or}
use Rattle.fws_net.specs.declared.packet.Packet.{Packet}
use Rattle.fws_net.specs.declared.outcome.Outcome.{Outcome}
use Rattle.fws_net.specs.declared.connection.Kind.{Kind}
use Rattle.fws_net.specs.declared.site.Site.{Site}
use Rattle.fws_net.specs.declared.transit.Transit.{Transit}
use Rattle.fws_net.specs.declared.view.View.{View}
use Rattle.fws_net.specs.Conditions.{holds}
use Rattle.fws_net.specs.Connections.{is_est}
use Rattle.fws_net.specs.Transits.{seen, with_verdict, with_src, with_dst, with_tracked_src, with_tracked_dst, with_tag, with_only_tag, without_tag, decided, way_by, outcome_of}
use Rattle.fws_ifcl.specs.declared.diagram.Act.{Act}
use Rattle.fws_ifcl.specs.declared.diagram.Act.TheVariants.{Accept, Drop, Hold, Call, Goto, Return, Skip, Src, Dst, RecSrc, RecDst, AddTag, OnlyTag, DelTag}
use Rattle.fws_ifcl.specs.declared.diagram.Rule.{Rule}
use Rattle.fws_ifcl.specs.declared.diagram.Chain.{Chain}
use Rattle.fws_ifcl.specs.declared.diagram.Stage.{Stage}
use Rattle.fws_ifcl.specs.declared.diagram.Ifcl.{Ifcl}
use Rattle.fws_ifcl.specs.declared.step.ChainEnd.{ChainEnd}
use Rattle.fws_ifcl.specs.declared.step.ChainEnd.TheVariants.{Accepted, Dropped, Through}
use Rattle.fws_ifcl.specs.declared.step.Step.{Step}
use Rattle.fws_ifcl.specs.declared.step.Step.TheVariants.{Leave, Onwards, Enter, Switch}

-- Rules

-- what a rule of the stage sees of a packet of class k
abbrev pub sees : Site → Kind → Stage → Transit → View
sees site k stage t = seen site stage.shows_recv stage.shows_xmit stage.outward (is_est k) t

-- what a rule does with a packet of class k that entered as p. A call goes on at the next rule behind the chain that it
-- enters, a goto doesn't; a skip goes on at a later place; the other acts change the transit and go on at the next rule
abbrev pub step_of : Packet → Kind → Act → Transit → Step
step_of p k Accept t = Leave (Accepted t)
step_of p k Drop t = Leave Dropped
step_of p k (Hold accepts) t = Onwards 0 (with_verdict accepts t)
step_of p k (Call c) t = Enter c t
step_of p k (Goto c) t = Switch c t
step_of p k Return t = Leave (Through t)
step_of p k (Skip to) t = Onwards to t
step_of p k (Src e) t = Onwards 0 (with_src p e t)
step_of p k (Dst e) t = Onwards 0 (with_dst p e t)
step_of p k RecSrc t = Onwards 0 (with_tracked_src k t)
step_of p k RecDst t = Onwards 0 (with_tracked_dst k t)
step_of p k (AddTag n) t = Onwards 0 (with_tag n t)
step_of p k (OnlyTag n) t = Onwards 0 (with_only_tag n t)
step_of p k (DelTag n) t = Onwards 0 (without_tag n t)

-- goes on where a chain was left by its end; a verdict stands
abbrev pub back : (Transit → ChainEnd) → ChainEnd → ChainEnd
back next (Accepted t) = Accepted t
back next Dropped = Dropped
back next (Through t) = next t

-- how the chain is left behind a rule: enter walks another chain, and go the rules behind this one from a place on, of
-- which 0 is the next rule
abbrev pub stepped : (ℕ → Transit → ChainEnd) → (ℕ → Transit → ChainEnd) → Step → ChainEnd
stepped enter go (Leave end) = end
stepped enter go (Onwards to t) = go to t
stepped enter go (Enter c t) = back (go 0) (enter c t)
stepped enter go (Switch c t) = enter c t

-- the rules in their order, of which the first has the place at; those before the place to are passed over
abbrev pub rules_walk : (ℕ → Transit → ChainEnd) → Site → Packet → Kind → Stage → ℕ → List Rule → ℕ → Transit → ChainEnd
rules_walk enter site p k stage at [] to t = Through t
rules_walk enter site p k stage at (r ∷ rs) to t =
    if nat_lt at to then rules_walk enter site p k stage (suc at) rs to t
    else if holds r.cond (sees site k stage t) then stepped enter (rules_walk enter site p k stage (suc at) rs) (step_of p k r.act t)
    else rules_walk enter site p k stage (suc at) rs 0 t

-- Chains

-- the rules of the chain with this number
abbrev pub rules_at : List Chain → ℕ → List Rule
rules_at chains c = option_map_or (λ chain. chain.rules) (slice_get chains c) []

-- chain c, entered from the chains of the path, with at most n chains left to enter; one that is met again drops
abbrev pub chain_walk : List Chain → Site → Packet → Kind → Stage → ℕ → List ℕ → ℕ → Transit → ChainEnd
chain_walk chains site p k stage zero path c t = Dropped
chain_walk chains site p k stage (suc n) path c t =
    if list_any (nat_eq c) path then Dropped
    else rules_walk (chain_walk chains site p k stage n (c ∷ path)) site p k stage 0 (rules_at chains c) 0 t

-- Stages

-- a packet that came to the end of the stage's chain is left to the verdict so far
abbrev pub stage_end : ChainEnd → Option Transit
stage_end (Accepted t) = Some t
stage_end Dropped = None
stage_end (Through t) = decided t

-- a stage: it begins with a verdict of its own, at its chain; none where the packet is dropped
abbrev pub stage_walk : List Chain → Site → Packet → Kind → Stage → Transit → Option Transit
stage_walk chains site p k stage t = stage_end (chain_walk chains site p k stage (length chains) [] stage.chain (with_verdict stage.end t))

-- stages in their order, until one drops the packet
abbrev pub stages_walk : List Chain → Site → Packet → Kind → List Stage → Transit → Option Transit
stages_walk chains site p k [] t = Some t
stages_walk chains site p k (stage ∷ stages) t = option_and_then (stages_walk chains site p k stages) (stage_walk chains site p k stage t)

-- the whole way of a packet of class k
abbrev pub way_of : Ifcl → Site → Packet → Kind → Option Transit
way_of f site p k = way_by (stages_walk f.chains site p k f.arrive) (stages_walk f.chains site p k f.deliver)
    (stages_walk f.chains site p k f.forward) (stages_walk f.chains site p k f.send) site p

-- what becomes of a packet of class k
abbrev pub means : Ifcl → Site → Packet → Kind → Outcome
means f site p k = outcome_of k (way_of f site p k)
