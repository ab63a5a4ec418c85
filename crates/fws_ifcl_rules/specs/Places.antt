-- Walks through the rules of a chain, by the places at which these stand.
use Rattle.std.specs.Prelude.{◌≡◌, ℕ, suc, ◌+◌, ◌<◌, List, [], ◌∷◌, ◌++◌, length, drop, if◌then◌else◌}
use Rattle.fws_net.specs.declared.connection.Kind.{Kind}
use Rattle.fws_net.specs.declared.packet.Packet.{Packet}
use Rattle.fws_net.specs.declared.site.Site.{Site}
use Rattle.fws_net.specs.declared.transit.Transit.{Transit}
use Rattle.fws_net.specs.declared.view.View.{View}
use Rattle.fws_net.specs.Conditions.{holds}
use Rattle.fws_ifcl.specs.declared.diagram.Act.{Act}
use Rattle.fws_ifcl.specs.declared.diagram.Act.TheVariants.{Skip}
use Rattle.fws_ifcl.specs.declared.diagram.Rule.{Rule}
use Rattle.fws_ifcl.specs.declared.diagram.Stage.{Stage}
use Rattle.fws_ifcl.specs.declared.step.ChainEnd.{ChainEnd}
use Rattle.fws_ifcl.specs.Walk.{sees, step_of, stepped, rules_walk}

-- Places

-- rules stand among all those of a chain, the first of them at a place
pub record StandAt (full : List Rule) (at : ℕ) (rules : List Rule) : Type 0 where
  pub rest : List Rule
  pub are : drop at full ≡ rules ++ rest

-- a skip at a place goes forward
abbrev pub IsForward : ℕ → Act → Type 0
IsForward at (Skip to) = at < to
IsForward at _ = Unit {0}

-- so do all skips of rules, of which the first stands n places behind the place at
abbrev pub AreForward : ℕ → ℕ → List Rule → Type 0
AreForward at n [] = Unit {0}
AreForward at n (r ∷ rs) = IsForward (at + n) r.act × AreForward at (suc n) rs

-- Walks

-- a packet of class k that entered as p, at a stage whose chain has these rules in full
module _ (enter : ℕ → Transit → ChainEnd) (site : Site) (p : Packet) (k : Kind) (stage : Stage) (full : List Rule) where
  -- the walk from a place on
  abbrev pub walk_from : ℕ → Transit → ChainEnd
  walk_from at t = rules_walk enter site p k stage at (drop at full) 0 t

  -- it goes on where a rule skips to, and behind any other act as next says
  abbrev pub behind_act : (Transit → ChainEnd) → Act → Transit → ChainEnd
  behind_act next (Skip to) t = walk_from to t
  behind_act next act t = stepped enter (λ to. next) (step_of p k act t)

  -- the walk through rules, of which the first stands n places behind the place at, and from the place behind them on
  abbrev pub walk_through : ℕ → ℕ → List Rule → Transit → ChainEnd
  walk_through at n [] t = walk_from (at + n) t
  walk_through at n (r ∷ rs) t =
      if holds r.cond (sees site k stage t) then behind_act (walk_through at (suc n) rs) r.act t else walk_through at (suc n) rs t

  -- two parts of rules that stand at a place stand where they begin, and the walk from that place is the walk through the rules
  pub record GoesByPlaces : Type 0 where
    pub parts : {at : ℕ} (next : ℕ) (xs ys : List Rule) → StandAt full at (xs ++ ys) → at + length xs ≡ next → StandAt full at xs × StandAt full next ys
    pub walked : {at : ℕ} {rules : List Rule} → StandAt full at rules → AreForward at 0 rules → (t : Transit) → walk_from at t ≡ walk_through at 0 rules t

-- every walk does so
abbrev pub WalksGoByPlaces : Type 0
WalksGoByPlaces = (enter : ℕ → Transit → ChainEnd) (site : Site) (p : Packet) (k : Kind) (stage : Stage) (full : List Rule)
    → GoesByPlaces enter site p k stage full

-- Walks as proofs over diagrams speak of them

-- a packet of class k that entered as p, at a stage whose chain has these rules in full, and what is known of its walk
pub record Walk (k : Kind) (stage : Stage) : Type 0 where
  pub enter : ℕ → Transit → ChainEnd
  pub site : Site
  pub p : Packet
  pub full : List Rule
  pub law : GoesByPlaces enter site p k stage full

abbrev pub walk_of : WalksGoByPlaces → (ℕ → Transit → ChainEnd) → Site → Packet → (k : Kind) (stage : Stage) → List Rule → Walk k stage
walk_of law enter site p k stage full = record { enter = enter; site = site; p = p; full = full; law = law enter site p k stage full }

-- what its rules see
abbrev pub sight : {k : Kind} {stage : Stage} → Walk k stage → Transit → View
sight {k} {stage} w t = sees w.site k stage t

-- the walk from a place on
abbrev pub run : {k : Kind} {stage : Stage} → Walk k stage → ℕ → Transit → ChainEnd
run {k} {stage} w at t = walk_from w.enter w.site w.p k stage w.full at t

-- rules stand at a place
abbrev pub Stands : {k : Kind} {stage : Stage} → Walk k stage → ℕ → List Rule → Type 0
Stands w at rules = StandAt w.full at rules
