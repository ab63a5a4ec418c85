-- What is told of the rules that walks use, by the places at which these stand.
use Rattle.std.specs.Prelude.{◌≡◌, ℕ, suc, ◌+◌, ◌≤◌, Bool, true, nat_lt, List, [], ◌∷◌, ◌++◌, length, map, drop, get_or, if◌then◌else◌}
use Rattle.std.specs.List.{list_all}
use Rattle.std.specs.Option.{option_map_or}
use Rattle.fws_net.specs.declared.connection.Kind.{Kind}
use Rattle.fws_net.specs.declared.packet.Packet.{Packet}
use Rattle.fws_net.specs.declared.site.Site.{Site}
use Rattle.fws_net.specs.declared.transit.Transit.{Transit}
use Rattle.fws_net.specs.Conditions.{holds}
use Rattle.fws_net.specs.Transits.{used_by}
use Rattle.fws_ifcl.specs.declared.diagram.Act.{Act}
use Rattle.fws_ifcl.specs.declared.diagram.Act.TheVariants.{Skip}
use Rattle.fws_ifcl.specs.declared.diagram.Chain.{Chain}
use Rattle.fws_ifcl.specs.declared.diagram.Ifcl.{Ifcl}
use Rattle.fws_ifcl.specs.declared.diagram.Place.{Place}
use Rattle.fws_ifcl.specs.declared.diagram.Rule.{Rule}
use Rattle.fws_ifcl.specs.declared.diagram.Spot.{Spot}
use Rattle.fws_ifcl.specs.declared.diagram.Stage.{Stage}
use Rattle.fws_ifcl.specs.declared.step.ChainEnd.{ChainEnd}
use Rattle.fws_ifcl.specs.declared.step.ChainEnd.TheVariants.{Accepted, Dropped, Through}
use Rattle.fws_ifcl.specs.declared.step.Step.{Step}
use Rattle.fws_ifcl.specs.declared.step.Step.TheVariants.{Leave, Onwards, Enter, Switch}
use Rattle.fws_ifcl.specs.Spots.{numbers_at, told, are_spots_of}
use Rattle.fws_ifcl.specs.Uses.{rules_used, stage_used, used_places}
use Rattle.fws_ifcl.specs.Walk.{sees, step_of, stage_walk, stages_walk}
use Rattle.fws_ifcl_rules.specs.Places.{StandAt, AreForward, Walk}

-- Numbers beside rules: each rule of a chain has beside it the numbers of those rules of a configuration that are told where a walk
-- uses it

-- the spots of chain c by what is beside its rules, of which the first has the place at
abbrev pub spots_from : ℕ → ℕ → List (List ℕ) → List Spot
spots_from c at [] = []
spots_from c at (numbers ∷ beside) = map (λ n. record { rule = n; at = record { chain = c; rule = at } }) numbers ++ spots_from c (suc at) beside

-- those of chains, of which the first is chain c
abbrev pub chain_spots : ℕ → List (List (List ℕ)) → List Spot
chain_spots c [] = []
chain_spots c (beside ∷ besides) = spots_from c 0 beside ++ chain_spots (suc c) besides

-- nothing beside rules
abbrev pub untold : List Rule → List (List ℕ)
untold [] = []
untold (r ∷ rs) = [] ∷ untold rs

-- one number, beside the first of them
abbrev pub first_told : ℕ → List Rule → List (List ℕ)
first_told n [] = []
first_told n (r ∷ rs) = (n ∷ []) ∷ untold rs

-- numbers stand among all those beside the rules of a chain, the first of them at a place
pub record StandBeside (full : List (List ℕ)) (at : ℕ) (beside : List (List ℕ)) : Type 0 where
  pub rest : List (List ℕ)
  pub are : drop at full ≡ beside ++ rest

-- Walks

-- what is told behind a chain, which is nothing where it ended the stage or dropped
abbrev pub told_back : (Transit → List ℕ) → ChainEnd → List ℕ
told_back next (Accepted t) = []
told_back next Dropped = []
told_back next (Through t) = next t

-- what is told behind a rule: in the chains that it enters, by tell and enter, and in the rules behind it from a place on, by go
abbrev pub told_behind : (ℕ → Transit → List ℕ) → (ℕ → Transit → ChainEnd) → (ℕ → Transit → List ℕ) → Step → List ℕ
told_behind tell enter go (Leave end) = []
told_behind tell enter go (Onwards to t) = go to t
told_behind tell enter go (Enter c t) = tell c t ++ told_back (go 0) (enter c t)
told_behind tell enter go (Switch c t) = tell c t

-- a packet of class k that entered as p, at a stage whose chain has the number c and these rules in full, where a walk uses in other
-- chains what used says
module _ (used : ℕ → Transit → List Place) (enter : ℕ → Transit → ChainEnd) (spots : List Spot) (c : ℕ) (site : Site) (p : Packet) (k : Kind) (stage : Stage) (full : List Rule) where
  -- what is told of the walk from a place on
  abbrev pub told_from : ℕ → Transit → List ℕ
  told_from at t = told spots (rules_used used enter c site p k stage at (drop at full) 0 t)

  -- it goes on where a rule skips to, and behind any other act as next says
  abbrev pub told_act : (Transit → List ℕ) → Act → Transit → List ℕ
  told_act next (Skip to) t = told_from to t
  told_act next act t = told_behind (λ c t. told spots (used c t)) enter (λ to. next) (step_of p k act t)

  -- what is told of the walk through rules with these numbers beside them, of which the first stands n places behind the place at,
  -- and from the place behind them on
  abbrev pub told_through : ℕ → ℕ → List Rule → List (List ℕ) → Transit → List ℕ
  told_through at n [] beside t = told_from (at + n) t
  told_through at n (r ∷ rs) [] t = told_from (at + n) t
  told_through at n (r ∷ rs) (numbers ∷ beside) t =
      if holds r.cond (sees site k stage t) then numbers ++ told_act (told_through at (suc n) rs beside) r.act t
      else told_through at (suc n) rs beside t

  -- two parts of numbers that stand at a place stand where they begin, and what is told from that place is what is told through the
  -- rules and the numbers that stand there
  pub record TellsByPlaces (beside : List (List ℕ)) : Type 0 where
    pub parts : {at : ℕ} (next : ℕ) (xs ys : List (List ℕ)) → StandBeside beside at (xs ++ ys) → at + length xs ≡ next
        → StandBeside beside at xs × StandBeside beside next ys
    pub told : {at : ℕ} {rules : List Rule} {numbers : List (List ℕ)} → StandAt full at rules → StandBeside beside at numbers → AreForward at 0 rules → (t : Transit)
        → told_from at t ≡ told_through at 0 rules numbers t

-- the spots have of chain c just the numbers beside its rules
abbrev pub AreBeside : List Spot → ℕ → List (List ℕ) → Type 0
AreBeside spots c beside = (i : ℕ) → numbers_at spots (record { chain = c; rule = i }) ≡ get_or beside i []

-- Stages

-- what is told of stages, until one drops the packet
abbrev pub stages_told : List Spot → List Chain → Site → Packet → Kind → List Stage → Transit → List ℕ
stages_told spots chains site p k [] t = []
stages_told spots chains site p k (stage ∷ stages) t =
    told spots (stage_used chains site p k stage t) ++ option_map_or (stages_told spots chains site p k stages) (stage_walk chains site p k stage t) []

-- Spots that are right

-- every number is one of so many
abbrev pub are_below : ℕ → List (List ℕ) → Bool
are_below rules beside = list_all (λ numbers. list_all (λ n. nat_lt n rules) numbers) beside

-- each of the chains has a rule for all that is beside its rules, and all that is beside rules has a chain
abbrev pub FitBeside : List Chain → List (List (List ℕ)) → Type 0
FitBeside chains [] = Unit {0}
FitBeside [] (beside ∷ besides) = ⊥
FitBeside (chain ∷ chains) (beside ∷ besides) = (length beside ≤ length chain.rules) × FitBeside chains besides

-- Laws

pub record TellsOfUses : Type 0 where
  -- spots that are made of numbers beside rules have just these
  pub beside : (besides : List (List (List ℕ))) (c : ℕ) → AreBeside (chain_spots 0 besides) c (get_or besides c [])
  -- and are right
  pub right : (f : Ifcl) (rules : ℕ) (besides : List (List (List ℕ))) → list_all (are_below rules) besides ≡ true → FitBeside f.chains besides
      → are_spots_of f rules (chain_spots 0 besides) ≡ true
  -- there are as many numbers beside rules as rules
  pub untold_many : (rules : List Rule) → length (untold rules) ≡ length rules
  pub first_many : (n : ℕ) (rules : List Rule) → length (first_told n rules) ≡ length rules
  -- the spots of two parts of what is beside the rules of a chain
  pub joined : (c at next : ℕ) (xs ys : List (List ℕ)) → at + length xs ≡ next → spots_from c at (xs ++ ys) ≡ spots_from c at xs ++ spots_from c next ys
  -- of rules without numbers there are none
  pub no_spots : (c at : ℕ) (rules : List Rule) → spots_from c at (untold rules) ≡ []
  -- what is told goes by places
  pub places : (used : ℕ → Transit → List Place) (enter : ℕ → Transit → ChainEnd) (spots : List Spot) (c : ℕ) (site : Site) (p : Packet) (k : Kind) (stage : Stage)
      (full : List Rule) (beside : List (List ℕ)) → AreBeside spots c beside → TellsByPlaces used enter spots c site p k stage full beside
  -- what is told of a diagram is what is told of its stages
  pub stages : (spots : List Spot) (f : Ifcl) (site : Site) (p : Packet) (k : Kind)
      → told spots (used_places f site p k)
      ≡ used_by (stages_walk f.chains site p k f.arrive) (stages_told spots f.chains site p k f.arrive) (stages_told spots f.chains site p k f.deliver)
      (stages_told spots f.chains site p k f.forward) (stages_told spots f.chains site p k f.send) site p

-- Walks as proofs over diagrams speak of them

-- what is told of a walk, whose rules have these numbers beside them
pub record Telling {k : Kind} {stage : Stage} (w : Walk k stage) : Type 0 where
  pub used : ℕ → Transit → List Place
  pub spots : List Spot
  pub chain : ℕ
  pub beside : List (List ℕ)
  pub law : TellsByPlaces used w.enter spots chain w.site w.p k stage w.full beside

-- from a place on
abbrev pub tell : {k : Kind} {stage : Stage} {w : Walk k stage} → Telling w → ℕ → Transit → List ℕ
tell {k} {stage} {w} u at t = told_from u.used w.enter u.spots u.chain w.site w.p k stage w.full at t

-- numbers stand beside the rules at a place
abbrev pub Bears : {k : Kind} {stage : Stage} {w : Walk k stage} → Telling w → ℕ → List (List ℕ) → Type 0
Bears u at beside = StandBeside u.beside at beside
