-- Rulings, of which the first whose condition holds counts.
use Rattle.std.specs.Prelude.{◌≡◌, Bool, Option, List, [], ◌∷◌, ◌++◌, map, if◌then◌else◌}
use Rattle.fws_net.specs.declared.outcome.End.{End}
use Rattle.fws_net.specs.declared.view.View.{View}
use Rattle.fws_net.specs.Conditions.{holds}
use Rattle.fws_join.specs.declared.decision.Decision.{Decision}
use Rattle.fws_pfo_ifcl.specs.declared.ruling.Ruling.{Ruling}
use Rattle.fws_pfo_ifcl.specs.declared.rulings.Rulings.{Rulings}

-- what is said of a packet: nothing, that it is dropped, or that it passes with an end or with none
pub data Said : Type 0 where
  unsaid : Said
  dropping : Said
  passing : Option End → Said

abbrev pub said : Bool → Option End → Said
said passes to = if passes then passing to else dropping

-- what the first one whose condition holds says
abbrev pub first_said : View → List Ruling → Said
first_said v [] = unsaid
first_said v (one ∷ more) = if holds one.cond v then said one.passes one.to else first_said v more

-- rulings stand for others: whatever rules see, the first one says the same
abbrev pub StandFor : List Ruling → List Ruling → Type 0
StandFor some others = (v : View) → first_said v some ≡ first_said v others

-- a decision, where packets that pass have this end
abbrev pub ruling_of : Option End → Decision → Ruling
ruling_of to one = record { cond = one.cond; passes = one.passes; to = to }

-- all that were put
abbrev pub rulings_of : Rulings → List Ruling
rulings_of all = all.finished ++ map (ruling_of all.to) all.decisions
