-- Lists of decisions, of which the first whose condition holds counts.
use Rattle.std.specs.Prelude.{◌≡◌, Bool, Option, Some, None, List, [], ◌∷◌, ◌++◌, if◌then◌else◌}
use Rattle.fws_net.specs.declared.view.View.{View}
use Rattle.fws_net.specs.Conditions.{holds}
use Rattle.fws_join.specs.declared.decision.Decision.{Decision}

-- whether packets pass by the first one whose condition holds
abbrev pub first_verdict : View → List Decision → Option Bool
first_verdict v [] = None
first_verdict v (one ∷ more) = if holds one.cond v then Some one.passes else first_verdict v more

-- decisions stand for others: whatever rules see, the first one says the same
abbrev pub StandsFor : List Decision → List Decision → Type 0
StandsFor some others = (v : View) → first_verdict v some ≡ first_verdict v others

-- decisions stand for themselves; for what stands for others they stand for these; and with further ones behind both
pub record StandsByParts : Type 0 where
  pub same : (some : List Decision) → StandsFor some some
  pub through : (first second third : List Decision) → StandsFor first second → StandsFor second third → StandsFor first third
  pub longer : (some others more : List Decision) → StandsFor some others → StandsFor (some ++ more) (others ++ more)
