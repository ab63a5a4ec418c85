-- Execution in parts.
use Rattle.fws_net.specs.declared.outcome.Outcome.{Outcome}
use Rattle.fws_net.specs.declared.outcome.Outcome.TheVariants.{Drop, Accept}

-- of two outcomes the second where the first is to drop
abbrev pub either : Outcome → Outcome → Outcome
either Drop o = o
either (Accept w) o = Accept w
