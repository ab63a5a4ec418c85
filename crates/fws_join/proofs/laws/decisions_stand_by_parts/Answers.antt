use Rattle.fws_join.proofs.Standing.{stands_longer, stands_same, stands_through}
use Rattle.fws_join.proofs.laws.decisions_stand_by_parts.Goals as goal

pub returns : goal.returns
returns c = record { same = stands_same; through = stands_through; longer = stands_longer }
