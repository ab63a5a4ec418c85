use Rattle.std.proofs.Common.{length}
use Rattle.fws_exec.proofs.parts.+execute_parts.Given as goal

abbrev pub decreases-execute_parts : goal.decreases-execute_parts
decreases-execute_parts l = length l.cuts.now
