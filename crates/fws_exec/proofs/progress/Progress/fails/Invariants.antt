use Rattle.std.proofs.Common.{◌≡◌, true, take}
use Rattle.fws_exec.specs.Views.{tags_fit}
use Rattle.fws_exec.proofs.progress.Progress.fails.Given as goal

abbrev pub invariant-loop-lit : goal.invariant-loop-lit
invariant-loop-lit l = tags_fit l.self.tags (take l.lit-index l.cond) ≡ true
