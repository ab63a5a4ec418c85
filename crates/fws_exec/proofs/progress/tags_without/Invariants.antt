use Rattle.std.proofs.Common.{◌≡◌, nat_eq, take}
use Rattle.std.specs.Prelude.{not}
use Rattle.std.specs.List.{filter}
use Rattle.fws_exec.proofs.progress.tags_without.Given as goal

abbrev pub invariant-loop-own : goal.invariant-loop-own
invariant-loop-own l = l.kept ≡ filter (λ own. not (nat_eq l.tag own)) (take l.own-index l.tags)
