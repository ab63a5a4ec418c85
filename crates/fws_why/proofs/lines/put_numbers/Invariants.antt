use Rattle.std.proofs.Common.{◌≡◌, ◌++◌, drop}
use Rattle.fws_why.specs.WhyText.{used_lines}
use Rattle.fws_why.proofs.lines.put_numbers.Given as goal

abbrev pub invariant-loop-n : goal.invariant-loop-n
invariant-loop-n l = l.out ++ used_lines l.labels (drop l.n-index l.numbers) ≡ l.fn.out ++ used_lines l.labels l.numbers
