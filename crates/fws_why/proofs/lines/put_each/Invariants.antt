use Rattle.std.proofs.Common.{◌≡◌, ◌++◌, drop}
use Rattle.std.specs.List.{flat_map}
use Rattle.fws_why.specs.Numbers.{found_at}
use Rattle.fws_why.specs.WhyText.{used_lines}
use Rattle.fws_why.proofs.lines.put_each.Given as goal

abbrev pub invariant-loop-n : goal.invariant-loop-n
invariant-loop-n l = l.out ++ flat_map (λ n. used_lines l.labels (found_at l.numbers l.from n)) (drop l.n-index l.used)
    ≡ l.fn.out ++ flat_map (λ n. used_lines l.labels (found_at l.numbers l.from n)) l.used
