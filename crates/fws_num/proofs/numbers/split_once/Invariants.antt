use Rattle.std.proofs.Common.{◌≡◌, ◌++◌, take, drop}
use Rattle.std.specs.Option.{option_map}
use Rattle.fws_num.specs.Numbers.{split_once}
use Rattle.fws_num.proofs.numbers.split_once.Given as goal

abbrev pub invariant-loop-i : goal.invariant-loop-i
invariant-loop-i l = split_once l.byte l.text ≡ option_map (λ parts. (take l.i l.text ++ parts.0, parts.1)) (split_once l.byte (drop l.i l.text))
