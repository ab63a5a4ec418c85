use Rattle.std.proofs.Common.{◌≡◌, ◌-◌, nat_eq}
use Rattle.std.specs.List.{find, range_with_len}
use Rattle.fws_ios.specs.Values.{wildcard_len, wildcard_of}
use Rattle.fws_ios_read.proofs.values.wildcard_len.Given as goal

abbrev pub invariant-loop-len : goal.invariant-loop-len
invariant-loop-len l = find (λ n. nat_eq (wildcard_of n) l.wildcard) (range_with_len l.len (33 - l.len)) ≡ wildcard_len l.wildcard
