use Rattle.std.proofs.Common.{◌≡◌, ◌-◌, nat_eq}
use Rattle.std.specs.List.{find, range_with_len}
use Rattle.fws_num.specs.Numbers.{mask_len, mask_of}
use Rattle.fws_num.proofs.prefixes.mask_len.Given as goal

abbrev pub invariant-loop-len : goal.invariant-loop-len
invariant-loop-len l = find (λ n. nat_eq (mask_of n) l.mask) (range_with_len l.len (33 - l.len)) ≡ mask_len l.mask
