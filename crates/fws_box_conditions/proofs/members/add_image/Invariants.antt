use Rattle.std.proofs.Common.{◌≡◌, ◌+◌, ◌-◌, ◌&&◌, ◌||◌, ℕ, nat_le, take}
use Rattle.fws_iv.specs.Ivs.{has}
use Rattle.fws_box_conditions.proofs.members.add_image.Given as goal

abbrev pub invariant-loop-part : goal.invariant-loop-part
invariant-loop-part l = (a : ℕ) → has l.out a ≡ (has l.fn.out a || (nat_le l.start a && has (take l.part-index l.part-items) (l.base + (a - l.start))))
