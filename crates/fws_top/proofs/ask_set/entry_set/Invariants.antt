use Rattle.std.proofs.Common.{◌≡◌, ℕ, ◌&&◌}
use Rattle.std.specs.Prelude.{nat_lt}
use Rattle.std.specs.Str.{bytes_eq}
use Rattle.fws_iv.specs.Ivs.{has}
use Rattle.fws_table.specs.TableText.{entry_name}
use Rattle.fws_top.proofs.ask_set.entry_set.Given as goal

abbrev pub invariant-loop-entry : goal.invariant-loop-entry
invariant-loop-entry l = (x : ℕ) → has l.set x ≡ (nat_lt x l.entry && bytes_eq (entry_name l.site x) l.name)
