use Rattle.std.proofs.Common.{◌≡◌, ℕ, ◌≤◌, ◌||◌, length}
use Rattle.std.specs.Prelude.{slice_index}
use Rattle.std.specs.List.{list_any}
use Rattle.fws_iv.specs.Ivs.{has}
use Rattle.fws_net.specs.Points.{tops_of}
use Rattle.fws_top.specs.Asks.{item_has, items_of, number_of}
use Rattle.fws_top.proofs.ask_set.items_set.Given as goal

abbrev pub invariant-loop-item : goal.invariant-loop-item
invariant-loop-item l = (x : ℕ) → x ≤ slice_index (tops_of l.site) (number_of l.subject)
    → (has l.values x || list_any (λ item. item_has l.site l.subject item x) (items_of l.rest)) ≡ list_any (λ item. item_has l.site l.subject item x) (items_of l.fn.set)

abbrev pub decreases-loop-item : goal.decreases-loop-item
decreases-loop-item l = length l.rest
