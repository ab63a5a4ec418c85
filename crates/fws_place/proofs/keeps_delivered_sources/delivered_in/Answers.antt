use Rattle.std.proofs.Common.{◌≡◌, List, sym, subst, length, All}
use Rattle.fws_net.specs.declared.outcome.Outcome.{Outcome}
use Rattle.fws_tree.specs.declared.row.Row.{Row}
use Rattle.fws_place.proofs.DeliveredRows.{twelve_of_paths}
use Rattle.fws_place.proofs.keeps_delivered_sources.delivered_in.Goals as goal

pub first_delivered-requires : goal.first_delivered-requires
first_delivered-requires c =
    subst (λ (l : List (Row Outcome)). All (λ row. length row.sides ≡ 12) l) (sym c.deref.ensures.value)
    (twelve_of_paths c.args.tree.now c.in_ok-rows.rows.items c.tops-tops.ensures.twelve c.tops-tops.ensures.reduced c.in_ok-rows.ensures.rows)
