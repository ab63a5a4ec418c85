use Rattle.std.proofs.Common.{◌≡◌, Bool, true, false, Option, Some, None, List, refl, subst, sym, All, Contains, MatchOption}
use Rattle.std.specs.Prelude.{ℕ, option_map}
use Rattle.fws_iv.specs.declared.iv.Iv.{Iv}
use Rattle.fws_place.specs.Found.{IsTrueIn}
use Rattle.fws_place.specs.Sides.{leasts}
use Rattle.fws_tree.specs.declared.row.Row.{Row}
use Rattle.fws_tree.specs.Rows.{paths_of}
use Rattle.fws_place.proofs.Finding.{found_in_tree}
use Rattle.fws_place.proofs.first_true.first_true.Goals as goal

-- the least point of a path that is true
least_found : (rows : List (Row Bool)) (found : Option (List (List Iv)))
    → MatchOption found (All (λ row. row.leaf ≡ false) rows) (λ sides. Contains rows (record { sides = sides; leaf = true }))
    → MatchOption (option_map leasts found) (All (λ row. row.leaf ≡ false) rows) (IsTrueIn rows)
least_found rows None h = h
least_found rows (Some sides) h = (record { sides = sides; leaf = true }, h, refl, refl)

pub returns : goal.returns
returns c =
    let first = c.in_ok-first.ensures in
    let rows = paths_of c.args.tree.now.0 c.args.tree.now.1 in
    found_in_tree c.args.tree.now.0 c.args.tree.now.1 rows c.least_point.result c.tops-tops.ensures.reduced refl first.once first.right
    (rw c.least_point.ensures (least_found rows c.in_ok-first.first first.first))
