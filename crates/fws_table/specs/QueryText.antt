-- The text of a query: the paths of the tree that is changed to nothing where the packets aren't asked for.
use Rattle.std.specs.Prelude.{◌≡◌, ℕ, Bool, true, not, Option, Some, None, option_and_then, List, [], ◌∷◌, codes, if◌then◌else◌}
use Rattle.std.specs.List.{flat_map}
use Rattle.fws_iv.specs.declared.iv.Iv.{Iv}
use Rattle.fws_net.specs.declared.outcome.Outcome.{Outcome}
use Rattle.fws_net.specs.declared.outcome.Outcome.TheVariants.{Drop, Accept}
use Rattle.fws_net.specs.declared.packet.State.{State}
use Rattle.fws_net.specs.declared.site.Site.{Site}
use Rattle.fws_net.specs.Points.{tops_of}
use Rattle.fws_tree.specs.declared.row.Row.{Row}
use Rattle.fws_tree.specs.Plain.{Plain, value, IsReduced}
use Rattle.fws_box.specs.Sides.{IsWithin, sides_have}
use Rattle.fws_tree.specs.Rows.{paths_of}
use Rattle.fws_table.specs.declared.ask.Ask.{Ask}
use Rattle.fws_table.specs.TableText.{rows_text}

-- an outcome of the asked verdict; None asks for both
abbrev pub is_verdict : Option Bool → Outcome → Bool
is_verdict None outcome = true
is_verdict (Some accepted) Drop = not accepted
is_verdict (Some accepted) (Accept w) = accepted

-- the outcome, if it is of the asked verdict
abbrev pub asked_leaf : Option Bool → Outcome → Option Outcome
asked_leaf verdict outcome = if is_verdict verdict outcome then Some outcome else None

-- what the changed tree has at a point in place of a value: nothing off the asked sides and verdict
abbrev pub asked_value : Ask → List ℕ → Option Outcome → Option Outcome
asked_value ask p v = if sides_have ask.sides p then option_and_then (asked_leaf ask.verdict) v else None

-- a row with these sides, if it holds something
abbrev pub held_row : List (List Iv) → Option Outcome → List (Row Outcome)
held_row sides None = []
held_row sides (Some outcome) = record { sides = sides; leaf = outcome } ∷ []

-- the rows that hold something
abbrev pub held_rows : List (Row (Option Outcome)) → List (Row Outcome)
held_rows rows = flat_map (λ row. held_row row.sides row.leaf) rows

-- the paths of a changed tree that hold something
abbrev pub query_text : Site → State → Plain (Option Outcome) → List ℕ
query_text site state t = rows_text (codes "query") site state (held_rows (paths_of (tops_of site) t))

-- the text of the reduced changed tree
pub record IsQuery (site : Site) (state : State) (t : Plain Outcome) (ask : Ask) (text : List ℕ) : Type 0 where
  pub tree : Plain (Option Outcome)
  pub reduced : IsReduced (tops_of site) tree
  pub changed : (p : List ℕ) → IsWithin (tops_of site) p → value tree p ≡ Some (asked_value ask p (value t p))
  pub spelled : text ≡ query_text site state tree
