-- How large the values of a canvas are.
use Rattle.std.specs.Prelude.{ℕ, ◌<◌, List}
use Rattle.fws_box.specs.Sides.{IsWithin}
use Rattle.fws_tree.specs.declared.canvas.Canvas.{Canvas}
use Rattle.fws_tree.specs.Painted.{tops_of, value_at}

-- each point within the tops has one of the first sixteen values
abbrev pub IsSmall : Canvas → Type 0
IsSmall canvas = (p : List ℕ) → IsWithin (tops_of canvas) p → value_at canvas p < 16
