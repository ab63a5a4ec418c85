-- What contracts see of a canvas: its tops, what it has at a point, and the bits of its values.
use Rattle.std.specs.Prelude.{ℕ, List}
use Rattle.fws_tree.specs.declared.canvas.Canvas.{Canvas}
use Rattle.fws_tree.specs.Held.{held_at}

-- the greatest value of each field
abbrev pub tops_of : Canvas → List ℕ
tops_of c = c.tops

-- the value at a point, by its number
abbrev pub value_at : Canvas → List ℕ → ℕ
value_at c p = held_at c.store c.root p

-- the bits of the values, by their numbers
abbrev pub values_of : Canvas → List ℕ
values_of c = c.values
