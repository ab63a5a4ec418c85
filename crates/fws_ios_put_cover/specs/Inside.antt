-- Boxes within a set of points, and the paths of their packets.
use Rattle.std.specs.Prelude.{◌≡◌, ◌⊎◌, ℕ, ◌≤◌, ◌<◌, Bool, true, ◌&&◌, ◌||◌, not, Some, List, length, slice_index, slice_set, All}
use Rattle.std.specs.List.{list_any}
use Rattle.fws_box.specs.Sides.{IsWithin, sides_have}
use Rattle.fws_iv.specs.declared.iv.Iv.{Iv}
use Rattle.fws_iv.specs.Ivs.{has}
use Rattle.fws_net.specs.declared.packet.Packet.{Packet}
use Rattle.fws_net.specs.declared.site.Site.{Site}
use Rattle.fws_net.specs.Points.{tops_of}
use Rattle.fws_tree.specs.declared.row.Row.{Row}
use Rattle.fws_tree.specs.Plain.{Plain, value}
use Rattle.fws_ios_put_entries.specs.declared.path.Path.{Path}
use Rattle.fws_ios_put_entries.specs.Paths.{some_path_has}
use Rattle.fws_ios_put_entries.specs.Seen.{IsSeenAt, LookSame}
use Rattle.fws_ios_put_cover.specs.declared.class.Class.{Class}
use Rattle.fws_ios_put_cover.specs.Boxes.{is_whole, part, IsAsked}
use Rattle.fws_ios_put_cover.specs.Classes.{is_tcp, takes, whole}
use Rattle.fws_ios_put_cover.specs.Steps.{IsUsable}

-- the set has all points of the box
abbrev pub IsInside : List ℕ → Plain Bool → List (List Iv) → Type 0
IsInside tops within sides = (y : List ℕ) → IsWithin tops y → sides_have sides y ≡ true → value within y ≡ Some true

-- the set has all points that look the same as one of the box
abbrev pub LooksInside : List ℕ → Plain Bool → List (List Iv) → Type 0
LooksInside tops within sides = (x y : List ℕ) → IsWithin tops x → IsWithin tops y → sides_have sides x ≡ true → LookSame x y → value within y ≡ Some true

-- a box with a point and no values past the tops
pub record IsFilledBox (tops : List ℕ) (sides : List (List Iv)) : Type 0 where
  pub twelve : length sides ≡ 12
  pub low : (f v : ℕ) → f < 12 → has (part sides f) v ≡ true → v ≤ slice_index tops f
  pub point : List ℕ
  pub point_within : IsWithin tops point
  pub has_point : sides_have sides point ≡ true

-- a row that is true has a point, and all that looks the same as one of its points is in the set
abbrev pub IsGoodRow : List ℕ → Plain Bool → Row Bool → Type 0
IsGoodRow tops within row = row.leaf ≡ true → IsFilledBox tops row.sides × LooksInside tops within row.sides

-- a box that entries can ask for, with points of the set alone
pub record IsGoodBox (established : Bool) (tops : List ℕ) (within : Plain Bool) (sides : List (List Iv)) : Type 0 where
  pub asked : IsAsked established tops sides
  pub inside : IsInside tops within sides

-- a field isn't asked any more, where the box stays in the set
abbrev pub IsWidened : List ℕ → Plain Bool → ℕ → List (List Iv) → List (List Iv) → Type 0
IsWidened tops within f old new = (new ≡ old) ⊎ ((new ≡ slice_set old f (whole tops f)) × IsInside tops within new)

-- a good box with all points of another
pub record IsWider (established : Bool) (tops : List ℕ) (within : Plain Bool) (old new : List (List Iv)) : Type 0 where
  pub good : IsGoodBox established tops within new
  pub grows : (x : List ℕ) → IsWithin tops x → sides_have old x ≡ true → sides_have new x ≡ true

-- the box without some fields is as good, whatever the site
abbrev pub Widens : Bool → List ℕ → Plain Bool → List (List Iv) → List (List Iv) → Type 0
Widens established tops within old new = (site : Site) → tops ≡ tops_of site → IsGoodBox established tops within old → IsWider established tops within old new

-- a port or a type is asked
abbrev pub asks_details : List (List Iv) → Bool
asks_details sides = not (is_whole 65535 (part sides 3)) || (not (is_whole 65535 (part sides 5)) || not (is_whole 255 (part sides 7)))

-- packets on the paths are in the set
abbrev pub ArePathsInside : Site → Plain Bool → List Path → Type 0
ArePathsInside site within paths = (p : Packet) (x : List ℕ) → IsWithin (tops_of site) x → IsSeenAt p x → some_path_has paths p ≡ true
    → value within x ≡ Some true

-- further paths that lead into the set
pub record AreFurther (site : Site) (established : Bool) (within : Plain Bool) (old new : List Path) : Type 0 where
  pub usable : All (IsUsable established) old → All (IsUsable established) new
  pub inside : ArePathsInside site within old → ArePathsInside site within new
  pub grows : (p : Packet) → some_path_has old p ≡ true → some_path_has new p ≡ true

-- the paths have the packets of a class in a box
abbrev pub HaveClass : Site → Class → List (List Iv) → List Path → Type 0
HaveClass site class sides paths = (p : Packet) (x : List ℕ) → IsWithin (tops_of site) x → IsSeenAt p x → sides_have sides x ≡ true → takes class p.proto ≡ true
    → some_path_has paths p ≡ true

-- the paths of the packets of a class in a box
pub record AreClassPaths (site : Site) (class : Class) (within : Plain Bool) (sides : List (List Iv)) (paths : List Path) : Type 0 where
  pub usable : All (IsUsable (is_tcp class)) paths
  pub inside : ArePathsInside site within paths
  pub have : HaveClass site class sides paths

-- the paths have the packets of a box; where `established` is asked, those of TCP
abbrev pub HaveBox : Site → Bool → List (List Iv) → List Path → Type 0
HaveBox site established sides paths = (p : Packet) (x : List ℕ) → IsWithin (tops_of site) x → IsSeenAt p x → sides_have sides x ≡ true
    → (established ≡ true → p.proto ≡ 6)
    → some_path_has paths p ≡ true

-- a row that is true has the point
abbrev pub true_row_has : List (Row Bool) → List ℕ → Bool
true_row_has rows x = list_any (λ row. row.leaf && sides_have row.sides x) rows

-- the paths have the packets of the rows that are true
abbrev pub HaveRows : Site → Bool → List (Row Bool) → List Path → Type 0
HaveRows site established rows paths = (p : Packet) (x : List ℕ) → IsWithin (tops_of site) x → IsSeenAt p x → true_row_has rows x ≡ true
    → (established ≡ true → p.proto ≡ 6)
    → some_path_has paths p ≡ true
