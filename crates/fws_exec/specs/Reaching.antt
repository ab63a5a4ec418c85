-- Which instructions some packet uses.
use Rattle.std.specs.Prelude.{◌≡◌, ℕ, Bool, true, false, Some, List, length, slice_get}
use Rattle.fws_box.specs.Sides.{IsWithin, sides_have}
use Rattle.fws_iv.specs.declared.iv.Iv.{Iv}
use Rattle.fws_flat.specs.declared.code.Flat.{Flat}
use Rattle.fws_flat.specs.Uses.{uses}
use Rattle.fws_net.specs.declared.packet.State.{State}
use Rattle.fws_net.specs.declared.site.Site.{Site}
use Rattle.fws_net.specs.Points.{packet_of, tops_of}
use Rattle.fws_exec.specs.Classes.{kind_of}

-- the sides have each point of the site
abbrev pub HaveAll : Site → List (List Iv) → Type 0
HaveAll site sides = (p : List ℕ) → IsWithin (tops_of site) p → sides_have sides p ≡ true

-- the packet of some point of the site uses the instruction with this number
abbrev pub IsReached : Flat → Site → State → ℕ → Type 0
IsReached f site state n = (p : List ℕ) × IsWithin (tops_of site) p × (uses f site (packet_of p) (kind_of state p) n ≡ true)

-- none does
abbrev pub IsUnreached : Flat → Site → State → ℕ → Type 0
IsUnreached f site state n = (p : List ℕ) → IsWithin (tops_of site) p → uses f site (packet_of p) (kind_of state p) n ≡ false

-- these are the answers for the instructions of the code, one by one: whether some packet of the site uses it
pub record AreReached (f : Flat) (site : Site) (state : State) (answers : List Bool) : Type 0 where
  pub count : length answers ≡ length f.code
  pub reached : (n : ℕ) → slice_get answers n ≡ Some true → IsReached f site state n
  pub unreached : (n : ℕ) → slice_get answers n ≡ Some false → IsUnreached f site state n
