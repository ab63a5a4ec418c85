-- Two sets of points, of which a list permits the one and denies the other, as wide as they can be.
use Rattle.std.specs.Prelude.{◌≡◌, ℕ, Bool, true, false, ◌&&◌, ◌||◌, not, Some, List}
use Rattle.fws_box.specs.Sides.{IsWithin}
use Rattle.fws_ios_put_entries.specs.Seen.{IsListed}
use Rattle.fws_ios_put_sources.specs.declared.parted.Parted.{Parted}
use Rattle.fws_ios_put_sources.specs.Picking.{HasPicked}
use Rattle.fws_net.specs.declared.outcome.Outcome.{Outcome}
use Rattle.fws_tree.specs.Changed.{is_free}
use Rattle.fws_tree.specs.Plain.{Plain, value}

-- no point is in both
abbrev pub AreApart : List ℕ → Plain Bool → Plain Bool → Type 0
AreApart tops t u = (x : List ℕ) → IsWithin tops x → value t x ≡ Some true → value u x ≡ Some true → ⊥

-- the tree tells of each point whether it is in the set
abbrev pub IsTotal : List ℕ → Plain Bool → Type 0
IsTotal tops t = (x : List ℕ) → IsWithin tops x → (b : Bool) × (value t x ≡ Some b)

-- two sets over the same points that are apart, of which lists can tell the first one
pub record IsParted (s : Parted) : Type 0 where
  pub tops : s.denied.0 ≡ s.permitted.0
  pub total : IsTotal s.permitted.0 s.permitted.1
  pub apart : AreApart s.permitted.0 s.permitted.1 s.denied.1
  pub listed : IsListed s.permitted.0 (value s.permitted.1)

-- the one set has all points of the other
abbrev pub IsWider : List ℕ → Plain Bool → Plain Bool → Type 0
IsWider tops old new = (x : List ℕ) → IsWithin tops x → value old x ≡ Some true → value new x ≡ Some true

-- both sets have all that they had
pub record AreWider (old new : Parted) : Type 0 where
  pub tops : new.permitted.0 ≡ old.permitted.0
  pub permitted : IsWider old.permitted.0 old.permitted.1 new.permitted.1
  pub denied : IsWider old.permitted.0 old.denied.1 new.denied.1

-- with the protocol what only some protocols have is among the fields, the ports and the type
abbrev pub keeps_look : ℕ → Bool
keeps_look fields = not (is_free fields 1) || (is_free fields 3 && (is_free fields 5 && is_free fields 7))

-- the sets of the list at a place: the one has the packets to which it gives a source, and the other those that later lists and none give one
pub record IsPartedAt (tops : List ℕ) (t : Plain Outcome) (addrs : List ℕ) (place : ℕ) (s : Parted) : Type 0 where
  pub tops_are : s.permitted.0 ≡ tops
  pub parted : IsParted s
  pub permits : HasPicked tops t addrs place false s.permitted.1
  pub denies : HasPicked tops t addrs place true s.denied.1
