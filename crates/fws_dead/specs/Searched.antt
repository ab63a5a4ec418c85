-- What a search for different fates finds.
use Rattle.std.specs.Prelude.{◌≡◌, ℕ, true, ◌&&◌, Option, Some, None, List, [], slice_index_or, slice_set}
use Rattle.fws_box.specs.Sides.{IsWithin, sides_have}
use Rattle.fws_iv.specs.declared.iv.Iv.{Iv}
use Rattle.fws_iv.specs.Ivs.{has}
use Rattle.fws_net.specs.declared.connection.Kind.{Kind}
use Rattle.fws_net.specs.declared.outcome.Outcome.{Outcome}
use Rattle.fws_net.specs.declared.packet.Packet.{Packet}
use Rattle.fws_net.specs.declared.packet.State.{State}
use Rattle.fws_net.specs.declared.site.Site.{Site}
use Rattle.fws_net.specs.Connections.{fate_in}
use Rattle.fws_net.specs.Points.{tops_of, packet_of}
use Rattle.fws_trace.specs.Outcomes.{kind_of}
use Rattle.fws_tree.specs.Plain.{Plain, value}
use Rattle.fws_dead.specs.declared.compare.Compare.{Compare}
use Rattle.fws_dead.specs.declared.compare.Compare.TheVariants.{Same, Differ}
use Rattle.fws_dead.specs.Compared.{class_of}
use Rattle.fws_dead.specs.Points.{bounds}
use Rattle.fws_dead.specs.Rows.{IsAlikeAt}

-- the sides, of which one has the members of a set alone
pub record IsNarrowed (sides : List (List Iv)) (f : ℕ) (set : List Iv) (next : List (List Iv)) : Type 0 where
  pub common : List Iv
  pub is : next ≡ slice_set sides f common
  pub members : (v : ℕ) → has common v ≡ (has (slice_index_or sides f []) v && has set v)

-- two outcomes that aren't equal, if they aren't, come to the same fate of the packet of a point
abbrev pub IsAlikeFor : State → Option (Outcome × Outcome) → List ℕ → Type 0
IsAlikeFor state None p = Unit {0}
IsAlikeFor state (Some pair) p = IsAlikeAt state pair.0 pair.1 p

abbrev pub DifferFor : State → Option (Outcome × Outcome) → List ℕ → Type 0
DifferFor state None p = ⊥
DifferFor state (Some pair) p = IsAlikeAt state pair.0 pair.1 p → ⊥

-- they do so at each point of the sides
abbrev pub AreAlikeFor : State → List ℕ → List (List Iv) → Option (Outcome × Outcome) → Type 0
AreAlikeFor state tops sides leaf = (p : List ℕ) → IsWithin tops p → sides_have sides p ≡ true → IsAlikeFor state leaf p

-- the point is one of the sides, and they don't do so there
pub record IsApartFor (state : State) (tops : List ℕ) (sides : List (List Iv)) (leaf : Option (Outcome × Outcome)) (p : List ℕ) : Type 0 where
  pub inside : IsWithin tops p
  pub had : sides_have sides p ≡ true
  pub differ : DifferFor state leaf p

-- the outcomes that a tree has at each point of the sides come to the same fate
abbrev pub AreAlikeBelow : State → List ℕ → List (List Iv) → Plain (Option (Outcome × Outcome)) → Type 0
AreAlikeBelow state tops sides t = (p : List ℕ) (leaf : Option (Outcome × Outcome)) → IsWithin tops p → sides_have sides p ≡ true → value t p ≡ Some leaf → IsAlikeFor state leaf p

-- the point is one of the sides, and those that it has there don't
pub record IsApartBelow (state : State) (tops : List ℕ) (sides : List (List Iv)) (t : Plain (Option (Outcome × Outcome))) (p : List ℕ) : Type 0 where
  pub inside : IsWithin tops p
  pub had : sides_have sides p ≡ true
  pub found : Option (Outcome × Outcome)
  pub found_is : value t p ≡ Some found
  pub differ : DifferFor state found p

-- the same of the points for packets of a kind
abbrev pub AreAlikeWithin : State → List ℕ → Plain (Option (Outcome × Outcome)) → Type 0
AreAlikeWithin state tops t = (p : List ℕ) (leaf : Option (Outcome × Outcome)) → IsWithin (bounds state tops) p → value t p ≡ Some leaf → IsAlikeFor state leaf p

pub record IsApartWithin (state : State) (tops : List ℕ) (t : Plain (Option (Outcome × Outcome))) (p : List ℕ) : Type 0 where
  pub inside : IsWithin (bounds state tops) p
  pub found : Option (Outcome × Outcome)
  pub found_is : value t p ≡ Some found
  pub differ : DifferFor state found p

-- two trees have outcomes at the point, which come to the same fate
pub record AreValuesAlikeAt (state : State) (first second : Plain Outcome) (p : List ℕ) : Type 0 where
  pub one : Outcome
  pub two : Outcome
  pub first_is : value first p ≡ Some one
  pub second_is : value second p ≡ Some two
  pub alike : IsAlikeAt state one two p

-- they do so at each point for packets of a kind
abbrev pub AreValuesAlike : State → List ℕ → Plain Outcome → Plain Outcome → Type 0
AreValuesAlike state tops first second = (p : List ℕ) → IsWithin (bounds state tops) p → AreValuesAlikeAt state first second p

-- the point is one for packets of a kind, and the outcomes of two trees there come to different fates
pub record AreValuesApart (state : State) (tops : List ℕ) (first second : Plain Outcome) (p : List ℕ) : Type 0 where
  pub inside : IsWithin (bounds state tops) p
  pub one : Outcome
  pub two : Outcome
  pub first_is : value first p ≡ Some one
  pub second_is : value second p ≡ Some two
  pub differ : IsAlikeAt state one two p → ⊥

-- it is said of a packet of a class with these outcomes that its fates differ
abbrev pub IsDiffering : Packet → Kind → Outcome → Outcome → Compare → Type 0
IsDiffering p k x y Same = ⊥
IsDiffering p k x y (Differ at first second) = (at.packet ≡ p) × (class_of at.rec ≡ k) × (first ≡ fate_in x p k) × (second ≡ fate_in y p k)

-- a packet is told of which two trees have outcomes at its point that come to these fates, which differ
pub record IsDifference (site : Site) (state : State) (first second : Plain Outcome) (comparison : Compare) : Type 0 where
  pub point : List ℕ
  pub apart : AreValuesApart state (tops_of site) first second point
  pub told : IsDiffering (packet_of point) (kind_of state point) apart.one apart.two comparison

-- what is said of two trees of packets of a kind
abbrev pub IsComparedIn : Site → State → Plain Outcome → Plain Outcome → Compare → Type 0
IsComparedIn site state first second Same = AreValuesAlike state (tops_of site) first second
IsComparedIn site state first second (Differ at one two) = IsDifference site state first second (Differ at one two)
