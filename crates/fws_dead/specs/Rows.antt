-- Whether outcomes come to the same fates at the points of a row.
use Rattle.std.specs.Prelude.{◌≡◌, ℕ, ◌≤◌, true, List, [], length, slice_index, slice_index_or}
use Rattle.fws_box.specs.Sides.{IsWithin, sides_have}
use Rattle.fws_iv.specs.declared.iv.Iv.{Iv}
use Rattle.fws_iv.specs.Ivs.{has}
use Rattle.fws_net.specs.declared.outcome.Outcome.{Outcome}
use Rattle.fws_net.specs.declared.outcome.Rewrite.{Rewrite}
use Rattle.fws_net.specs.declared.packet.State.{State}
use Rattle.fws_net.specs.Connections.{fate_in}
use Rattle.fws_net.specs.Fates.{sent_port}
use Rattle.fws_net.specs.Points.{packet_of}
use Rattle.fws_trace.specs.Outcomes.{kind_of}
use Rattle.fws_dead.specs.Points.{AreTops}

-- the sides of a row: twelve sets of values up to the tops of a site
pub record IsRow (tops : List ℕ) (sides : List (List Iv)) : Type 0 where
  pub tops_are : AreTops tops
  pub twelve : length sides ≡ 12
  pub within : (k v : ℕ) → has (slice_index_or sides k []) v ≡ true → v ≤ slice_index tops k

-- the outcomes come to the same fate of the packet of a point
abbrev pub IsAlikeAt : State → Outcome → Outcome → List ℕ → Type 0
IsAlikeAt state x y p = fate_in x (packet_of p) (kind_of state p) ≡ fate_in y (packet_of p) (kind_of state p)

-- they do so at each point of the row
abbrev pub AreAlikeIn : State → List ℕ → List (List Iv) → Outcome → Outcome → Type 0
AreAlikeIn state tops sides x y = (p : List ℕ) → IsWithin tops p → sides_have sides p ≡ true → IsAlikeAt state x y p

-- the point is one of the row, and they don't do so there
pub record IsApartIn (state : State) (tops : List ℕ) (sides : List (List Iv)) (x y : Outcome) (p : List ℕ) : Type 0 where
  pub inside : IsWithin tops p
  pub had : sides_have sides p ≡ true
  pub differ : IsAlikeAt state x y p → ⊥

-- two rewritings send on the ports of each point of the row alike
abbrev pub ArePortsAlike : List ℕ → List (List Iv) → Rewrite → Rewrite → Type 0
ArePortsAlike tops sides v w = (p : List ℕ) → IsWithin tops p → sides_have sides p ≡ true
    → (sent_port (slice_index p 1) v.dst (slice_index p 3) ≡ sent_port (slice_index p 1) w.dst (slice_index p 3))
    × (sent_port (slice_index p 1) v.src (slice_index p 5) ≡ sent_port (slice_index p 1) w.src (slice_index p 5))
