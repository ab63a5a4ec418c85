-- What a packet reaches in a tree of which it shows some fields.
use Rattle.std.specs.Prelude.{◌≡◌, ◌⊎◌, ℕ, ◌≤◌, true, Some, List, slice_index}
use Rattle.fws_iv.specs.declared.iv.Iv.{Iv}
use Rattle.fws_iv.specs.Ivs.{has}
use Rattle.fws_net.specs.declared.packet.Packet.{Packet}
use Rattle.fws_tree.specs.Plain.{Plain, leaf, cut, Kids, none, kid}
use Rattle.fws_tree_seen.specs.declared.seen.Seen.{Seen}
use Rattle.fws_tree_seen.specs.Shown.{has_field, shown}

-- the set is open to the packet: it has the value that is seen in place of the field, if the packet has one
abbrev pub IsOpen : Seen → Packet → ℕ → List Iv → Type 0
IsOpen seen q f set = (v : ℕ) → has_field q.proto f ≡ true → shown seen f q ≡ Some v → has set v ≡ true

-- the packet reaches the leaf through kids that are open to it
abbrev mutual
  pub Reaches : {L : Type 0} → Seen → Packet → Plain L → L → Type 0
  Reaches seen q (leaf a) w = a ≡ w
  Reaches seen q (cut f ks) w = ReachesKid seen q f ks w

  pub ReachesKid : {L : Type 0} → Seen → Packet → ℕ → Kids L → L → Type 0
  ReachesKid seen q f none w = ⊥
  ReachesKid seen q f (kid s t ks) w = (IsOpen seen q f s × Reaches seen q t w) ⊎ ReachesKid seen q f ks w

-- what the packet shows lies up to the tops
abbrev pub IsTopped : List ℕ → Seen → Packet → Type 0
IsTopped tops seen q = (f v : ℕ) → has_field q.proto f ≡ true → shown seen f q ≡ Some v → v ≤ slice_index tops f
