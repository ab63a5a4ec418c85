-- What a search from a chain has found.
use Rattle.std.specs.Prelude.{◌≡◌, ◌<◌, ℕ, Bool, true, nat_eq, List, length, ◌++◌, Contains, slice_index}
use Rattle.std.specs.List.{list_any, IsDistinct}
use Rattle.fws_ifcl.specs.declared.diagram.Chain.{Chain}
use Rattle.fws_ifcl.specs.Loops.{Reaches}
use Rattle.fws_ifcl.specs.Refusals.{named_in}
use Rattle.fws_unfold.specs.Levels.{flag_at}

-- chain c reaches each chain that chain d names
abbrev pub AllReached : List Chain → ℕ → ℕ → Type 0
AllReached chains c d = (e : ℕ) → Contains (named_in chains d) e → Reaches chains c e

-- the found chains stand in the queue, each once, and have a flag; chain c reaches each of them
pub record Found (chains : List Chain) (c : ℕ) (seen : List Bool) (queue : List ℕ) : Type 0 where
  pub sized : length seen ≡ length chains
  pub same : (d : ℕ) → flag_at seen d ≡ list_any (nat_eq d) queue
  pub distinct : IsDistinct nat_eq queue
  pub below : (d : ℕ) → list_any (nat_eq d) queue ≡ true → d < length chains
  pub reached : (d : ℕ) → list_any (nat_eq d) queue ≡ true → Reaches chains c d

-- what the chains of the queue before a place name stands in the queue
abbrev pub ClosedTo : List Chain → List ℕ → ℕ → Type 0
ClosedTo chains queue n = (k : ℕ) → k < n → (d : ℕ) → Contains (named_in chains (slice_index queue k)) d → list_any (nat_eq d) queue ≡ true

-- what chain d names stands in the queue
abbrev pub AllFound : List Chain → List ℕ → ℕ → Type 0
AllFound chains queue d = (e : ℕ) → Contains (named_in chains d) e → list_any (nat_eq e) queue ≡ true

-- a queue that others were put behind
pub record Grows (queue longer : List ℕ) : Type 0 where
  pub more : List ℕ
  pub is : longer ≡ queue ++ more
