-- Nodes whose leaves have their places in the order of the nodes.
use Rattle.std.specs.Prelude.{◌≡◌, ℕ, ◌<◌, Some, List, [], ◌∷◌, ◌++◌, length, slice_get}
use Rattle.fws_tree.specs.declared.node.Node.{Node}
use Rattle.fws_tree.specs.declared.node.Node.TheVariants.{Leaf, Cut}

-- a leaf's place is below n
abbrev pub IsPlaceBelow : ℕ → Node → Type 0
IsPlaceBelow n (Leaf k) = k < n
IsPlaceBelow n (Cut f ks) = Unit {0}

-- a node after its leaf, if it has one, was put behind the leaves that were kept
abbrev pub IsPut : {L : Type 0} → List L → Node → Node → List L → List L → Type 0
IsPut {L} leaves (Leaf n) node old new = (node ≡ Leaf (length old)) × ((a : L) × (slice_get leaves n ≡ Some a) × (new ≡ old ++ a ∷ []))
IsPut leaves (Cut f ks) node old new = (node ≡ Cut f ks) × (new ≡ old)

-- a node that names the leaf that another names among others
abbrev pub IsPlaced : {L : Type 0} → List L → List L → Node → Node → Type 0
IsPlaced leaves kept (Leaf n) (Leaf m) = (m < length kept) × (slice_get kept m ≡ slice_get leaves n)
IsPlaced leaves kept (Leaf n) (Cut g js) = ⊥
IsPlaced leaves kept (Cut f ks) (Leaf m) = ⊥
IsPlaced leaves kept (Cut f ks) (Cut g js) = Cut g js ≡ Cut f ks

abbrev pub ArePlaced : {L : Type 0} → List L → List L → List Node → List Node → Type 0
ArePlaced leaves kept [] [] = Unit {0}
ArePlaced leaves kept [] (m ∷ ms) = ⊥
ArePlaced leaves kept (n ∷ ns) [] = ⊥
ArePlaced leaves kept (n ∷ ns) (m ∷ ms) = IsPlaced leaves kept n m × ArePlaced leaves kept ns ms

-- nodes that name the leaves that others name, and leaves of which each is named
pub record AreSettled {L : Type 0} (leaves : List L) (ns : List Node) (kept : List L) (ms : List Node) : Type 0 where
  pub placed : ArePlaced leaves kept ns ms
  pub used : (n : ℕ) → n < length kept → (k : ℕ) × (slice_get ms k ≡ Some (Leaf n))
