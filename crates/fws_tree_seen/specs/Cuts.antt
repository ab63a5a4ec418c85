-- The cuts of a tree that is kept by nodes.
use Rattle.std.specs.Prelude.{◌≡◌, ℕ, ◌≤◌, ◌<◌, true, nat_le, if◌then◌else◌, Some, List, [], ◌∷◌, length, slice_get, slice_index}
use Rattle.std.specs.List.{count_by, AllByRecursion}
use Rattle.fws_iv.specs.Ivs.{has}
use Rattle.fws_tree.specs.declared.node.Kid.{Kid}
use Rattle.fws_tree.specs.declared.node.Node.{Node}
use Rattle.fws_tree.specs.declared.node.Node.TheVariants.{Cut}
use Rattle.fws_tree.specs.Plain.{Plain, cut, Kids, none, kid, kid_at}
use Rattle.fws_tree.specs.Shared.{subtree_of}

-- kids with the trees of their nodes
abbrev pub kids_of : {L : Type 0} → (ℕ → Plain L) → List Kid → Kids L
kids_of tree [] = none
kids_of tree (k ∷ ks) = kid k.set (tree k.node) (kids_of tree ks)

-- each value up to the top is a member of one kid's set, and no other value is
abbrev pub PartValues : ℕ → List Kid → Type 0
PartValues top kids = (v : ℕ) → count_by (λ kid. has kid.set v) kids ≡ (if nat_le v top then 1 else 0)

-- the node with this number cuts field f into these kids
pub record IsCutNode {L : Type 0} (tops : List ℕ) (leaves : List L) (nodes : List Node) (at f : ℕ) (kids : List Kid) : Type 0 where
  -- its tree is the cut over those of its kids, which stand before it
  pub tree : subtree_of leaves nodes at ≡ cut f (kids_of (λ n. subtree_of leaves nodes n) kids)
  pub before : AllByRecursion (λ kid. kid.node < at) kids
  -- there are two or more, whose sets have a value each and part those of the field
  pub field : f < length tops
  pub many : 2 ≤ length kids
  pub filled : (i : ℕ) (kid : Kid) → slice_get kids i ≡ Some kid → (v : ℕ) × (has kid.set v ≡ true)
  pub parted : PartValues (slice_index tops f) kids
  pub within : (i v : ℕ) (kid : Kid) → slice_get kids i ≡ Some kid → has kid.set v ≡ true → v ≤ slice_index tops f
  -- the tree at a value is that of the kid whose set has it
  pub found : (i v : ℕ) (kid : Kid) → slice_get kids i ≡ Some kid → has kid.set v ≡ true
      → kid_at (kids_of (λ n. subtree_of leaves nodes n) kids) v ≡ subtree_of leaves nodes kid.node
  -- a kid that is a cut cuts a later field
  pub rising : (i g : ℕ) (kid : Kid) (others : List Kid) → slice_get kids i ≡ Some kid → slice_get nodes kid.node ≡ Some (Cut g others) → f < g
