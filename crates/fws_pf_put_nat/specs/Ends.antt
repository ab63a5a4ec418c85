-- The ends that the accepted packets of a tree get.
use Rattle.std.specs.Prelude.{◌≡◌, ◌≢◌, ◌⊎◌, ℕ, ◌≤◌, Bool, if◌then◌else◌, Some, None, List, length, slice_get}
use Rattle.fws_net.specs.declared.outcome.Outcome.{Outcome}
use Rattle.fws_net.specs.declared.outcome.Outcome.TheVariants.{Accept}
use Rattle.fws_net.specs.declared.outcome.Rewrite.{Rewrite}
use Rattle.fws_tree.specs.declared.node.Node.{Node}
use Rattle.fws_tree.specs.Plain.{Plain, leaf, cut, Kids, none, kid}
use Rattle.fws_tree.specs.Shared.{subtree_of}
use Rattle.fws_pf_put_nat.specs.Translations.{end_of}
use Rattle.fws_pf_put_nat.specs.declared.ends.Ends.{Ends}
use Rattle.fws_pf_put_nat.specs.declared.ends.Ends.TheVariants.{Nothing, One, Many}
use Rattle.fws_tree_seen.specs.Cuts.{kids_of}
use Rattle.fws_tree.specs.declared.node.Kid.{Kid}

-- a leaf of the tree has the outcome
abbrev mutual
  pub HasLeaf : Plain Outcome → Outcome → Type 0
  HasLeaf (leaf a) w = a ≡ w
  HasLeaf (cut f ks) w = HasKidLeaf ks w

  pub HasKidLeaf : Kids Outcome → Outcome → Type 0
  HasKidLeaf none w = ⊥
  HasKidLeaf (kid s t ks) w = HasLeaf t w ⊎ HasKidLeaf ks w

-- a leaf of the tree accepts with the rewriting
abbrev pub IsAccepted : Plain Outcome → Rewrite → Type 0
IsAccepted t w = HasLeaf t (Accept w)

abbrev pub IsKidAccepted : Kids Outcome → Rewrite → Type 0
IsKidAccepted ks w = HasKidLeaf ks (Accept w)

-- the outcome accepts with the rewriting
abbrev pub IsOutcome : Outcome → Rewrite → Type 0
IsOutcome outcome w = outcome ≡ Accept w

-- what is told of the ends of such rewritings
abbrev pub Tells : Bool → (Rewrite → Type 0) → Ends → Type 0
Tells outward Is Nothing = (w : Rewrite) → Is w → ⊥
Tells outward Is (One end) = ((w : Rewrite) → Is w → end_of outward w ≡ end) × ((w : Rewrite) × Is w)
Tells outward Is Many = (v : Rewrite) × (w : Rewrite) × Is v × Is w × (end_of outward v ≢ end_of outward w)

-- the ends of both
abbrev pub AreJoined : Ends → Ends → Ends → Type 0
AreJoined Nothing b c = c ≡ b
AreJoined (One x) Nothing c = c ≡ One x
AreJoined (One x) (One y) c = ((x ≡ y) × (c ≡ One x)) ⊎ ((x ≢ y) × (c ≡ Many))
AreJoined (One x) Many c = c ≡ Many
AreJoined Many b c = c ≡ Many

-- the ends of each node's tree
pub record AreEnds (outward : Bool) (leaves : List Outcome) (nodes : List Node) (ends : List Ends) : Type 0 where
  pub size : length ends ≡ length nodes
  pub each : (k : ℕ) (e : Ends) → slice_get ends k ≡ Some e → Tells outward (IsAccepted (subtree_of leaves nodes k)) e

-- at a cut of this field the ends are settled: there are none, there is one and what it is written over isn't cut, or translations
-- don't test the field
abbrev pub IsSettledAt : Bool → ℕ → Ends → Type 0
IsSettledAt outward f Nothing = Unit {0}
IsSettledAt outward f (One None) = Unit {0}
IsSettledAt outward f (One (Some e)) = (if outward then 5 else 4) ≤ f
IsSettledAt outward f Many = 6 ≤ f

-- packets get no end
abbrev pub IsRoot : Ends → Type 0
IsRoot Nothing = Unit {0}
IsRoot (One None) = Unit {0}
IsRoot (One (Some e)) = ⊥
IsRoot Many = ⊥

-- the ends tell of kids what those of all nodes tell of their trees
abbrev pub TellOfKids : List Ends → List Kid → Ends → Type 0
TellOfKids ends kids all = (outward : Bool) (tree : ℕ → Plain Outcome)
    → ((i : ℕ) (e : Ends) → slice_get ends i ≡ Some e → Tells outward (IsAccepted (tree i)) e) → Tells outward (IsKidAccepted (kids_of tree kids)) all
