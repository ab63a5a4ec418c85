-- A tree that grows field by field.
use Rattle.std.proofs.Common.{◌≡◌, ℕ, suc, ◌+◌, ◌<◌, ◌≤◌, Some, List, [], ◌∷◌, ◌++◌, length, get_or, add-one, drop, refl, sym, ◌∙◌, ap, arith}
use Rattle.std.proofs.lemmas.List.{append_assoc, append-nil, drop_more, length-append}
use Rattle.fws_tree.specs.Building.{Extends}
use Rattle.fws_tree.specs.declared.node.Node.{Node}
use Rattle.fws_tree.specs.Nodes.{tree_of}
use Rattle.fws_tree.specs.Plain.{leaf, value_from}
use Rattle.fws_tree.proofs.Numbered.{tree_of-append}

-- More nodes behind.

pub extends-refl : {X : Type 0} (xs : List X) → Extends xs xs
extends-refl xs = ([], sym (append-nil xs))

pub extends-trans : {X : Type 0} (xs ys zs : List X) → Extends xs ys → Extends ys zs → Extends xs zs
extends-trans xs ys zs a b = (a.0 ++ b.0, b.1 ∙ ap (λ t. t ++ b.0) a.1 ∙ append_assoc xs a.0 b.0)

pub tree_of-extends : (ns ms : List Node) (i : ℕ) → Extends ns ms → i < length ns → tree_of ms i ≡ tree_of ns i
tree_of-extends ns ms i e lt = ap (λ xs. tree_of xs i) e.1 ∙ tree_of-append ns e.0 i lt

pub length-extends : (ns ms : List Node) → Extends ns ms → length ns ≤ length ms
length-extends ns ms e = let l : length ms ≡ length ns + length e.0 = ap (λ (xs : List Node). length xs) e.1 ∙ length-append ns e.0 in omega arith

-- The first row's number.

-- A leaf.

pub leaf_value : (f a : ℕ) (p : List ℕ) → value_from f (leaf a) p ≡ Some a
leaf_value f a [] = refl
leaf_value f a (x ∷ p) = leaf_value (suc f) a p

-- The fields that are left.

pub tops_at : (tops : List ℕ) (f : ℕ) → f < length tops → drop f tops ≡ get_or tops f 0 ∷ drop (suc f) tops
tops_at tops f lt = drop_more tops f 0 lt ∙ ap (λ n. get_or tops f 0 ∷ drop n tops) (add-one f)

-- A first row that has all values that are left.

-- The cut.

-- The part at hand.

-- all the pieces
