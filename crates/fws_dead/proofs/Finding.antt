-- The search from node to node.
use Rattle.std.proofs.Common.{◌≡◌, ℕ, zero, suc, ◌+◌, ◌<◌, ◌≤◌, ◌⊎◌, below_more, is_some, drop, drop-cons, add-one, true, false, Option, Some, None, MatchOption, List, [], ◌∷◌, length, get_or, slice_get, inl, inr, refl, sym, ◌∙◌, ap, subst, arith}
use Rattle.std.proofs.lemmas.Bool.{and_from, and_parts, cases_Bool, eqb-true, eq-eqb, both_ways}
use Rattle.std.proofs.lemmas.Option.{same_Some, slice_get_within}
use Rattle.std.specs.List.{AllByRecursion}
use Rattle.std.specs.Prelude.{nat_eq, slice_index, slice_index_or, slice_set}
use Rattle.fws_box.specs.Sides.{IsWithin, sides_have, whole_sides}
use Rattle.fws_iv.specs.declared.iv.Iv.{Iv}
use Rattle.fws_iv.specs.Ivs.{has}
use Rattle.fws_net.specs.declared.outcome.Outcome.{Outcome}
use Rattle.fws_net.specs.declared.packet.State.{State}
use Rattle.fws_tree.specs.declared.node.Kid.{Kid}
use Rattle.fws_tree.specs.declared.node.Node.{Node}
use Rattle.fws_tree.specs.Plain.{Plain, leaf, value}
use Rattle.fws_tree.specs.Shared.{IsShared, subtree_of}
use Rattle.fws_tree_seen.specs.Cuts.{IsCutNode}
use Rattle.fws_dead.specs.Points.{bounds}
use Rattle.fws_dead.specs.Rows.{IsRow, AreAlikeIn, IsApartIn}
use Rattle.fws_dead.specs.Searched.{IsNarrowed, IsAlikeFor, AreAlikeFor, IsApartFor, AreAlikeBelow, IsApartBelow, AreAlikeWithin, IsApartWithin}
use Rattle.fws_dead.proofs.Nodes.{NodeLaws, leaf_value, node_value, kid_with}
use Rattle.fws_dead.proofs.Sides.{set_there, set_other, set_length, side_has, had_narrowed, whole_have, whole_bounds, bounds_within}

abbrev pub Apart : Type 0
Apart = Option (Outcome × Outcome)

-- ---- leaves

-- two outcomes that are found apart in a row, as a leaf
pub for_pair : (state : State) (tops : List ℕ) (sides : List (List Iv)) (pair : Outcome × Outcome) (found : Option (List ℕ))
    → MatchOption found (AreAlikeIn state tops sides pair.0 pair.1) (IsApartIn state tops sides pair.0 pair.1)
    → MatchOption found (AreAlikeFor state tops sides (Some pair)) (IsApartFor state tops sides (Some pair))
for_pair state tops sides pair None alike = alike
for_pair state tops sides pair (Some q) apart = record { inside = apart.inside; had = apart.had; differ = apart.differ }

-- what is found of a leaf, as of the tree that it is
pub leaf_found : (state : State) (tops : List ℕ) (sides : List (List Iv)) (t : Plain Apart) (a : Apart) (found : Option (List ℕ)) → t ≡ leaf a
    → MatchOption found (AreAlikeFor state tops sides a) (IsApartFor state tops sides a) → MatchOption found (AreAlikeBelow state tops sides t) (IsApartBelow state tops sides t)
leaf_found state tops sides t a None is alike = λ p b within h v.
    let same : a ≡ b = same_Some a b (sym (leaf_value 0 a p) ∙ ap (λ u. value u p) (sym is) ∙ v) in
    subst (λ (x : Apart). IsAlikeFor state x p) same (alike p within h)
leaf_found state tops sides t a (Some q) is apart = record {
  inside = apart.inside;
  had = apart.had;
  found = a;
  found_is = ap (λ u. value u q) is ∙ leaf_value 0 a q;
  differ = apart.differ;
}

-- ---- sides that are narrowed

same_or_not : (j k : ℕ) → (j ≡ k) ⊎ (j ≡ k → ⊥)
same_or_not j k = elim (cases_Bool (nat_eq j k)) [
  | inl y ↦ inl (eqb-true j k y)
  | inr n ↦ inr (λ e. both_ways (nat_eq j k) n (eq-eqb j k e))
]

pub narrowed_row : (tops : List ℕ) (sides next : List (List Iv)) (f : ℕ) (set : List Iv) → IsRow tops sides → IsNarrowed sides f set next → f < 12 → IsRow tops next
narrowed_row tops sides next f set row by lt = record {
  tops_are = row.tops_are;
  twelve = ap length by.is ∙ set_length sides f by.common ∙ row.twelve;
  within = λ k v h. within k v (subst (λ l. has (slice_index_or l k []) v ≡ true) by.is h);
}
  where
    at_field : (v : ℕ) → has by.common v ≡ true → v ≤ slice_index tops f
    at_field v h = row.within f v (and_parts (has (slice_index_or sides f []) v) (has set v) (sym (by.members v) ∙ h)).0

    within : (k v : ℕ) → has (slice_index_or (slice_set sides f by.common) k []) v ≡ true → v ≤ slice_index tops k
    within k v h = elim (same_or_not k f) [
      | inl e ↦ (let there : slice_index_or (slice_set sides f by.common) f [] ≡ by.common = set_there sides f by.common [] (let n = row.twelve in omega (arith, n)) in
          subst (λ j. v ≤ slice_index tops j) (sym e)
          (at_field v (subst (λ s. has s v ≡ true) there (subst (λ j. has (slice_index_or (slice_set sides f by.common) j []) v ≡ true) e h))))
      | inr ne ↦ row.within k v (subst (λ s. has s v ≡ true) (set_other sides f by.common [] k ne) h)
    ]

-- a point of the sides, whose value of the field is a member of the set
narrowed_has : (sides next : List (List Iv)) (f : ℕ) (set : List Iv) (p : List ℕ) → length sides ≡ 12 → IsNarrowed sides f set next → f < 12 → sides_have sides p ≡ true
    → has set (slice_index p f) ≡ true → sides_have next p ≡ true
narrowed_has sides next f set p twelve by lt h in-set =
    let both : has by.common (slice_index p f) ≡ true
    = by.members (slice_index p f) ∙ and_from _ _ (side_has sides p f h (omega (arith, twelve))) in-set in
    subst (λ l. sides_have l p ≡ true) (sym by.is) (had_narrowed sides f by.common p h both)

-- and a point of the narrowed sides is one of the sides, with such a value
back_has : (sides : List (List Iv)) (f : ℕ) (common : List Iv) (p : List ℕ) → sides_have (slice_set sides f common) p ≡ true
    → ((v : ℕ) → has common v ≡ true → has (slice_index_or sides f []) v ≡ true) → sides_have sides p ≡ true
back_has [] f common p h low = refl
back_has (s ∷ sides) zero common [] h low = absurd (cc)
back_has (s ∷ sides) (suc f) common [] h low = absurd (cc)
back_has (s ∷ sides) zero common (x ∷ p) h low =
    let parts = and_parts (has common x) (sides_have sides p) h in and_from (has s x) (sides_have sides p) (low x parts.0) parts.1
back_has (s ∷ sides) (suc f) common (x ∷ p) h low =
    let parts = and_parts (has s x) (sides_have (slice_set sides f common) p) h in and_from (has s x) (sides_have sides p) parts.0 (back_has sides f common p parts.1 low)

narrowed_back : (sides next : List (List Iv)) (f : ℕ) (set : List Iv) (p : List ℕ) → length sides ≡ 12 → IsNarrowed sides f set next → f < 12 → sides_have next p ≡ true
    → (sides_have sides p ≡ true) × (has set (slice_index p f) ≡ true)
narrowed_back sides next f set p twelve by lt h =
    let moved : sides_have (slice_set sides f by.common) p ≡ true = subst (λ l. sides_have l p ≡ true) by.is h in
    let long : f < length (slice_set sides f by.common) = (let n = set_length sides f by.common in omega (arith, n, twelve)) in
    let there : slice_index_or (slice_set sides f by.common) f [] ≡ by.common = set_there sides f by.common [] (omega (arith, twelve)) in
    let in-common : has by.common (slice_index p f) ≡ true
    = subst (λ s. has s (slice_index p f) ≡ true) there (side_has (slice_set sides f by.common) p f moved long) in (
      back_has sides f by.common p moved (λ v k. (and_parts (has (slice_index_or sides f []) v) (has set v) (sym (by.members v) ∙ k)).0),
      (and_parts (has (slice_index_or sides f []) (slice_index p f)) (has set (slice_index p f)) (sym (by.members (slice_index p f)) ∙ in-common)).1,
    )

-- ---- kids

-- the points of the sides that lead to a kid come to the same fates
abbrev pub AreAlikeThrough : State → List ℕ → List Apart → List Node → List (List Iv) → ℕ → Kid → Type 0
AreAlikeThrough state tops leaves nodes sides f kid = (p : List ℕ) (a : Apart) → IsWithin tops p → sides_have sides p ≡ true → has kid.set (slice_index p f) ≡ true
    → value (subtree_of leaves nodes kid.node) p ≡ Some a → IsAlikeFor state a p

-- those that lead to the first kids do so
abbrev pub ArePassed : State → List ℕ → List Apart → List Node → List (List Iv) → ℕ → List Kid → ℕ → Type 0
ArePassed state tops leaves nodes sides f kids n = (i : ℕ) → i < n → (kid : Kid) → slice_get kids i ≡ Some kid → AreAlikeThrough state tops leaves nodes sides f kid

pub none_passed : (state : State) (tops : List ℕ) (leaves : List Apart) (nodes : List Node) (sides : List (List Iv)) (f : ℕ) (kids : List Kid) → ArePassed state tops leaves nodes sides f kids 0
none_passed state tops leaves nodes sides f kids i lt kid there = absurd (omega arith)

-- one kid more
pub more_passed : (state : State) (tops : List ℕ) (leaves : List Apart) (nodes : List Node) (sides next : List (List Iv)) (f : ℕ) (kids : List Kid) (n : ℕ) (kid : Kid)
    → IsRow tops sides → IsNarrowed sides f kid.set next → f < 12 → slice_get kids n ≡ Some kid → ArePassed state tops leaves nodes sides f kids n
    → AreAlikeBelow state tops next (subtree_of leaves nodes kid.node) → ArePassed state tops leaves nodes sides f kids (n + 1)
more_passed state tops leaves nodes sides next f kids n kid row by lt there passed alike =
    let P : ℕ → Type 0 = λ i. (other : Kid) → slice_get kids i ≡ Some other → AreAlikeThrough state tops leaves nodes sides f other in
    below_more P n passed
    (λ other e. subst (λ (k : Kid). AreAlikeThrough state tops leaves nodes sides f k) (same_Some kid other (sym there ∙ e))
    (λ p a within h in-set v. alike p a within (narrowed_has sides next f kid.set p row.twelve by lt h in-set) v))

-- behind all kids
pub all_passed : (laws : NodeLaws Apart) (state : State) (tops : List ℕ) (t : Plain Apart) (leaves : List Apart) (nodes : List Node) (sides : List (List Iv)) (at f : ℕ) (kids : List Kid) (n : ℕ)
    → IsShared tops t leaves nodes → at < length nodes → IsCutNode tops leaves nodes at f kids → length kids ≤ n → ArePassed state tops leaves nodes sides f kids n
    → AreAlikeBelow state tops sides (subtree_of leaves nodes at)
all_passed laws state tops t leaves nodes sides at f kids n shared inside node le passed p a within h v =
    let found = kid_with tops leaves nodes at f kids p node within in
    let lt = slice_get_within kids found.0 found.1 found.2 in
    passed found.0 (omega (arith, lt)) found.1 found.2 p a within h found.3
    (sym (node_value laws tops t leaves nodes at f kids found.0 found.1 p shared inside node found.2 found.3 within) ∙ v)

-- what is found below a kid is found below the node
pub found_through : (laws : NodeLaws Apart) (state : State) (tops : List ℕ) (t : Plain Apart) (leaves : List Apart) (nodes : List Node) (sides next : List (List Iv)) (at f : ℕ) (kids : List Kid) (n : ℕ) (kid : Kid)
    (q : List ℕ) → IsShared tops t leaves nodes → at < length nodes → IsCutNode tops leaves nodes at f kids → IsRow tops sides → IsNarrowed sides f kid.set next → f < 12 → slice_get kids n ≡ Some kid
    → IsApartBelow state tops next (subtree_of leaves nodes kid.node) q → IsApartBelow state tops sides (subtree_of leaves nodes at) q
found_through laws state tops t leaves nodes sides next at f kids n kid q shared inside node row by lt there apart =
    let back = narrowed_back sides next f kid.set q row.twelve by lt apart.had in
    record {
      inside = apart.inside;
      had = back.0;
      found = apart.found;
      found_is = node_value laws tops t leaves nodes at f kids n kid q shared inside node there back.1 apart.inside ∙ apart.found_is;
      differ = apart.differ;
    }

-- the field that a node cuts
pub field_low : (tops : List ℕ) (leaves : List Apart) (nodes : List Node) (sides : List (List Iv)) (at f : ℕ) (kids : List Kid) → IsCutNode tops leaves nodes at f kids → IsRow tops sides → f < 12
field_low tops leaves nodes sides at f kids node row = let n = ap length row.tops_are.1 in let lt = node.field in omega (arith, n, lt)

-- ---- the whole tree

pub root_found : (state : State) (tops : List ℕ) (t : Plain Apart) (found : Option (List ℕ))
    → MatchOption found (AreAlikeBelow state tops (whole_sides (bounds state tops)) t) (IsApartBelow state tops (whole_sides (bounds state tops)) t)
    → MatchOption found (AreAlikeWithin state tops t) (IsApartWithin state tops t)
root_found state tops t None alike = λ p a within v. alike p a (bounds_within state tops p within) (whole_have (bounds state tops) p within) v
root_found state tops t (Some q) apart = record {
  inside = whole_bounds state tops q apart.inside apart.had;
  found = apart.found;
  found_is = apart.found_is;
  differ = apart.differ;
}

-- ---- one kid's result

-- something is found below a kid
pub kid_found : (laws : NodeLaws Apart) (state : State) (tops : List ℕ) (t : Plain Apart) (leaves : List Apart) (nodes : List Node) (sides next : List (List Iv)) (at f : ℕ) (kids : List Kid) (n : ℕ) (kid : Kid)
    (found : Option (List ℕ)) → IsShared tops t leaves nodes → at < length nodes → IsCutNode tops leaves nodes at f kids → IsRow tops sides → (f < 12 → IsNarrowed sides f kid.set next) → slice_get kids n ≡ Some kid
    → is_some found ≡ true → (IsRow tops next → MatchOption found (AreAlikeBelow state tops next (subtree_of leaves nodes kid.node)) (IsApartBelow state tops next (subtree_of leaves nodes kid.node)))
    → MatchOption found (AreAlikeBelow state tops sides (subtree_of leaves nodes at)) (IsApartBelow state tops sides (subtree_of leaves nodes at))
kid_found laws state tops t leaves nodes sides next at f kids n kid None shared inside node row by there some below = absurd (cc)
kid_found laws state tops t leaves nodes sides next at f kids n kid (Some q) shared inside node row by there some below =
    let lt : f < 12 = field_low tops leaves nodes sides at f kids node row in
    found_through laws state tops t leaves nodes sides next at f kids n kid q shared inside node row (by lt) lt there (below (narrowed_row tops sides next f kid.set row (by lt) lt))

-- nothing is found below a kid
pub kid_passed : (state : State) (tops : List ℕ) (leaves : List Apart) (nodes : List Node) (sides next : List (List Iv)) (at f : ℕ) (kids : List Kid) (n : ℕ) (kid : Kid)
    (found : Option (List ℕ)) → IsCutNode tops leaves nodes at f kids → IsRow tops sides → (f < 12 → IsNarrowed sides f kid.set next) → slice_get kids n ≡ Some kid
    → is_some found ≡ false → (IsRow tops next → MatchOption found (AreAlikeBelow state tops next (subtree_of leaves nodes kid.node)) (IsApartBelow state tops next (subtree_of leaves nodes kid.node)))
    → ArePassed state tops leaves nodes sides f kids n → ArePassed state tops leaves nodes sides f kids (n + 1)
kid_passed state tops leaves nodes sides next at f kids n kid None node row by there none below passed =
    let lt : f < 12 = field_low tops leaves nodes sides at f kids node row in
    more_passed state tops leaves nodes sides next f kids n kid row (by lt) lt there passed (below (narrowed_row tops sides next f kid.set row (by lt) lt))
kid_passed state tops leaves nodes sides next at f kids n kid (Some q) node row by there none below passed = absurd (cc)

-- the kids behind one
pub kids_behind : (at : ℕ) (kids : List Kid) (i : ℕ) (kid : Kid) → i < length kids → AllByRecursion (λ k. k.node < at) (drop i kids) → AllByRecursion (λ k. k.node < at) (drop (i + 1) kids)
kids_behind at kids i kid lt before =
    let parts : AllByRecursion (λ k. k.node < at) (get_or kids i kid ∷ drop (suc i) kids) = subst (λ ks. AllByRecursion (λ k. k.node < at) ks) (drop-cons kids i kid lt) before in
    subst (λ n. AllByRecursion (λ k. k.node < at) (drop n kids)) (sym (add-one i)) parts.1
