-- The cut of a field over kids that part its range.
use Rattle.std.proofs.Common.{◌≡◌, ◌≢◌, ℕ, suc, ◌+◌, ◌<◌, ◌≤◌, true, false, cond, List, [], ◌∷◌, inl, inr, length, get_or, map, All, Contains, nat_eq, nat_le, nat_lt, refl, sym, ◌∙◌, ap, subst, arith}
use Rattle.std.proofs.lemmas.Bool.{lt-ltb, cases_Bool, eq-eqb, ne_eqb, eqb-true, cond-true, cond-false, MatchBool-at_false}
use Rattle.std.proofs.lemmas.Bool.Decides.{nat_tests}
use Rattle.std.proofs.lemmas.List.Elements.{recursion_from_All, All-contains, All-map}
use Rattle.std.specs.List.{AllByRecursion}
use Rattle.fws_iv.specs.Ivs.{has}
use Rattle.fws_tree.specs.Building.{kid_hits, HasKid, AreKidsTo, IsArena, AreDifferent}
use Rattle.fws_tree.specs.declared.join.Piece.{Piece}
use Rattle.fws_tree.specs.declared.node.Kid.{Kid}
use Rattle.fws_tree.specs.declared.node.Node.{Node}
use Rattle.fws_tree.specs.Nodes.{kids_over, tree_of, trees_after}
use Rattle.fws_tree.specs.Plain.{Plain, leaf, cut, Kids, none, kid_at, branch, EachKid, Parts, AreMany, IsReducedFrom}
use Rattle.fws_tree.proofs.Numbered.{tree_of-told}
use Rattle.fws_tree.proofs.Parting.{TreesDiffer, parts_from, are_many, each_kid}
use Rattle.fws_tree.specs.Subtrees.{IsSubtree}
use Rattle.fws_tree.proofs.Places.{different-head, different-tail}

-- a tree over the later fields

field_from : {L : Type 0} (tops : List ℕ) (h g : ℕ) (ks : Kids L) → IsReducedFrom h tops (cut g ks) → h ≤ g
field_from [] h g ks r = absurd r
field_from (top ∷ tops) h g ks r = elim (cases_Bool (nat_eq g h)) [
  | inl y ↦ let e = eqb-true g h y in omega arith
  | inr n ↦ let l = field_from tops (suc h) g ks (MatchBool-at_false _ _ n r) in omega arith
]

other_field : {L : Type 0} (tops : List ℕ) (f g : ℕ) (ks : Kids L) → IsReducedFrom (suc f) tops (cut g ks) → nat_eq g f ≡ false
other_field tops f g ks r = let l = field_from tops (suc f) g ks r in ne_eqb g f (λ e. omega arith)

pub reduced_later : {L : Type 0} (f top : ℕ) (tops : List ℕ) (t : Plain L) → IsReducedFrom (suc f) tops t → IsReducedFrom f (top ∷ tops) t
reduced_later f top tops (leaf a) r = tt
reduced_later f top tops (cut g ks) r = rw (other_field tops f g ks r) r

pub branch_later : {L : Type 0} (f : ℕ) (tops : List ℕ) (t : Plain L) → IsReducedFrom (suc f) tops t → (x : ℕ) → branch f t x ≡ t
branch_later f tops (leaf a) r x = refl
branch_later f tops (cut g ks) r x = cond-false (nat_eq g f) (kid_at ks x) (cut g ks) (other_field tops f g ks r)

-- a cut of this field

reduced_cut : (f top : ℕ) (tops : List ℕ) (ks : Kids ℕ) → AreMany ks → Parts (λ x. nat_le x top) ks → EachKid (IsReducedFrom (suc f) tops) ks → IsReducedFrom f (top ∷ tops) (cut f ks)
reduced_cut f top tops ks many parts each = rw (eq-eqb f f refl) (many, parts, each)

branch_cut : (f : ℕ) (ks : Kids ℕ) (x : ℕ) → branch f (cut f ks) x ≡ kid_at ks x
branch_cut f ks x = cond-true (nat_eq f f) (kid_at ks x) (cut f ks) (eq-eqb f f refl)

kid_hit : (ks : List Kid) (n x : ℕ) → HasKid ks n x → 1 ≤ kid_hits ks x
kid_hit [] n x h = absurd h
kid_hit (k ∷ ks) n x (inl a) = rw a.1 (omega arith)
kid_hit (k ∷ ks) n x (inr b) = let l = kid_hit ks n x b in omega arith

-- the tree at a value that one kid alone has
kid_at-one : (ts : List (Plain ℕ)) (ks : List Kid) (n x : ℕ) → kid_hits ks x ≤ 1 → HasKid ks n x → kid_at (kids_over ts ks) x ≡ get_or ts n (cut 0 none)
kid_at-one ts [] n x le h = absurd h
kid_at-one ts (k ∷ ks) n x le (inl a) = cond-true (has k.set x) _ _ a.1 ∙ ap (λ z. get_or ts z (cut 0 none)) a.0
kid_at-one ts (k ∷ ks) n x le (inr b) = elim (cases_Bool (has k.set x)) [
  | inl t ↦ let l = kid_hit ks n x b in let m : 1 + kid_hits ks x ≤ 1 = rw t at le in absurd (omega arith)
  | inr f ↦ let m : kid_hits ks x ≤ 1 = omega arith in cond-false (has k.set x) _ _ f ∙ kid_at-one ts ks n x m b
]

trees_differ : (ns : List Node) → IsArena ns → (ks : List Kid) → AllByRecursion (λ k. k.node < length ns) ks → AreDifferent (map (λ k. k.node) ks) → TreesDiffer (trees_after [] ns) ks
trees_differ ns a [] below d = tt
trees_differ ns a (k ∷ ks) below d = (heads ks below.1 (different-head k.node (map (λ k. k.node) ks) d), trees_differ ns a ks below.1 (different-tail k.node (map (λ k. k.node) ks) d))
  where
    heads : (js : List Kid) → AllByRecursion (λ k. k.node < length ns) js → AllByRecursion (λ n. k.node ≢ n) (map (λ k. k.node) js)
        → AllByRecursion (λ j. get_or (trees_after [] ns) k.node (cut 0 none) ≢ get_or (trees_after [] ns) j.node (cut 0 none)) js
    heads [] b h = tt
    heads (j ∷ js) b h = ((λ e. h.0 (tree_of-told ns a.ordered a.different k.node j.node below.0 b.0 e)), heads js b.1 h.1)

same_test : (x top end : ℕ) → end ≡ suc top → nat_lt x end ≡ nat_le x top
same_test x top end e = grind (arith, nat_tests)

few_hits : (x end n : ℕ) → n ≡ cond (nat_lt x end) 1 0 → n ≤ 1
few_hits x end n e = elim (cases_Bool (nat_lt x end)) [ inl t ↦ (let z : n ≡ 1 = rw t at e in omega arith) | inr f ↦ (let z : n ≡ 0 = rw f at e in omega arith) ]

pub cut_reduced : (ns : List Node) (ks : List Kid) (f top end : ℕ) (tops : List ℕ) → IsArena ns → AreKidsTo end ks → end ≡ suc top → AreDifferent (map (λ k. k.node) ks)
    → AllByRecursion (λ k. k.node < length ns) ks → 2 ≤ length ks → AllByRecursion (λ k. IsReducedFrom (suc f) tops (tree_of ns k.node)) ks
    → IsReducedFrom f (top ∷ tops) (cut f (kids_over (trees_after [] ns) ks))
cut_reduced ns ks f top end tops a kids e d below many each =
    let ts : List (Plain ℕ) = trees_after [] ns in
    reduced_cut f top tops (kids_over ts ks) (are_many ts ks many)
    (parts_from ts ks (λ x. nat_le x top) 0 kids.regular (λ x. kids.hits x ∙ ap (λ b. cond b 1 0) (same_test x top end e)) kids.rise (trees_differ ns a ks below d))
    (each_kid ts (IsReducedFrom (suc f) tops) ks each)

pub cut_branch : (ns : List Node) (ks : List Kid) (f end n x : ℕ) → AreKidsTo end ks → HasKid ks n x → branch f (cut f (kids_over (trees_after [] ns) ks)) x ≡ tree_of ns n
cut_branch ns ks f end n x kids h =
    branch_cut f (kids_over (trees_after [] ns) ks) x ∙ kid_at-one (trees_after [] ns) ks n x (few_hits x end (kid_hits ks x) (kids.hits x)) h

-- The kids of pieces.

pub of_pieces : (P : ℕ → Type 0) (pieces : List (Piece ℕ)) (ks : List Kid) → All (λ k. Contains (map (λ p. p.held) pieces) k.node) ks → All (λ p. P p.held) pieces → AllByRecursion (λ k. P k.node) ks
of_pieces P pieces ks named all = recursion_from_All (λ k. P k.node) ks (λ i d lt.
    All-contains P (map (λ p. p.held) pieces) (get_or ks i d).node (All-map P (λ p. p.held) pieces all) (named i d lt))

-- a lone kid
pub lone : (ks : List Kid) (d : Kid) → length ks ≡ 1 → ks ≡ get_or ks 0 d ∷ []
lone [] d e = absurd (omega arith)
lone (j ∷ []) d e = refl
lone (j ∷ i ∷ ks) d e = absurd (omega arith)

pub lone_fact : (P : ℕ → Type 0) (pieces : List (Piece ℕ)) (ks : List Kid) (k : Kid) → ks ≡ k ∷ [] → All (λ k. Contains (map (λ p. p.held) pieces) k.node) ks → All (λ p. P p.held) pieces → P k.node
lone_fact P pieces ks k e named all = (subst (λ js. AllByRecursion (λ k. P k.node) js) e (of_pieces P pieces ks named all)).0

pub lone_reduced : (ns : List Node) (f top : ℕ) (tops : List ℕ) (pieces : List (Piece ℕ)) (ks : List Kid) (k : Kid) → ks ≡ k ∷ [] → All (λ k. Contains (map (λ p. p.held) pieces) k.node) ks
    → All (λ p. IsReducedFrom (suc f) tops (tree_of ns p.held)) pieces → IsReducedFrom f (top ∷ tops) (tree_of ns k.node)
lone_reduced ns f top tops pieces ks k e named all = reduced_later f top tops (tree_of ns k.node) (lone_fact (λ n. IsReducedFrom (suc f) tops (tree_of ns n)) pieces ks k e named all)

pub lone_node : (k : Kid) (n x : ℕ) → HasKid (k ∷ []) n x → k.node ≡ n
lone_node k n x (inl a) = a.0
lone_node k n x (inr b) = absurd b

pub lone_branch : (ns : List Node) (f n x : ℕ) (tops : List ℕ) (pieces : List (Piece ℕ)) (ks : List Kid) (k : Kid) → ks ≡ k ∷ [] → All (λ k. Contains (map (λ p. p.held) pieces) k.node) ks
    → All (λ p. IsReducedFrom (suc f) tops (tree_of ns p.held)) pieces → HasKid ks n x → branch f (tree_of ns k.node) x ≡ tree_of ns n
lone_branch ns f n x tops pieces ks k e named all h =
    branch_later f tops (tree_of ns k.node) (lone_fact (λ n. IsReducedFrom (suc f) tops (tree_of ns n)) pieces ks k e named all) x
    ∙ ap (λ m. tree_of ns m) (lone_node k n x (subst (λ js. HasKid js n x) e h))

-- what is a subtree of a piece's tree, where one kid is all there is
pub lone_over : (ns : List Node) (n x : ℕ) (ks : List Kid) (k : Kid) (u : Plain ℕ) → ks ≡ k ∷ [] → HasKid ks n x → IsSubtree u (tree_of ns n) → IsSubtree u (tree_of ns k.node)
lone_over ns n x ks k u e h s = subst (λ m. IsSubtree u (tree_of ns m)) (sym (lone_node k n x (subst (λ js. HasKid js n x) e h))) s

some_kid : (end top : ℕ) (ks : List Kid) → AreKidsTo end ks → end ≡ suc top → 1 ≤ length ks
some_kid end top [] kids e =
    let t : nat_lt 0 end ≡ true = lt-ltb 0 end (omega arith) in
    let y : ◌≡◌ {A = ℕ} 0 1 = kids.hits 0 ∙ cond-true (nat_lt 0 end) 1 0 t in
    absurd (omega arith)
some_kid end top (k ∷ ks) kids e = omega arith

pub many_reduced : (ns new : List Node) (r f end top : ℕ) (tops : List ℕ) (pieces : List (Piece ℕ)) (ks : List Kid) → tree_of new r ≡ cut f (kids_over (trees_after [] ns) ks)
    → IsArena ns → AreKidsTo end ks → end ≡ suc top → AreDifferent (map (λ k. k.node) ks) → length ks ≢ 1
    → All (λ k. Contains (map (λ p. p.held) pieces) k.node) ks → All (λ p. p.held < length ns) pieces
    → All (λ p. IsReducedFrom (suc f) tops (tree_of ns p.held)) pieces → IsReducedFrom f (top ∷ tops) (tree_of new r)
many_reduced ns new r f end top tops pieces ks t a kids e d many named below all =
    let some : 1 ≤ length ks = some_kid end top ks kids e in
    subst (λ u. IsReducedFrom f (top ∷ tops) u) (sym t) (cut_reduced ns ks f top end tops a kids e d
    (of_pieces (λ n. n < length ns) pieces ks named below) (two (length ks) some many) (of_pieces (λ n. IsReducedFrom (suc f) tops (tree_of ns n)) pieces ks named all))
  where
    two : (n : ℕ) → 1 ≤ n → n ≢ 1 → 2 ≤ n
    two n le ne = omega arith
