-- The ends of several leaves.
use Rattle.std.proofs.Common.{◌≡◌, ◌⊎◌, ℕ, zero, suc, ◌+◌, ◌<◌, Bool, Some, List, [], ◌∷◌, ◌++◌, length, take, slice_get, get_or, inl, inr, sym, ◌∙◌, ap, subst, arith, length-append}
use Rattle.std.proofs.lemmas.List.{take_more}
use Rattle.std.proofs.lemmas.Option.{same_Some, slice_get_within}
use Rattle.fws_net.specs.declared.outcome.Outcome.{Outcome}
use Rattle.fws_net.specs.declared.outcome.Outcome.TheVariants.{Accept}
use Rattle.fws_net.specs.declared.outcome.Rewrite.{Rewrite}
use Rattle.fws_tree.specs.declared.node.Kid.{Kid}
use Rattle.fws_tree.specs.declared.node.Node.{Node}
use Rattle.fws_tree.specs.Plain.{Plain, leaf}
use Rattle.fws_tree.specs.Shared.{subtree_of}
use Rattle.fws_tree_seen.specs.Cuts.{kids_of}
use Rattle.fws_pf_put_nat.specs.declared.ends.Ends.{Ends}
use Rattle.fws_pf_put_nat.specs.declared.ends.Ends.TheVariants.{Nothing, One, Many}
use Rattle.fws_pf_put_nat.specs.Ends.{AreJoined, HasLeaf, HasKidLeaf, IsAccepted, IsKidAccepted, IsOutcome, Tells}

pub tells_same : (outward : Bool) (Is Js : Rewrite → Type 0) (e : Ends) → ((w : Rewrite) → Is w → Js w) → ((w : Rewrite) → Js w → Is w) → Tells outward Is e → Tells outward Js e
tells_same outward Is Js Nothing f g h = λ w j. h w (g w j)
tells_same outward Is Js (One end) f g h = (λ w j. h.0 w (g w j), (h.1.0, f h.1.0 h.1.1))
tells_same outward Is Js Many f g h = (h.0, h.1, f h.0 h.2, f h.1 h.3, h.4)

tells_joined : (outward : Bool) (Is Js : Rewrite → Type 0) (a b c : Ends) → AreJoined a b c → Tells outward Is a → Tells outward Js b → Tells outward (λ w. Is w ⊎ Js w) c
tells_joined outward Is Js Nothing b c e h g = subst (λ x. Tells outward (λ w. Is w ⊎ Js w) x) (sym e) (tells_same outward Js (λ w. Is w ⊎ Js w) b (λ w j. inr j) (λ w o. elim o [ inl i ↦ absurd (h w i) | inr j ↦ j ]) g)
tells_joined outward Is Js (One x) Nothing c e h g = subst (λ x. Tells outward (λ w. Is w ⊎ Js w) x) (sym e) (tells_same outward Is (λ w. Is w ⊎ Js w) (One x) (λ w i. inl i) (λ w o. elim o [ inl i ↦ i | inr j ↦ absurd (g w j) ]) h)
tells_joined outward Is Js (One x) (One y) c (inl s) h g =
    subst (λ z. Tells outward (λ w. Is w ⊎ Js w) z) (sym s.1) (λ w o. elim o [ inl i ↦ h.0 w i | inr j ↦ g.0 w j ∙ sym s.0 ], (h.1.0, inl h.1.1))
tells_joined outward Is Js (One x) (One y) c (inr s) h g =
    subst (λ z. Tells outward (λ w. Is w ⊎ Js w) z) (sym s.1) (h.1.0, g.1.0, inl h.1.1, inr g.1.1, λ same. s.0 (sym (h.0 h.1.0 h.1.1) ∙ same ∙ g.0 g.1.0 g.1.1))
tells_joined outward Is Js (One x) Many c e h g = subst (λ z. Tells outward (λ w. Is w ⊎ Js w) z) (sym e) (g.0, g.1, inr g.2, inr g.3, g.4)
tells_joined outward Is Js Many b c e h g = subst (λ z. Tells outward (λ w. Is w ⊎ Js w) z) (sym e) (h.0, h.1, inl h.2, inl h.3, h.4)

pub no_kids : (outward : Bool) (tree : ℕ → Plain Outcome) → Tells outward (IsKidAccepted (kids_of tree [])) Nothing
no_kids outward tree = λ w h. h

-- a kid more behind the others
behind_all : (tree : ℕ → Plain Outcome) (xs : List Kid) (k : Kid) (w : Outcome) → HasKidLeaf (kids_of tree xs) w ⊎ HasLeaf (tree k.node) w → HasKidLeaf (kids_of tree (xs ++ k ∷ [])) w
behind_all tree [] k w (inl h) = absurd h
behind_all tree [] k w (inr h) = inl h
behind_all tree (x ∷ xs) k w (inl (inl h)) = inl h
behind_all tree (x ∷ xs) k w (inl (inr h)) = inr (behind_all tree xs k w (inl h))
behind_all tree (x ∷ xs) k w (inr h) = inr (behind_all tree xs k w (inr h))

among_all : (tree : ℕ → Plain Outcome) (xs : List Kid) (k : Kid) (w : Outcome) → HasKidLeaf (kids_of tree (xs ++ k ∷ [])) w → HasKidLeaf (kids_of tree xs) w ⊎ HasLeaf (tree k.node) w
among_all tree [] k w (inl h) = inr h
among_all tree [] k w (inr h) = absurd h
among_all tree (x ∷ xs) k w (inl h) = inl (inl h)
among_all tree (x ∷ xs) k w (inr h) = elim (among_all tree xs k w h) [ inl a ↦ inl (inr a) | inr b ↦ inr b ]

pub kid_more : (outward : Bool) (tree : ℕ → Plain Outcome) (kids : List Kid) (i : ℕ) (k : Kid) (a b c : Ends) → i < length kids → k ≡ get_or kids i k → AreJoined a b c
    → Tells outward (IsKidAccepted (kids_of tree (take i kids))) a → Tells outward (IsAccepted (tree k.node)) b → Tells outward (IsKidAccepted (kids_of tree (take (i + 1) kids))) c
kid_more outward tree kids i k a b c lt is joined h g =
    let all : take (i + 1) kids ≡ take i kids ++ k ∷ [] = take_more kids i k lt ∙ ap (λ (x : Kid). take i kids ++ x ∷ []) (sym is) in
    subst (λ l. Tells outward (IsKidAccepted (kids_of tree l)) c) (sym all)
    (tells_same outward (λ w. IsKidAccepted (kids_of tree (take i kids)) w ⊎ IsAccepted (tree k.node) w) (IsKidAccepted (kids_of tree (take i kids ++ k ∷ []))) c
    (λ w o. behind_all tree (take i kids) k (Accept w) o) (λ w o. among_all tree (take i kids) k (Accept w) o)
    (tells_joined outward (IsKidAccepted (kids_of tree (take i kids))) (IsAccepted (tree k.node)) a b c joined h g))

pub leaf_told : (outward : Bool) (t : Plain Outcome) (a : Outcome) (e : Ends) → t ≡ leaf a → Tells outward (IsOutcome a) e → Tells outward (IsAccepted t) e
leaf_told outward t a e is h = subst (λ u. Tells outward (IsAccepted u) e) (sym is) h

-- ---- one node after another

pub ends_more : (outward : Bool) (leaves : List Outcome) (nodes : List Node) (n : ℕ) (ends new : List Ends) (own : Ends) → length ends ≡ n
    → ((k : ℕ) (e : Ends) → slice_get ends k ≡ Some e → Tells outward (IsAccepted (subtree_of leaves nodes k)) e) → Tells outward (IsAccepted (subtree_of leaves nodes n)) own → new ≡ ends ++ own ∷ []
    → (length new ≡ n + 1) × ((k : ℕ) (e : Ends) → slice_get new k ≡ Some e → Tells outward (IsAccepted (subtree_of leaves nodes k)) e)
ends_more outward leaves nodes n ends new own size each last is = (
  ap length is ∙ length-append ends (own ∷ []) ∙ ap (λ k. k + 1) size,
  λ k e there. zeroed k e (by outward leaves nodes ends own 0 (λ j d h. from_zero j d (each j d h)) (from_zero (length ends) own (subst (λ m. Tells outward (IsAccepted (subtree_of leaves nodes m)) own) (sym size) last)) k e (sym (ap (λ l. slice_get l k) is) ∙ there)),
)
  where
    plus : (k : ℕ) → 0 + k ≡ k
    plus k = omega arith

    zeroed : (k : ℕ) (e : Ends) → Tells outward (IsAccepted (subtree_of leaves nodes (0 + k))) e → Tells outward (IsAccepted (subtree_of leaves nodes k)) e
    zeroed k e h = subst (λ m. Tells outward (IsAccepted (subtree_of leaves nodes m)) e) (plus k) h

    from_zero : (k : ℕ) (e : Ends) → Tells outward (IsAccepted (subtree_of leaves nodes k)) e → Tells outward (IsAccepted (subtree_of leaves nodes (0 + k))) e
    from_zero k e h = subst (λ m. Tells outward (IsAccepted (subtree_of leaves nodes m)) e) (sym (plus k)) h

    by : (outward : Bool) (leaves : List Outcome) (nodes : List Node) (ends : List Ends) (own : Ends) (from : ℕ)
        → ((k : ℕ) (e : Ends) → slice_get ends k ≡ Some e → Tells outward (IsAccepted (subtree_of leaves nodes (from + k))) e) → Tells outward (IsAccepted (subtree_of leaves nodes (from + length ends))) own
        → (k : ℕ) (e : Ends) → slice_get (ends ++ own ∷ []) k ≡ Some e → Tells outward (IsAccepted (subtree_of leaves nodes (from + k))) e
    by outward leaves nodes [] own from each last zero e there = subst (λ x. Tells outward (IsAccepted (subtree_of leaves nodes (from + 0))) x) (same_Some own e there) last
    by outward leaves nodes [] own from each last (suc k) e there = absurd (let lt = slice_get_within [] k e there in omega (arith, lt))
    by outward leaves nodes (x ∷ ends) own from each last zero e there = each 0 e there
    by outward leaves nodes (x ∷ ends) own from each last (suc k) e there =
        let moved : (m : ℕ) → suc from + m ≡ from + suc m = step from in
        subst (λ m. Tells outward (IsAccepted (subtree_of leaves nodes m)) e) (moved k)
        (by outward leaves nodes ends own (suc from) (λ j d h. subst (λ m. Tells outward (IsAccepted (subtree_of leaves nodes m)) d) (sym (moved j)) (each (suc j) d h))
        (subst (λ m. Tells outward (IsAccepted (subtree_of leaves nodes m)) own) (sym (moved (length ends))) last) k e there)
      where
        step : (a m : ℕ) → suc a + m ≡ a + suc m
        step a m = omega arith
