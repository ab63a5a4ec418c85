-- The turns of kids, put together.
use Rattle.std.proofs.Common.{◌≡◌, ℕ, ◌+◌, ◌<◌, List, [], ◌∷◌, ◌++◌, length, get_or, take, drop, refl, sym, ◌∙◌, ap, subst, append_assoc, append-nil}
use Rattle.std.proofs.lemmas.List.{take-append-drop, drop_more, take_more}
use Rattle.fws_iv.specs.declared.iv.Iv.{Iv}
use Rattle.fws_net.specs.declared.condition.Lit.{Lit}
use Rattle.fws_tree.specs.declared.node.Kid.{Kid}
use Rattle.fws_ipfw_put_rules.specs.declared.turn.Turn.{Turn}
use Rattle.fws_ipfw_put_rules.specs.Turns.{turns_for, AreKidTurns}

-- turns of kids behind those of others
pub kid_turns_both : (Is : List Iv → List Lit → Type 0) (xs ys : List Kid) (a b : List Turn) → AreKidTurns Is xs a → AreKidTurns Is ys b → AreKidTurns Is (xs ++ ys) (a ++ b)
kid_turns_both Is [] ys a b h k = subst (λ l. AreKidTurns Is ys l) (sym (ap (λ l. l ++ b) h)) k
kid_turns_both Is (x ∷ xs) ys a b h k =
    (h.0, h.1 ++ b, ap (λ l. l ++ b) h.2 ∙ append_assoc (turns_for x.node h.0) h.1 b, h.3, kid_turns_both Is xs ys h.1 b h.4 k)

one_kid : (Is : List Iv → List Lit → Type 0) (x : Kid) (lits : List Lit) → Is x.set lits → AreKidTurns Is (x ∷ []) (turns_for x.node lits)
one_kid Is x lits h = (lits, [], sym (append-nil (turns_for x.node lits)), h, refl)

-- the turns of one kid more
pub kid_turns_more : (Is : List Iv → List Lit → Type 0) (kids : List Kid) (i : ℕ) (x : Kid) (block : List Turn) (lits : List Lit)
    → i < length kids → x ≡ get_or kids i x → AreKidTurns Is (take i kids) block → Is x.set lits → AreKidTurns Is (take (i + 1) kids) (block ++ turns_for x.node lits)
kid_turns_more Is kids i x block lits lt is h k =
    let both = kid_turns_both Is (take i kids) (x ∷ []) block (turns_for x.node lits) h (one_kid Is x lits k) in
    let more : take i kids ++ x ∷ [] ≡ take (i + 1) kids = ap (λ y. take i kids ++ y ∷ []) is ∙ sym (take_more kids i x lt) in
    subst (λ l. AreKidTurns Is l (block ++ turns_for x.node lits)) more both

-- a list is what stands before a place, what stands there, and what stands behind
pub split_at_place : (kids : List Kid) (i : ℕ) (x : Kid) → i < length kids → x ≡ get_or kids i x → kids ≡ take i kids ++ x ∷ drop (i + 1) kids
split_at_place kids i x lt is =
    sym (take-append-drop i kids) ∙ ap (λ l. take i kids ++ l) (drop_more kids i x lt ∙ ap (λ y. y ∷ drop (i + 1) kids) (sym is))
