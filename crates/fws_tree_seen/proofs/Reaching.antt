-- What a packet reaches in a tree is the tree's value at a point as which it is seen.
use Rattle.std.proofs.Common.{◌≡◌, ◌⊎◌, ℕ, zero, suc, ◌≤◌, Bool, true, ◌&&◌, not, Some, List, [], ◌∷◌, ◌++◌, length, inl, inr, refl, sym, ◌∙◌, ap, subst, arith}
use Rattle.std.proofs.lemmas.Bool.{and_from, cases_Bool, cond-true, cond-false, le-leb, true≢false, MatchBool-at_true, MatchBool-at_false}
use Rattle.std.specs.Prelude.{nat_eq, nat_le, slice_index}
use Rattle.fws_box.specs.Sides.{IsWithin}
use Rattle.fws_iv.specs.Ivs.{has}
use Rattle.fws_net.specs.declared.packet.Packet.{Packet}
use Rattle.fws_tree.specs.declared.node.Kid.{Kid}
use Rattle.fws_tree.specs.Plain.{Plain, leaf, cut, Kids, none, kid, kid_at, branch, value, EachKid, Parts, IsReduced, IsReducedFrom}
use Rattle.fws_tree_seen.specs.declared.seen.Seen.{Seen}
use Rattle.fws_tree_seen.specs.Cuts.{kids_of}
use Rattle.fws_tree_seen.specs.Reached.{IsOpen, IsTopped, Reaches, ReachesKid}
use Rattle.fws_tree_seen.specs.Shown.{IsSeenAs, IsTold}
use Rattle.fws_tree_seen.proofs.Freedom.{same_value}
use Rattle.fws_tree_seen.proofs.Points.{SeenFrom, seen_all, point_from}

within_at : (tops x : List ℕ) (f : ℕ) → IsWithin tops x → slice_index x f ≤ slice_index tops f
within_at [] [] f h = omega arith
within_at [] (x ∷ p) f h = absurd h
within_at (top ∷ tops) [] f h = absurd h
within_at (top ∷ tops) (x ∷ p) zero h = h.0
within_at (top ∷ tops) (x ∷ p) (suc f) h = within_at tops p f h.1

-- what is seen as a point within the tops lies up to them
pub topped_by : (seen : Seen) (tops : List ℕ) (q : Packet) (x : List ℕ) → IsWithin tops x → IsSeenAs seen q x → IsTopped tops seen q
topped_by seen tops q x w s = λ f v a e. let le = within_at tops x f w in let is = s f v a e in omega (arith, le, is)

-- what holds of each kid holds of the one that has a value of the domain
kid_each : {L : Type 0} → (P : Plain L → Type 0) (domain : ℕ → Bool) (ks : Kids L) (x : ℕ) → Parts domain ks → EachKid P ks → domain x ≡ true → P (kid_at ks x)
kid_each P domain none x parts each d = absurd (true≢false (sym d ∙ parts x))
kid_each P domain (kid s t ks) x parts each d = elim (cases_Bool (has s x)) [
  | inl y ↦ subst P (sym (cond-true (has s x) t (kid_at ks x) y)) each.0
  | inr n ↦ (let left : (domain x && not (has s x)) ≡ true = and_from (domain x) (not (has s x)) d (ap not n) in
      subst P (sym (cond-false (has s x) t (kid_at ks x) n)) (kid_each P (λ z. domain z && not (has s z)) ks x parts.4 each.1 left))
]

-- the tree that is left at an entry is reduced over the later fields
left_reduced : {L : Type 0} → (top : ℕ) (ts : List ℕ) (t : Plain L) (x0 : ℕ) → IsReduced (top ∷ ts) t → x0 ≤ top → IsReducedFrom 1 ts (branch 0 t x0)
left_reduced top ts (leaf a) x0 r le = tt
left_reduced top ts (cut f ks) x0 r le = elim (cases_Bool (nat_eq f 0)) [
  | inl y ↦ (let m = MatchBool-at_true _ _ y r in
      subst (IsReducedFrom 1 ts) (sym (cond-true (nat_eq f 0) (kid_at ks x0) (cut f ks) y)) (kid_each (IsReducedFrom 1 ts) (λ z. nat_le z top) ks x0 m.1 m.2 (le-leb x0 top le)))
  | inr n ↦ subst (IsReducedFrom 1 ts) (sym (cond-false (nat_eq f 0) (kid_at ks x0) (cut f ks) n)) (MatchBool-at_false _ _ n r)
]

pub reached_is : {L : Type 0} → (seen : Seen) (tops : List ℕ) (t : Plain L) (q : Packet) (x : List ℕ) (w : L) → IsReduced tops t → length tops ≡ 12
    → IsTold seen tops t → IsWithin tops x → IsSeenAs seen q x → Reaches seen q (branch 0 t (slice_index x 0)) w → value t x ≡ Some w
reached_is seen [] t q x w reduced twelve told within sees reached = absurd (omega (arith, twelve))
reached_is seen (top ∷ ts) t q [] w reduced twelve told within sees reached = absurd within
reached_is seen (top ∷ ts) t q (x0 ∷ rest) w reduced twelve told within sees reached =
    let seen-rest : SeenFrom seen q 1 rest = (seen_all seen q (x0 ∷ rest) sees).1 in
    let r = point_from seen q w 1 ts (branch 0 t x0) rest (left_reduced top ts t x0 reduced within.0) reached within.1 seen-rest in
    let same : value t (x0 ∷ r.0) ≡ value t (x0 ∷ rest) = same_value seen (top ∷ ts) t told twelve q top ts refl x0 rest r.0 within.0 within.1 r.1 seen-rest r.2 in
    sym same ∙ r.3

-- what is reached by an open kid, or by the others, is reached by all
pub reached_by : {L : Type 0} → (seen : Seen) (q : Packet) (f : ℕ) (w : L) (tree : ℕ → Plain L) (front back : List Kid) (other : Kid)
    → ReachesKid seen q f (kids_of tree (front ++ back)) w ⊎ (IsOpen seen q f other.set × Reaches seen q (tree other.node) w)
    → ReachesKid seen q f (kids_of tree (front ++ other ∷ back)) w
reached_by seen q f w tree [] back other (inl h) = inr h
reached_by seen q f w tree [] back other (inr h) = inl h
reached_by seen q f w tree (k ∷ front) back other (inl (inl h)) = inl h
reached_by seen q f w tree (k ∷ front) back other (inl (inr h)) = inr (reached_by seen q f w tree front back other (inl h))
reached_by seen q f w tree (k ∷ front) back other (inr h) = inr (reached_by seen q f w tree front back other (inr h))
