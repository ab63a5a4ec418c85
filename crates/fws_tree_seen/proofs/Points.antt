-- What a packet reaches in a tree is the tree's value at a point as which it is seen.
use Rattle.std.proofs.Common.{◌≡◌, ℕ, suc, ◌+◌, Bool, true, false, ◌&&◌, not, Option, Some, None, List, [], ◌∷◌, inl, inr, refl, sym, ◌∙◌, ap, subst, arith}
use Rattle.std.proofs.lemmas.Bool.{false≢true, and_parts, not-true, cond-true, cond-false, cases_Bool, eqb-true, leb-true, MatchBool-at_true, MatchBool-at_false}
use Rattle.std.proofs.lemmas.Option.{none-some, same_Some}
use Rattle.std.specs.Prelude.{nat_le, nat_eq, slice_index}
use Rattle.fws_box.specs.Sides.{IsWithin}
use Rattle.fws_iv.specs.declared.iv.Iv.{Iv}
use Rattle.fws_iv.specs.Ivs.{has}
use Rattle.fws_net.specs.declared.packet.Packet.{Packet}
use Rattle.fws_tree.specs.Plain.{Plain, leaf, cut, Kids, none, kid, kid_at, value_from, EachKid, Parts, IsReducedFrom}
use Rattle.fws_tree_seen.specs.declared.seen.Seen.{Seen}
use Rattle.fws_tree_seen.specs.Reached.{Reaches, ReachesKid}
use Rattle.fws_tree_seen.specs.Shown.{has_field, shown, IsSeenAs}

-- the value of a field is what is seen in its place
abbrev pub SeenAt : Seen → Packet → ℕ → ℕ → Type 0
SeenAt seen q f x = (v : ℕ) → has_field q.proto f ≡ true → shown seen f q ≡ Some v → x ≡ v

-- the packet is seen as the values of the fields from one on
abbrev pub SeenFrom : Seen → Packet → ℕ → List ℕ → Type 0
SeenFrom seen q f [] = Unit {0}
SeenFrom seen q f (x ∷ p) = SeenAt seen q f x × SeenFrom seen q (suc f) p

pub seen_from : (seen : Seen) (q : Packet) (f : ℕ) (p : List ℕ)
    → ((i v : ℕ) → has_field q.proto (f + i) ≡ true → shown seen (f + i) q ≡ Some v → slice_index p i ≡ v) → SeenFrom seen q f p
seen_from seen q f [] h = tt
seen_from seen q f (x ∷ p) h = (
  λ v a e. let z : f ≡ f + 0 = omega arith in h 0 v (subst (λ n. has_field q.proto n ≡ true) z a) (subst (λ n. shown seen n q ≡ Some v) z e),
  seen_from seen q (suc f) p (λ i v a e. let z : suc f + i ≡ f + suc i = omega arith in
      h (suc i) v (subst (λ n. has_field q.proto n ≡ true) z a) (subst (λ n. shown seen n q ≡ Some v) z e)),
)

pub seen_all : (seen : Seen) (q : Packet) (p : List ℕ) → IsSeenAs seen q p → SeenFrom seen q 0 p
seen_all seen q p h = seen_from seen q 0 p (λ i v a e. let z : 0 + i ≡ i = omega arith in
    h i v (subst (λ n. has_field q.proto n ≡ true) z a) (subst (λ n. shown seen n q ≡ Some v) z e))

-- a set that is open has a member as which its field is seen
member : (b : Bool) (o : Option ℕ) (s : List Iv) → ((v : ℕ) → b ≡ true → o ≡ Some v → has s v ≡ true) → (least : ℕ) → has s least ≡ true
    → (x : ℕ) × (has s x ≡ true) × ((v : ℕ) → b ≡ true → o ≡ Some v → x ≡ v)
member true (Some v) s open' least h = (v, open' v refl refl, λ w a e. same_Some v w e)
member true None s open' least h = (least, h, λ w a e. absurd (none-some w e))
member false o s open' least h = (least, h, λ w a e. absurd (false≢true a))

-- among kids that part a domain, the one for some member of it is reached
kid_point : {L : Type 0} → (seen : Seen) (q : Packet) (f : ℕ) (w : L) (P : Plain L → Type 0) (domain : ℕ → Bool) (ks : Kids L)
    → Parts domain ks → EachKid P ks → ReachesKid seen q f ks w
    → (x : ℕ) × (domain x ≡ true) × SeenAt seen q f x × P (kid_at ks x) × Reaches seen q (kid_at ks x) w
kid_point seen q f w P domain none parts each r = absurd r
kid_point seen q f w P domain (kid s t ks) parts each (inl h) =
    let x = member (has_field q.proto f) (shown seen f q) s h.0 parts.2.0 parts.2.1 in
    let e : t ≡ kid_at (kid s t ks) x.0 = sym (cond-true (has s x.0) t (kid_at ks x.0) x.1) in
    (x.0, parts.1 x.0 x.1, x.2, subst P e each.0, subst (λ u. Reaches seen q u w) e h.1)
kid_point seen q f w P domain (kid s t ks) parts each (inr h) =
    let r = kid_point seen q f w P (λ x. domain x && not (has s x)) ks parts.4 each.1 h in
    let d = and_parts (domain r.0) (not (has s r.0)) r.1 in
    let e : kid_at ks r.0 ≡ kid_at (kid s t ks) r.0 = sym (cond-false (has s r.0) t (kid_at ks r.0) (not-true (has s r.0) d.1)) in
    (r.0, d.0, r.2, subst P e r.3, subst (λ u. Reaches seen q u w) e r.4)

leaf_value : {L : Type 0} → (f : ℕ) (a : L) (p : List ℕ) → value_from f (leaf a) p ≡ Some a
leaf_value f a [] = refl
leaf_value f a (x ∷ p) = leaf_value (suc f) a p

-- the verdict that is reached is the value at some point as which the packet is seen
pub point_from : {L : Type 0} → (seen : Seen) (q : Packet) (w : L) (g : ℕ) (tops : List ℕ) (t : Plain L) (p : List ℕ)
    → IsReducedFrom g tops t → Reaches seen q t w → IsWithin tops p → SeenFrom seen q g p
    → (r : List ℕ) × IsWithin tops r × SeenFrom seen q g r × (value_from g t r ≡ Some w)
point_from seen q w g tops (leaf a) p r h i s = (p, i, s, leaf_value g a p ∙ ap Some h)
point_from seen q w g [] (cut f ks) p r h i s = absurd r
point_from seen q w g (top ∷ tops) (cut f ks) [] r h i s = absurd i
point_from seen q w g (top ∷ tops) (cut f ks) (x ∷ p) r h i s = elim (cases_Bool (nat_eq f g)) [
  | inl y ↦ (let m = MatchBool-at_true _ _ y r in
      let k = kid_point seen q f w (IsReducedFrom (suc g) tops) (λ x. nat_le x top) ks m.1 m.2 h in
      let rest = point_from seen q w (suc g) tops (kid_at ks k.0) p k.3 k.4 i.1 s.1 in
      let at : SeenAt seen q g k.0 = subst (λ n. SeenAt seen q n k.0) (eqb-true f g y) k.2 in (
        k.0 ∷ rest.0,
        (leb-true k.0 top k.1, rest.1),
        (at, rest.2),
        ap (λ u. value_from (suc g) u rest.0) (cond-true (nat_eq f g) (kid_at ks k.0) (cut f ks) y) ∙ rest.3,
      ))
  | inr n ↦ (let m = MatchBool-at_false _ _ n r in
      let rest = point_from seen q w (suc g) tops (cut f ks) p m h i.1 s.1 in (
        x ∷ rest.0,
        (i.0, rest.1),
        (s.0, rest.2),
        ap (λ u. value_from (suc g) u rest.0) (cond-false (nat_eq f g) (kid_at ks x) (cut f ks) n) ∙ rest.3,
      ))
]
