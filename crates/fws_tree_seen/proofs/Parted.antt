-- The sets of kids of a reduced tree.
use Rattle.std.proofs.Common.{◌≡◌, ℕ, zero, suc, ◌+◌, ◌<◌, ◌≤◌, Bool, true, false, ◌&&◌, not, cond, Some, List, [], ◌∷◌, length, inl, inr, refl, sym, ◌∙◌, ap, subst, arith}
use Rattle.std.proofs.lemmas.Bool.{and_parts, cond-true, cond-false, cases_Bool, not-true, eqb-true, MatchBool-at_true, MatchBool-at_false}
use Rattle.std.proofs.lemmas.List.Sums.{sum_by-cons}
use Rattle.std.specs.List.{count_by}
use Rattle.std.specs.Prelude.{nat_eq, nat_le, slice_get, slice_index}
use Rattle.fws_iv.specs.Ivs.{has}
use Rattle.fws_tree.specs.declared.node.Kid.{Kid}
use Rattle.fws_tree.specs.Plain.{Plain, cut, Kids, kid_at, AreMany, EachKid, Parts, IsReducedFrom}
use Rattle.fws_tree_seen.specs.Cuts.{kids_of}

one_split : (a d : Bool) → (a ≡ true → d ≡ true) → cond a 1 0 + cond (d && not a) 1 0 ≡ cond d 1 0
one_split true true f = refl
one_split true false f = let e = f refl in absurd (cc)
one_split false true f = refl
one_split false false f = refl

-- sets that part a domain have each value of it once, and no other
pub parted : {L : Type 0} → (tree : ℕ → Plain L) (domain : ℕ → Bool) (ks : List Kid) → Parts domain (kids_of tree ks) → (v : ℕ) → count_by (λ kid. has kid.set v) ks ≡ cond (domain v) 1 0
parted tree domain [] parts v = sym (cond-false (domain v) 1 0 (parts v))
parted tree domain (k ∷ ks) parts v =
    sum_by-cons (λ kid. cond (has kid.set v) 1 0) k ks
    ∙ ap (λ n. cond (has k.set v) 1 0 + n) (parted tree (λ x. domain x && not (has k.set x)) ks parts.4 v)
    ∙ one_split (has k.set v) (domain v) (parts.1 v)

-- many kids are two or more
pub many_kids : {L : Type 0} → (tree : ℕ → Plain L) (ks : List Kid) → AreMany (kids_of tree ks) → 2 ≤ length ks
many_kids tree [] h = absurd h
many_kids tree (k ∷ []) h = absurd h
many_kids tree (k ∷ j ∷ ks) h = omega arith

-- what a cut of a reduced tree is: its kids are reduced over later fields
pub record IsReducedCut {L : Type 0} (g : ℕ) (tops : List ℕ) (f : ℕ) (ks : Kids L) : Type 0 where
  pub place : ℕ
  pub field : f ≡ g + place
  pub inside : place < length tops
  pub many : AreMany ks
  pub parts : Parts (λ x. nat_le x (slice_index tops place)) ks
  pub rest : List ℕ
  pub each : EachKid (IsReducedFrom (suc f) rest) ks

pub cut_parts : {L : Type 0} → (g : ℕ) (tops : List ℕ) (f : ℕ) (ks : Kids L) → IsReducedFrom g tops (cut f ks) → IsReducedCut g tops f ks
cut_parts g [] f ks r = absurd r
cut_parts g (top ∷ tops) f ks r = elim (cases_Bool (nat_eq f g)) [
  | inl y ↦ (let m = MatchBool-at_true _ _ y r in let e = eqb-true f g y in record {
    place = 0;
    field = omega (arith, e);
    inside = omega arith;
    many = m.0;
    parts = m.1;
    rest = tops;
    each = subst (λ n. EachKid (IsReducedFrom (suc n) tops) ks) (sym e) m.2;
  })
  | inr n ↦ (let c = cut_parts (suc g) tops f ks (MatchBool-at_false _ _ n r) in let e = c.field in let lt = c.inside in record {
    place = suc c.place;
    field = omega (arith, e);
    inside = omega (arith, lt);
    many = c.many;
    parts = c.parts;
    rest = c.rest;
    each = c.each;
  })
]

-- the kid that has a value is the first that has it
pub kid_found : {L : Type 0} → (tree : ℕ → Plain L) (domain : ℕ → Bool) (ks : List Kid) (i : ℕ) (k : Kid) (x : ℕ) → Parts domain (kids_of tree ks) → slice_get ks i ≡ Some k → has k.set x ≡ true
    → (kid_at (kids_of tree ks) x ≡ tree k.node) × (domain x ≡ true)
kid_found tree domain [] i k x parts at h = absurd (cc)
kid_found tree domain (j ∷ ks) zero k x parts at h =
    let same : j ≡ k = cc in
    let hj : has j.set x ≡ true = subst (λ (l : Kid). has l.set x ≡ true) (sym same) h in
    (cond-true (has j.set x) (tree j.node) (kid_at (kids_of tree ks) x) hj ∙ ap (λ (l : Kid). tree l.node) same, parts.1 x hj)
kid_found tree domain (j ∷ ks) (suc i) k x parts at h =
    let r = kid_found tree (λ y. domain y && not (has j.set y)) ks i k x parts.4 at h in
    let d = and_parts (domain x) (not (has j.set x)) r.1 in
    (cond-false (has j.set x) (tree j.node) (kid_at (kids_of tree ks) x) (not-true (has j.set x) d.1) ∙ r.0, d.0)

pub each_at : {L : Type 0} → (P : Plain L → Type 0) (tree : ℕ → Plain L) (ks : List Kid) (i : ℕ) (k : Kid) → EachKid P (kids_of tree ks) → slice_get ks i ≡ Some k → P (tree k.node)
each_at P tree [] i k each at = absurd (cc)
each_at P tree (j ∷ ks) zero k each at = let same : j ≡ k = cc in subst (λ (l : Kid). P (tree l.node)) same each.0
each_at P tree (j ∷ ks) (suc i) k each at = each_at P tree ks i k each.1 at

-- each set is some
pub filled : {L : Type 0} → (tree : ℕ → Plain L) (domain : ℕ → Bool) (ks : List Kid) (i : ℕ) (k : Kid) → Parts domain (kids_of tree ks) → slice_get ks i ≡ Some k → (x : ℕ) × (has k.set x ≡ true)
filled tree domain [] i k parts at = absurd (cc)
filled tree domain (j ∷ ks) zero k parts at = let same : j ≡ k = cc in (parts.2.0, subst (λ (l : Kid). has l.set parts.2.0 ≡ true) same parts.2.1)
filled tree domain (j ∷ ks) (suc i) k parts at = filled tree (λ y. domain y && not (has j.set y)) ks i k parts.4 at
