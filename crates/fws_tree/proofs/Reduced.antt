-- Two reduced trees with the same values are equal, and a reduced tree has a value at each point within its tops.
use Rattle.std.proofs.Common.{◌≡◌, ◌≢◌, ℕ, suc, ◌≤◌, Bool, true, false, ◌&&◌, not, cond, Some, List, [], ◌∷◌, ◌⊎◌, inl, inr, refl, sym, ◌∙◌, ap, subst, arith}
use Rattle.std.proofs.lemmas.Bool.{le-leb, leb-true, eqb-true, and_parts, cases_Bool, both_ways, MatchBool-at_true, MatchBool-at_false, cond_both, cond-true, not-true}
use Rattle.std.specs.Prelude.{nat_le, nat_eq}
use Rattle.fws_iv.specs.declared.iv.Iv.{Iv}
use Rattle.fws_iv.specs.Ivs.{has, SameMembersSameList}
use Rattle.fws_tree.specs.Plain.{Plain, leaf, cut, Kids, none, kid, kid_at, branch, value_from, EachKid, Parts, AreMany, IsReducedFrom, OneReducedTree, HasValues}
use Rattle.fws_box.specs.Sides.{IsWithin}

pub cond_false : {A : Type 0} (b : Bool) (x y : A) → b ≡ false → cond b x y ≡ y
cond_false b x y e = rw e refl

off : (b c : Bool) → b ≡ true → c ≡ false → (b && not c) ≡ true
off b c p q = rw (p, q) refl

off_parts : (b c : Bool) → (b && not c) ≡ true → (b ≡ true) × (c ≡ false)
off_parts b c e = let p = and_parts b (not c) e in (p.0, not-true c p.1)

both_same : (b c : Bool) → (b ≡ true → c ≡ true) → (c ≡ true → b ≡ true) → b ≡ c
both_same true c p q = sym (p refl)
both_same false true p q = q refl
both_same false false p q = refl

-- what holds of each kid holds of the one at a value of the domain
pub kid_in : {L : Type 0} (P : Plain L → Type 0) (domain : ℕ → Bool) (ks : Kids L) → Parts domain ks → EachKid P ks → (x : ℕ) → domain x ≡ true → P (kid_at ks x)
kid_in P domain none parts each x e = absurd (both_ways (domain x) (parts x) e)
kid_in P domain (kid s t ks) parts each x e = cond_both (has s x) t (kid_at ks x) P (λ h. each.0)
    (λ h. kid_in P (λ y. domain y && not (has s y)) ks parts.4 each.1 x (off (domain x) (has s x) e h))

-- a member of the first part of one is in the first part of the other
covers : {L : Type 0} (domain : ℕ → Bool) (s r : List Iv) (t u : Plain L) (ks ls : Kids L) → Parts domain (kid s t ks) → Parts domain (kid r u ls) → t ≡ u
    → ((x : ℕ) → domain x ≡ true → kid_at (kid s t ks) x ≡ kid_at (kid r u ls) x) → (x : ℕ) → has s x ≡ true → has r x ≡ true
covers domain s r t u ks ls a b e same x h = elim (cases_Bool (has r x)) [
  | inl y ↦ y
  | inr n ↦
      let d : domain x ≡ true = a.1 x h in
      let differs : u ≢ kid_at ls x = kid_in (λ v. u ≢ v) (λ y. domain y && not (has r y)) ls b.4 b.3 x (off (domain x) (has r x) d n) in
      let left : kid_at (kid s t ks) x ≡ t = cond-true (has s x) t (kid_at ks x) h in
      let right : kid_at (kid r u ls) x ≡ kid_at ls x = cond_false (has r x) u (kid_at ls x) n in
      absurd (differs (sym e ∙ sym left ∙ same x d ∙ right))
]

kids_same : SameMembersSameList → {L : Type 0} (domain : ℕ → Bool) (ks ls : Kids L) → Parts domain ks → Parts domain ls → ((x : ℕ) → domain x ≡ true → kid_at ks x ≡ kid_at ls x) → ks ≡ ls
kids_same one domain none none a b same = refl
kids_same one domain none (kid r u ls) a b same = absurd (both_ways (domain b.2.0) (a b.2.0) (b.1 b.2.0 b.2.1))
kids_same one domain (kid s t ks) none a b same = absurd (both_ways (domain a.2.0) (b a.2.0) (a.1 a.2.0 a.2.1))
kids_same one domain (kid s t ks) (kid r u ls) a b same =
    let x : ℕ = a.2.0 in
    let y : ℕ = b.2.0 in
    let dx : domain x ≡ true = a.1 x a.2.1 in
    let dy : domain y ≡ true = b.1 y b.2.1 in
    let le1 : x ≤ y = a.2.2 y dy in
    let le2 : y ≤ x = b.2.2 x dx in
    let xy : y ≡ x = omega arith in
    let hx : has r x ≡ true = ap (λ k. has r k) (sym xy) ∙ b.2.1 in
    let tu : t ≡ u = sym (cond-true (has s x) t (kid_at ks x) a.2.1) ∙ same x dx ∙ cond-true (has r x) u (kid_at ls x) hx in
    let sets : s ≡ r = one s r a.0 b.0 (λ k. both_same (has s k) (has r k)
    (covers domain s r t u ks ls a b tu same k)
    (covers domain r s u t ls ks b a (sym tu) (λ z d. sym (same z d)) k)) in
    let rest : Parts (λ k. domain k && not (has s k)) ls = subst (λ ms. Parts (λ k. domain k && not (has ms k)) ls) (sym sets) b.4 in
    let tails : ks ≡ ls = kids_same one (λ k. domain k && not (has s k)) ks ls a.4 rest (λ k d.
    let p = off_parts (domain k) (has s k) d in
    let n : has r k ≡ false = ap (λ ms. has ms k) (sym sets) ∙ p.1 in
    sym (cond_false (has s k) t (kid_at ks k) p.1) ∙ same k p.0 ∙ cond_false (has r k) u (kid_at ls k) n) in
    ap (λ ms. kid ms t ks) sets ∙ ap (λ v. kid r v ks) tu ∙ ap (λ ms. kid r u ms) tails

-- two kids at least can't all be one tree
many_differ : {L : Type 0} (domain : ℕ → Bool) (ks : Kids L) → Parts domain ks → AreMany ks → (v : Plain L) → ((x : ℕ) → domain x ≡ true → kid_at ks x ≡ v) → ⊥
many_differ domain none parts many v same = many
many_differ domain (kid s t none) parts many v same = many
many_differ domain (kid s t (kid r u ls)) parts many v same =
    let x : ℕ = parts.2.0 in
    let y : ℕ = parts.4.2.0 in
    let p = off_parts (domain y) (has s y) (parts.4.1 y parts.4.2.1) in
    let tv : t ≡ v = sym (cond-true (has s x) t (kid_at (kid r u ls) x) parts.2.1) ∙ same x (parts.1 x parts.2.1) in
    let uv : u ≡ v = sym (cond-true (has r y) u (kid_at ls y) parts.4.2.1) ∙ sym (cond_false (has s y) t (kid_at (kid r u ls) y) p.1) ∙ same y p.0 in
    parts.3.0 (tv ∙ sym uv)

-- a tree that cuts this field
record Cuts (L : Type 0) (f top : ℕ) (t : Plain L) : Type 0 where
  kids : Kids L
  is : t ≡ cut f kids
  many : AreMany kids
  parts : Parts (λ x. nat_le x top) kids
  at : (x : ℕ) → branch f t x ≡ kid_at kids x

-- a tree cuts this field, or not
cuts_or_not : {L : Type 0} (f top : ℕ) (tops : List ℕ) (t : Plain L) → IsReducedFrom f (top ∷ tops) t → Cuts L f top t ⊎ ((x : ℕ) → branch f t x ≡ t)
cuts_or_not f top tops (leaf a) h = inr (λ x. refl)
cuts_or_not f top tops (cut g ks) h = elim (cases_Bool (nat_eq g f)) [
  | inl y ↦ let r = MatchBool-at_true _ _ y h in inl (record { kids = ks; is = ap (λ k. cut k ks) (eqb-true g f y); many = r.0; parts = r.1; at = λ x. cond-true (nat_eq g f) (kid_at ks x) (cut g ks) y })
  | inr n ↦ inr (λ x. cond_false (nat_eq g f) (kid_at ks x) (cut g ks) n)
]

-- what is left of a reduced tree at a value is reduced over the later fields
pub branch_reduced : {L : Type 0} (f top : ℕ) (tops : List ℕ) (t : Plain L) → IsReducedFrom f (top ∷ tops) t → (x : ℕ) → x ≤ top → IsReducedFrom (suc f) tops (branch f t x)
branch_reduced f top tops (leaf a) h x le = tt
branch_reduced f top tops (cut g ks) h x le = cond_both (nat_eq g f) (kid_at ks x) (cut g ks) (IsReducedFrom (suc f) tops)
    (λ y. let r = MatchBool-at_true _ _ y h in kid_in (IsReducedFrom (suc f) tops) (λ k. nat_le k top) ks r.1 r.2 x (le-leb x top le))
    (λ n. MatchBool-at_false _ _ n h)

node_same : SameMembersSameList → {L : Type 0} (f top : ℕ) (t u : Plain L) → Cuts L f top t ⊎ ((x : ℕ) → branch f t x ≡ t) → Cuts L f top u ⊎ ((x : ℕ) → branch f u x ≡ u)
    → ((x : ℕ) → x ≤ top → branch f t x ≡ branch f u x) → t ≡ u
node_same one f top t u (inl a) (inl b) same = a.is ∙ ap (λ ks. cut f ks)
    (kids_same one (λ x. nat_le x top) a.kids b.kids a.parts b.parts (λ x d. sym (a.at x) ∙ same x (leb-true x top d) ∙ b.at x)) ∙ sym b.is
node_same one f top t u (inl a) (inr b) same = absurd (many_differ (λ x. nat_le x top) a.kids a.parts a.many u
    (λ x d. sym (a.at x) ∙ same x (leb-true x top d) ∙ b x))
node_same one f top t u (inr a) (inl b) same = absurd (many_differ (λ x. nat_le x top) b.kids b.parts b.many t
    (λ x d. sym (b.at x) ∙ sym (same x (leb-true x top d)) ∙ a x))
node_same one f top t u (inr a) (inr b) same = sym (a 0) ∙ same 0 (omega arith) ∙ b 0

one_from : SameMembersSameList → {L : Type 0} (tops : List ℕ) (f : ℕ) (t u : Plain L) → IsReducedFrom f tops t → IsReducedFrom f tops u
    → ((p : List ℕ) → IsWithin tops p → value_from f t p ≡ value_from f u p) → t ≡ u
one_from one [] f (leaf a) (leaf b) h k same = let e : Some a ≡ Some b = same [] tt in ap leaf (cc)
one_from one [] f (leaf a) (cut g ls) h k same = absurd k
one_from one [] f (cut g ks) u h k same = absurd h
one_from one (top ∷ tops) f t u h k same = node_same one f top t u (cuts_or_not f top tops t h) (cuts_or_not f top tops u k)
    (λ x le. one_from one tops (suc f) (branch f t x) (branch f u x) (branch_reduced f top tops t h x le) (branch_reduced f top tops u k x le)
    (λ p w. same (x ∷ p) (le, w)))

-- two reduced trees over the same tops with the same value at each point are equal
pub one_reduced : SameMembersSameList → (L : Type 0) → OneReducedTree L
one_reduced one L tops t u h k same = one_from one tops 0 t u h k same

pub has_value_from : {L : Type 0} (tops : List ℕ) (f : ℕ) (t : Plain L) → IsReducedFrom f tops t → (p : List ℕ) → IsWithin tops p
    → (a : L) × (value_from f t p ≡ Some a)
has_value_from [] f (leaf a) h [] w = (a, refl)
has_value_from [] f (leaf a) h (x ∷ p) w = absurd w
has_value_from [] f (cut g ks) h p w = absurd h
has_value_from (top ∷ tops) f t h [] w = absurd w
has_value_from (top ∷ tops) f t h (x ∷ p) w = has_value_from tops (suc f) (branch f t x) (branch_reduced f top tops t h x w.0) p w.1

-- a reduced tree has a value at each point within its tops
pub reduced_has_values : (L : Type 0) → HasValues L
reduced_has_values L tops t h p w = has_value_from tops 0 t h p w
