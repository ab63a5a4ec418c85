-- Whether a tree is true somewhere.
use Rattle.std.proofs.Common.{◌≡◌, ◌⊎◌, ◌↔◌, IsTrue, ℕ, zero, suc, ◌+◌, ◌<◌, ◌≤◌, Bool, true, false, not, ◌&&◌, nat_le, nat_eq, nat_lt, Option, Some, None, slice_get, List, [], ◌∷◌, ◌++◌, inl, inr, length, get_or, set, drop, All, refl, sym, ◌∙◌, ap, subst, arith, length-append}
use Rattle.std.proofs.lemmas.Bool.{cases_Bool, cond-true, cond-false, leb-true, eqb-true, and_parts, not-true, false≢true, MatchBool-at_true, MatchBool-at_false}
use Rattle.std.proofs.lemmas.Bool.Decides.{nat_tests}
use Rattle.std.proofs.lemmas.List.{drop_more, get_or_push, get_or_append_left, get_or-set_same, get_or-set_other}
use Rattle.std.proofs.lemmas.List.Elements.{All-push}
use Rattle.std.specs.List.{AllByRecursion}
use Rattle.fws_iv.specs.Ivs.{has}
use Rattle.fws_box.specs.Sides.{IsWithin}
use Rattle.fws_tree.specs.Building.{Extends}
use Rattle.fws_tree.specs.Changed.{is_free, Agree, IsTrueSomewhere}
use Rattle.fws_tree.specs.declared.node.Kid.{Kid}
use Rattle.fws_tree.specs.declared.node.Node.{Node}
use Rattle.fws_tree.specs.declared.store.Cell.{Cell}
use Rattle.fws_tree.specs.Held.{held_at, over_leaf}
use Rattle.fws_tree.specs.Loaded.{read, read_kids, kid_number, named_cell}
use Rattle.fws_tree.specs.Nodes.{kids_over, trees_after, named_leaf, relabel, relabel_kids}
use Rattle.fws_tree.specs.Plain.{Plain, leaf, cut, Kids, none, kid, kid_at, EachKid, Parts, IsReducedFrom, IsReduced}
use Rattle.fws_tree.specs.Projected.{any_of, ReadsTrue, Tells, AreProjected}
use Rattle.fws_tree.specs.Shared.{subtree_of}
use Rattle.fws_tree.proofs.Cells.{held-extends, length-extends}
use Rattle.fws_tree.proofs.Loading.{read_kid, read_is_value, drop_parts, named_at}

-- ---- the kids' numbers

abbrev IsNodeOf : ℕ → List Kid → Type 0
IsNodeOf j [] = ⊥
IsNodeOf j (k ∷ ks) = (k.node ≡ j) ⊎ IsNodeOf j ks

any_one : (v : ℕ → ℕ) (n : ℕ) (ks : List Kid) → n ≡ 1 → any_of v n ks ≡ 1
any_one v n [] e = e
any_one v n (k ∷ ks) e = any_one v (over_leaf n (v k.node)) ks (ap (λ z. over_leaf z (v k.node)) e)

-- of numbers that are 0 or 1, one is 1, or all are 0
any_cases : (v : ℕ → ℕ) (n : ℕ) (ks : List Kid) → n ≡ 0 → ((j : ℕ) → IsNodeOf j ks → (v j ≡ 1) ⊎ (v j ≡ 0))
    → ((any_of v n ks ≡ 1) × ((j : ℕ) × IsNodeOf j ks × (v j ≡ 1))) ⊎ ((any_of v n ks ≡ 0) × ((j : ℕ) → IsNodeOf j ks → v j ≡ 0))
any_cases v n [] e two = inr (e, λ j h. absurd h)
any_cases v n (k ∷ ks) e two = elim (two k.node (inl refl)) [
  | inl one ↦ inl (any_one v (over_leaf n (v k.node)) ks (ap (λ z. over_leaf z (v k.node)) e ∙ one), (k.node, inl refl, one))
  | inr zero' ↦ elim (any_cases v (over_leaf n (v k.node)) ks (ap (λ z. over_leaf z (v k.node)) e ∙ zero') (λ j h. two j (inr h))) [
    | inl a ↦ inl (a.0, (a.1.0, inr a.1.1, a.1.2))
    | inr b ↦ inr (b.0, λ j h. elim h [ inl s ↦ ap v (sym s) ∙ zero' | inr m ↦ b.1 j m ])
  ]
]

pub any-next : (v : ℕ → ℕ) (n m : ℕ) (k : Kid) (ks : List Kid) (all : ℕ) → m ≡ over_leaf n (v k.node) → any_of v n (k ∷ ks) ≡ all → any_of v m ks ≡ all
any-next v n m k ks all e h = ap (λ z. any_of v z ks) e ∙ h

-- the kid that has a value, or none
number_cases : (leaves : List Bool) (ts : List (Plain ℕ)) (ks : List Kid) (m x : ℕ) → AllByRecursion (λ k. k.node < m) ks
    → ((kid_number ks x ≡ 0) × ((q : List ℕ) → read_kids (relabel_kids leaves (kids_over ts ks)) x q ≡ None))
    ⊎ ((j : ℕ) × (kid_number ks x ≡ j + 1) × (j < m) × IsNodeOf j ks × ((q : List ℕ) → read_kids (relabel_kids leaves (kids_over ts ks)) x q ≡ read (relabel leaves (get_or ts j (cut 0 none))) q))
number_cases leaves ts [] m x below = inl (refl, λ q. refl)
number_cases leaves ts (k ∷ ks) m x below = elim (cases_Bool (has k.set x)) [
  | inl y ↦ inr (k.node, cond-true (has k.set x) (k.node + 1) (kid_number ks x) y, below.0, inl refl, λ q. cond-true (has k.set x) _ _ y)
  | inr f ↦ elim (number_cases leaves ts ks m x below.1) [
    | inl a ↦ inl (cond-false (has k.set x) (k.node + 1) (kid_number ks x) f ∙ a.0, λ q. cond-false (has k.set x) _ _ f ∙ a.1 q)
    | inr b ↦ inr (b.0, cond-false (has k.set x) (k.node + 1) (kid_number ks x) f ∙ b.1, b.2, inr b.3, λ q. cond-false (has k.set x) _ _ f ∙ b.4 q)
  ]
]

node_below : (ks : List Kid) (m j : ℕ) → AllByRecursion (λ k. k.node < m) ks → IsNodeOf j ks → j < m
node_below [] m j below h = absurd h
node_below (k ∷ ks) m j below (inl e) = subst (λ i. i < m) e below.0
node_below (k ∷ ks) m j below (inr h) = node_below ks m j below.1 h

-- ---- a value that leads to a kid

-- a value of the domain that a kid alone has
led_to : (leaves : List Bool) (ts : List (Plain ℕ)) (P : Plain Bool → Type 0) (domain : ℕ → Bool) (ks : List Kid) (j : ℕ) → Parts domain (relabel_kids leaves (kids_over ts ks)) → EachKid P (relabel_kids leaves (kids_over ts ks)) → IsNodeOf j ks
    → (x : ℕ) × (domain x ≡ true) × (kid_at (relabel_kids leaves (kids_over ts ks)) x ≡ relabel leaves (get_or ts j (cut 0 none))) × P (relabel leaves (get_or ts j (cut 0 none)))
led_to leaves ts P domain [] j parts each h = absurd h
led_to leaves ts P domain (k ∷ ks) j parts each (inl e) =
    let x : ℕ = parts.2.0 in
    (x, parts.1 x parts.2.1, cond-true (has k.set x) _ _ parts.2.1 ∙ ap (λ i. relabel leaves (get_or ts i (cut 0 none))) e, subst (λ i. P (relabel leaves (get_or ts i (cut 0 none)))) e each.0)
led_to leaves ts P domain (k ∷ ks) j parts each (inr h) =
    let z = led_to leaves ts P (λ y. domain y && not (has k.set y)) ks j parts.4 each.1 h in
    let b = and_parts (domain z.0) (not (has k.set z.0)) z.1 in
    (z.0, b.0, cond-false (has k.set z.0) _ _ (not-true (has k.set z.0) b.1) ∙ z.2, z.3)

-- ---- a field that a tree doesn't cut

read_kids_same : (P : Plain Bool → Type 0) (p q : List ℕ) → ((t : Plain Bool) → P t → read t p ≡ read t q) → (ks : Kids Bool) → EachKid P ks → (x : ℕ) → read_kids ks x p ≡ read_kids ks x q
read_kids_same P p q same none each x = refl
read_kids_same P p q same (kid s t ks) each x = elim (cases_Bool (has s x)) [ inl y ↦ rw y (same t each.0) | inr n ↦ rw n (read_kids_same P p q same ks each.1 x) ]

read_later : (tops : List ℕ) (g f x : ℕ) (t : Plain Bool) (q : List ℕ) → IsReducedFrom g tops t → f < g → read t (set q f x) ≡ read t q
read_later tops g f x (leaf a) q r lt = refl
read_later [] g f x (cut h ks) q r lt = absurd r
read_later (top ∷ tops) g f x (cut h ks) q r lt = elim (cases_Bool (nat_eq h g)) [
  | inl y ↦ (
      let m = MatchBool-at_true _ _ y r in
      let e : h ≡ g = eqb-true h g y in
      ap (λ z. read_kids ks z (set q f x)) (get_or-set_other q f h x 0 (λ s. omega arith))
      ∙ read_kids_same (IsReducedFrom (suc g) tops) (set q f x) q (λ t u. read_later tops (suc g) f x t q u (omega arith)) ks m.2 (get_or q h 0))
  | inr n ↦ read_later tops (suc g) f x (cut h ks) q (MatchBool-at_false _ _ n r) (omega arith)
]

-- a reduced cut's kids part its field's range and cut later fields
record CutsAt (all : List ℕ) (f : ℕ) (ks : Kids Bool) : Type 0 where
  pub rest : List ℕ
  pub inside : f < length all
  pub parts : Parts (λ x. nat_le x (get_or all f 0)) ks
  pub kids : EachKid (IsReducedFrom (suc f) rest) ks

shorter : (xs : List ℕ) (n x : ℕ) (ys : List ℕ) → drop n xs ≡ x ∷ ys → n < length xs
shorter [] zero x ys e = absurd (cc)
shorter [] (suc n) x ys e = absurd (cc)
shorter (y ∷ xs) zero x ys e = omega arith
shorter (y ∷ xs) (suc n) x ys e = let l = shorter xs n x ys e in omega arith

cuts_from : (all tops : List ℕ) (g f : ℕ) (ks : Kids Bool) → IsReducedFrom g tops (cut f ks) → drop g all ≡ tops → CutsAt all f ks
cuts_from all [] g f ks r e = absurd r
cuts_from all (top ∷ tops) g f ks r e = elim (cases_Bool (nat_eq f g)) [
  | inl y ↦ (
      let m = MatchBool-at_true _ _ y r in
      let s : g ≡ f = sym (eqb-true f g y) in
      let d = drop_parts all g top tops e in
      let here : top ≡ get_or all f 0 = sym d.0 ∙ ap (λ i. get_or all i 0) s in
      record {
        rest = tops;
        inside = subst (λ i. i < length all) s (shorter all g top tops e);
        parts = subst (λ n. Parts (λ x. nat_le x n) ks) here m.1;
        kids = subst (λ i. EachKid (IsReducedFrom (suc i) tops) ks) s m.2;
      })
  | inr n ↦ cuts_from all tops (suc g) f ks (MatchBool-at_false _ _ n r) (drop_parts all g top tops e).1
]

-- ---- points

within_set : (tops q : List ℕ) (f x : ℕ) → IsWithin tops q → x ≤ get_or tops f 0 → IsWithin tops (set q f x)
within_set [] [] f x w le = tt
within_set [] (y ∷ q) f x w le = absurd w
within_set (top ∷ tops) [] f x w le = absurd w
within_set (top ∷ tops) (y ∷ q) zero x w le = (le, w.1)
within_set (top ∷ tops) (y ∷ q) (suc f) x w le = (w.0, within_set tops q f x w.1 le)

within_long : (tops q : List ℕ) → IsWithin tops q → length q ≡ length tops
within_long [] [] w = refl
within_long [] (y ∷ q) w = absurd w
within_long (top ∷ tops) [] w = absurd w
within_long (top ∷ tops) (y ∷ q) w = let l = within_long tops q w.1 in omega arith

agree_set : (fields : ℕ) (p q : List ℕ) (f x : ℕ) → Agree fields p q → is_free fields f ≡ true → Agree fields p (set q f x)
agree_set fields p q f x a free g held = a g held ∙ sym (get_or-set_other q f g x 0 (λ e. false≢true (sym held ∙ ap (is_free fields) e ∙ free)))

-- ---- what a node's cell tells

pub tells_leaf : (tops : List ℕ) (fields : ℕ) (o : Option Bool) (p : List ℕ) (n : ℕ) → IsWithin tops p → ((n ≡ 1) × (o ≡ Some true)) ⊎ ((n ≡ 0) × (o ≡ Some true → ⊥)) → Tells tops fields (named_leaf o) p n
tells_leaf tops fields (Some a) p n w (inl h) = inl (h.0, (p, w, λ f e. refl, h.1))
tells_leaf tops fields (Some a) p n w (inr h) = inr (h.0, λ r. h.1 r.3)
tells_leaf tops fields None p n w (inl h) = absurd (cc (h.1))
tells_leaf tops fields None p n w (inr h) = inr (h.0, λ r. h.1 r.3)

tells_same : (tops : List ℕ) (fields : ℕ) (t u : Plain Bool) (p : List ℕ) (n m : ℕ) → m ≡ n → (ReadsTrue tops fields t p → ReadsTrue tops fields u p) → (ReadsTrue tops fields u p → ReadsTrue tops fields t p) → Tells tops fields t p n → Tells tops fields u p m
tells_same tops fields t u p n m e a b (inl h) = inl (e ∙ h.0, a h.1)
tells_same tops fields t u p n m e a b (inr h) = inr (e ∙ h.0, λ r. h.1 (b r))

-- a cut of a field that stays
pub tells_cut : (tops : List ℕ) (fields f : ℕ) (leaves : List Bool) (nodes : List Node) (old new : List Cell) (at : List ℕ) (ks : List Kid) (k cell rest : ℕ) (p : List ℕ) → AllByRecursion (λ j. j.node < k) ks → length at ≡ k → AreProjected tops fields leaves nodes old at
    → is_free fields f ≡ false → held_at old rest p ≡ 0 → IsWithin tops p → held_at new cell p ≡ held_at old (named_cell at rest (kid_number ks (get_or p f 0))) p
    → Tells tops fields (cut f (relabel_kids leaves (kids_over (trees_after [] nodes) ks))) p (held_at new cell p)
tells_cut tops fields f leaves nodes old new at ks k cell rest p below many projected held nowhere w is = elim (number_cases leaves (trees_after [] nodes) ks k (get_or p f 0) below) [
  | inl a ↦ inr (
    is ∙ ap (λ n. held_at old (named_cell at rest n) p) a.0 ∙ nowhere,
    λ r. let e : None ≡ Some true = sym (a.1 r.0) ∙ ap (λ x. read_kids (relabel_kids leaves (kids_over (trees_after [] nodes) ks)) x r.0) (r.2 f held) ∙ r.3 in absurd (cc),
  )
  | inr b ↦ (
      let lt = b.2 in
      let lj : b.0 < length at = omega arith in
      let ts : Kids Bool = relabel_kids leaves (kids_over (trees_after [] nodes) ks) in
      tells_same tops fields (subtree_of leaves nodes b.0) (cut f ts) p (held_at old (get_or at b.0 0) p) (held_at new cell p)
      (is ∙ ap (λ n. held_at old (named_cell at rest n) p) b.1 ∙ ap (λ c. held_at old c p) (named_at at rest b.0 lj))
      (λ r. (r.0, r.1, r.2, ap (λ x. read_kids ts x r.0) (sym (r.2 f held)) ∙ b.4 r.0 ∙ r.3))
      (λ r. (r.0, r.1, r.2, sym (b.4 r.0) ∙ ap (λ x. read_kids ts x r.0) (r.2 f held) ∙ r.3))
      (projected.tells b.0 lj p w))
]

two_ways : (tops : List ℕ) (fields : ℕ) (t : Plain Bool) (p : List ℕ) (n : ℕ) → Tells tops fields t p n → (n ≡ 1) ⊎ (n ≡ 0)
two_ways tops fields t p n (inl h) = inl h.0
two_ways tops fields t p n (inr h) = inr h.0

it_reads : (tops : List ℕ) (fields : ℕ) (t : Plain Bool) (p : List ℕ) (n : ℕ) → Tells tops fields t p n → n ≡ 1 → ReadsTrue tops fields t p
it_reads tops fields t p n (inl h) e = h.1
it_reads tops fields t p n (inr h) e = let z : ◌≡◌ {A = ℕ} 1 0 = sym e ∙ h.0 in absurd (omega arith)

it_doesnt : (tops : List ℕ) (fields : ℕ) (t : Plain Bool) (p : List ℕ) (n : ℕ) → Tells tops fields t p n → n ≡ 0 → ReadsTrue tops fields t p → ⊥
it_doesnt tops fields t p n (inl h) e = let z : ◌≡◌ {A = ℕ} 0 1 = sym e ∙ h.0 in absurd (omega arith)
it_doesnt tops fields t p n (inr h) e = h.1

-- a cut of a field that is free
pub tells_free : (tops : List ℕ) (fields f : ℕ) (leaves : List Bool) (nodes : List Node) (old new : List Cell) (at : List ℕ) (ks : List Kid) (k cell rest : ℕ) (p : List ℕ) → AllByRecursion (λ j. j.node < k) ks → length at ≡ k → AreProjected tops fields leaves nodes old at
    → is_free fields f ≡ true → held_at old rest p ≡ 0 → IsWithin tops p → IsReduced tops (cut f (relabel_kids leaves (kids_over (trees_after [] nodes) ks)))
    → held_at new cell p ≡ any_of (λ n. held_at old (get_or at n 0) p) (held_at old rest p) ks
    → Tells tops fields (cut f (relabel_kids leaves (kids_over (trees_after [] nodes) ks))) p (held_at new cell p)
tells_free tops fields f leaves nodes old new at ks k cell rest p below many projected free nowhere w reduced is =
    let v : ℕ → ℕ = λ n. held_at old (get_or at n 0) p in
    let trees : List (Plain ℕ) = trees_after [] nodes in
    let ts : Kids Bool = relabel_kids leaves (kids_over trees ks) in
    let each : (j : ℕ) → IsNodeOf j ks → Tells tops fields (subtree_of leaves nodes j) p (v j) = λ j h. projected.tells j (let l = node_below ks k j below h in omega arith) p w in
    let cuts = cuts_from tops tops 0 f ts reduced refl in
    elim (any_cases v (held_at old rest p) ks nowhere (λ j h. two_ways tops fields (subtree_of leaves nodes j) p (v j) (each j h))) [
      | inl a ↦ inl (
        is ∙ a.0,
        (
            let r = it_reads tops fields (subtree_of leaves nodes a.1.0) p (v a.1.0) (each a.1.0 a.1.1) a.1.2 in
            let z = led_to leaves trees (IsReducedFrom (suc f) cuts.rest) (λ x. nat_le x (get_or tops f 0)) ks a.1.0 cuts.parts cuts.kids a.1.1 in
            let q : List ℕ = set r.0 f z.0 in
            let lq = within_long tops r.0 r.1 in
            let lf = cuts.inside in
            let here : get_or q f 0 ≡ z.0 = get_or-set_same r.0 f z.0 0 (omega arith) in (
              q,
              within_set tops r.0 f z.0 r.1 (leb-true z.0 (get_or tops f 0) z.1),
              agree_set fields p r.0 f z.0 r.2 free,
              ap (λ x. read_kids ts x q) here ∙ read_kid ts z.0 q ∙ ap (λ t. read t q) z.2 ∙ read_later cuts.rest (suc f) f z.0 (subtree_of leaves nodes a.1.0) r.0 z.3 (omega arith) ∙ r.3,
            )),
      )
      | inr b ↦ inr (
        is ∙ b.0,
        λ r. elim (number_cases leaves trees ks k (get_or r.0 f 0) below) [
          | inl c ↦ (let e : None ≡ Some true = sym (c.1 r.0) ∙ r.3 in absurd (cc))
          | inr d ↦ it_doesnt tops fields (subtree_of leaves nodes d.0) p (v d.0) (each d.0 d.3) (b.1 d.0 d.3) (r.0, r.1, r.2, sym (d.4 r.0) ∙ r.3)
        ],
      )
    ]

-- ---- the cells so far

pub projected-next : (tops : List ℕ) (fields : ℕ) (leaves : List Bool) (nodes : List Node) (old new : List Cell) (at more : List ℕ) (k cell : ℕ) → Extends old new → length at ≡ k → AreProjected tops fields leaves nodes old at → cell < length new
    → ((p : List ℕ) → IsWithin tops p → Tells tops fields (subtree_of leaves nodes k) p (held_at new cell p)) → more ≡ at ++ cell ∷ [] → AreProjected tops fields leaves nodes new more
projected-next tops fields leaves nodes old new at more k cell e many projected inside here is =
    let l = length-extends old new e in
    subst (AreProjected tops fields leaves nodes new) (sym is) (record {
      below = All-push (λ c. c < length new) at cell (λ j d lt. let b = projected.below j d lt in omega arith) inside;
      tells = λ j lt p w. elim (cases_Bool (nat_lt j (length at))) [
        | inl t ↦ (
            let lj : j < length at = grind (arith, nat_tests) in
            subst (Tells tops fields (subtree_of leaves nodes j) p)
            (sym (ap (λ c. held_at new c p) (get_or_append_left at (cell ∷ []) 0 j lj) ∙ held-extends old new (get_or at j 0) p e (projected.below j 0 lj))) (projected.tells j lj p w))
        | inr f ↦ (
            let long : length (at ++ cell ∷ []) ≡ length at + 1 = length-append at (cell ∷ []) in
            let ej : length at ≡ j = grind (arith, nat_tests) in
            let kj : k ≡ j = omega arith in
            subst (λ i. Tells tops fields (subtree_of leaves nodes i) p (held_at new (get_or (at ++ cell ∷ []) j 0) p)) kj
            (subst (λ c. Tells tops fields (subtree_of leaves nodes k) p (held_at new c p)) (sym (get_or_push at cell 0 j ej)) (here p w)))
      ];
    })

-- a number of the list, or 0
pub at_below : (at : List ℕ) (n m : ℕ) → All (λ c. c < m) at → 0 < m → get_or at n 0 < m
at_below [] n m all lt = lt
at_below (c ∷ at) zero m all lt = all 0 0 (omega arith)
at_below (c ∷ at) (suc n) m all lt = at_below at n m (λ k d l. all (suc k) d (omega arith)) lt

-- ---- the answer

somewhere : (tops : List ℕ) (fields : ℕ) (t : Plain Bool) (p : List ℕ) → IsReduced tops t → ReadsTrue tops fields t p → IsTrueSomewhere tops fields t p
somewhere tops fields t p reduced r = (r.0, r.1, r.2, sym (read_is_value tops t r.0 reduced r.1) ∙ r.3)

from_somewhere : (tops : List ℕ) (fields : ℕ) (t : Plain Bool) (p : List ℕ) → IsReduced tops t → IsTrueSomewhere tops fields t p → ReadsTrue tops fields t p
from_somewhere tops fields t p reduced r = (r.0, r.1, r.2, read_is_value tops t r.0 reduced r.1 ∙ r.3)

pub told_value : (tops : List ℕ) (fields : ℕ) (t : Plain Bool) (p : List ℕ) (n : ℕ) (o : Option Bool) → IsReduced tops t → Tells tops fields t p n → o ≡ slice_get (false ∷ true ∷ []) (get_or (0 ∷ 1 ∷ []) n 0)
    → (b : Bool) × (o ≡ Some b) × (IsTrue b ↔ IsTrueSomewhere tops fields t p)
told_value tops fields t p n o reduced (inl h) e = (true, e ∙ ap (λ m. slice_get (false ∷ true ∷ []) (get_or (0 ∷ 1 ∷ []) m 0)) h.0, (λ y. somewhere tops fields t p reduced h.1, λ r. refl))
told_value tops fields t p n o reduced (inr h) e = (false, e ∙ ap (λ m. slice_get (false ∷ true ∷ []) (get_or (0 ∷ 1 ∷ []) m 0)) h.0, (λ y. absurd (false≢true y), λ r. absurd (h.1 (from_somewhere tops fields t p reduced r))))

pub any_step : (old mid new : List Cell) (at : List ℕ) (kids : List Kid) (i : ℕ) (d : Kid) (any cell m all : ℕ) (p : List ℕ) → Extends old mid → All (λ c. c < length old) at → 0 < length old → i < length kids → d ≡ get_or kids i d → cell ≡ get_or at d.node 0
    → held_at new m p ≡ over_leaf (held_at mid any p) (held_at mid cell p) → any_of (λ n. held_at old (get_or at n 0) p) (held_at mid any p) (drop i kids) ≡ all → any_of (λ n. held_at old (get_or at n 0) p) (held_at new m p) (drop (i + 1) kids) ≡ all
any_step old mid new at kids i d any cell m all p e below some lt is named merged h =
    let v : ℕ → ℕ = λ n. held_at old (get_or at n 0) p in
    let here : held_at mid cell p ≡ v d.node = ap (λ c. held_at mid c p) named ∙ held-extends old mid (get_or at d.node 0) p e (at_below at d.node (length old) below some) in
    any-next v (held_at mid any p) (held_at new m p) d (drop (i + 1) kids) all (merged ∙ ap (λ z. over_leaf (held_at mid any p) z) here)
    (ap (λ k. any_of v (held_at mid any p) (k ∷ drop (i + 1) kids)) is ∙ ap (λ ks. any_of v (held_at mid any p) ks) (sym (drop_more kids i d lt)) ∙ h)
