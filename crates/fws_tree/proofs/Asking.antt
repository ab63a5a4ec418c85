-- Runs of steps that stay, and the steps behind them that are asked for.
use Rattle.std.proofs.Common.{◌≡◌, true, cond, ℕ, zero, suc, ◌+◌, ◌-◌, ◌<◌, ◌≤◌, List, [], ◌∷◌, ◌++◌, length, get_or, take, drop, map, nat_le, inl, inr, refl, sym, ◌∙◌, ap, subst, arith, All, ◌⊎◌, Option, append_assoc, slice_get}
use Rattle.std.specs.Prelude.{slice_range}
use Rattle.std.specs.List.{flat_map}
use Rattle.std.proofs.lemmas.Bool.{cases_Bool, le-leb, leb-true}
use Rattle.std.proofs.lemmas.Grind.{flat_map-append}
use Rattle.std.proofs.lemmas.List.{append-nil, take_all, take_more, take-append-drop, drop_more, get_or-drop, length-drop, map-append}
use Rattle.std.proofs.lemmas.Option.{slice_get-get_or}
use Rattle.std.proofs.lemmas.List.Concat.{flat_map-cons}
use Rattle.std.proofs.lemmas.List.Elements.{All-append, All-drop, All-push, All-take}
use Rattle.fws_tree.specs.declared.narrow.Part.{Part}
use Rattle.fws_tree.specs.declared.store.Step.{Step}
use Rattle.fws_tree.specs.declared.together.Both.{Both}
use Rattle.fws_tree.specs.declared.store.Cell.{Cell}
use Rattle.fws_tree.specs.declared.store.Cell.TheVariants.{Leaf}
use Rattle.fws_tree.specs.Building.{Extends}
use Rattle.fws_tree.specs.Held.{child_at, held_at, pick}
use Rattle.fws_tree.specs.Merged.{left_at, right_at}
use Rattle.fws_tree.specs.Parts.{Stays, own_steps, both_with, part_steps, all_steps, IsPart, IsPartOf, AreParted}
use Rattle.fws_tree.proofs.LeafNumbers.{slice_get-extends}
use Rattle.fws_tree.proofs.Steps.{meet_held}

left_at-append : (bs cs : List Both) (z x : ℕ) → left_at (bs ++ cs) z x ≡ left_at bs (left_at cs z x) x
left_at-append [] cs z x = refl
left_at-append (b ∷ bs) cs z x = ap (λ r. cond (nat_le x b.hi) b.left r) (left_at-append bs cs z x)

right_at-append : (bs cs : List Both) (z x : ℕ) → right_at (bs ++ cs) z x ≡ right_at bs (right_at cs z x) x
right_at-append [] cs z x = refl
right_at-append (b ∷ bs) cs z x = ap (λ r. cond (nat_le x b.hi) b.right r) (right_at-append bs cs z x)

child_at-append : (ss ts : List Step) (z x : ℕ) → child_at (ss ++ ts) z x ≡ child_at ss (child_at ts z x) x
child_at-append [] ts z x = refl
child_at-append (s ∷ ss) ts z x = ap (λ r. cond (nat_le x s.hi) s.node r) (child_at-append ss ts z x)

left_with : (r : ℕ) (ss : List Step) (z x : ℕ) → left_at (map (both_with r) ss) z x ≡ child_at ss z x
left_with r [] z x = refl
left_with r (s ∷ ss) z x = ap (λ k. cond (nat_le x s.hi) s.node k) (left_with r ss z x)

right_same : (r : ℕ) (ss : List Step) (x : ℕ) → right_at (map (both_with r) ss) r x ≡ r
right_same r [] x = refl
right_same r (s ∷ ss) x = elim (cases_Bool (nat_le x s.hi)) [
  | inl t ↦ rw t refl
  | inr f ↦ rw f (right_same r ss x)
]

right_within : (r hi : ℕ) (ss : List Step) (z x : ℕ) → All (λ s. s.hi < hi) ss → right_at (map (both_with r) ss) (cond (nat_le x hi) r z) x ≡ cond (nat_le x hi) r z
right_within r hi [] z x all = refl
right_within r hi (s ∷ ss) z x all = elim (cases_Bool (nat_le x s.hi)) [
  | inl t ↦ (
      let l : x ≤ s.hi = leb-true x s.hi t in
      let g : s.hi < hi = all 0 s (omega arith) in
      let h : nat_le x hi ≡ true = le-leb x hi (omega arith) in
      rw (t, h) refl)
  | inr f ↦ rw f (right_within r hi ss z x (λ k d lt. all (suc k) d (omega arith)))
]

-- A stretch of a list.

pub slice_none : {X : Type 0} (xs : List X) (n : ℕ) → slice_range xs n n ≡ []
slice_none xs n = let e : n - n ≡ 0 = omega arith in ap (λ k. take k (drop n xs)) e

pub slice_more : {X : Type 0} (xs : List X) (from to : ℕ) (d : X) → from ≤ to → to < length xs → slice_range xs from (to + 1) ≡ slice_range xs from to ++ get_or xs to d ∷ []
slice_more xs from to d le lt =
    let e : to + 1 - from ≡ (to - from) + 1 = omega arith in
    let l : to - from < length (drop from xs) = omega (arith, length-drop from xs) in
    let a : from + (to - from) ≡ to = omega arith in
    ap (λ k. take k (drop from xs)) e ∙ take_more (drop from xs) (to - from) d l ∙ ap (λ x. slice_range xs from to ++ x ∷ []) (get_or-drop from xs (to - from) d ∙ ap (λ k. get_or xs k d) a)

pub slice_end : {X : Type 0} (xs : List X) (from : ℕ) → slice_range xs from (length xs) ≡ drop from xs
slice_end xs from = take_all (length xs - from) (drop from xs) (omega (arith, length-drop from xs))

pub slice_below : (n : ℕ) (xs : List Step) (from to : ℕ) → All (λ s. s.node < n) xs → All (λ s. s.node < n) (slice_range xs from to)
slice_below n xs from to all = All-take (λ s. s.node < n) (to - from) (drop from xs) (All-drop (λ s. s.node < n) from xs all)

drop_empty : {X : Type 0} (m : ℕ) → drop {A = X} m [] ≡ []
drop_empty zero = refl
drop_empty (suc m) = refl

drop_both : {X : Type 0} (n m : ℕ) (xs : List X) → drop m (drop n xs) ≡ drop (n + m) xs
drop_both zero m xs = ap (λ k. drop k xs) (let e : m ≡ 0 + m = omega arith in e)
drop_both (suc n) m [] = drop_empty m ∙ sym (drop_empty (suc n + m))
drop_both (suc n) m (x ∷ xs) = drop_both n m xs ∙ ap (λ k. drop k (x ∷ xs)) (let e : suc (n + m) ≡ suc n + m = omega arith in e)

slice_drop : {X : Type 0} (xs : List X) (from to : ℕ) → from ≤ to → slice_range xs from to ++ drop to xs ≡ drop from xs
slice_drop xs from to le =
    let a : from + (to - from) ≡ to = omega arith in
    ap (λ ys. slice_range xs from to ++ ys) (sym (drop_both from (to - from) xs ∙ ap (λ k. drop k xs) a)) ∙ take-append-drop (to - from) (drop from xs)

-- The steps of parts.

pub parts_push : (xs : List Step) (ps : List Part) (p : Part) → flat_map (part_steps xs) (ps ++ p ∷ []) ≡ flat_map (part_steps xs) ps ++ part_steps xs p
parts_push xs ps p = flat_map-append (part_steps xs) ps (p ∷ []) ∙ ap (λ bs. flat_map (part_steps xs) ps ++ bs) (flat_map-cons (part_steps xs) p [] ∙ append-nil (part_steps xs p))

-- a part of a run and the step behind it has the steps of the longer run
pub ask_pushed : (xs : List Step) (ps qs : List Part) (begin at right : ℕ) (d : Step) → begin ≤ at → at < length xs
    → qs ≡ ps ++ record { from = begin; to = at; hi = (get_or xs at d).hi; left = (get_or xs at d).node; right = right } ∷ []
    → flat_map (part_steps xs) qs ++ map (both_with right) (slice_range xs (at + 1) (at + 1)) ≡ flat_map (part_steps xs) ps ++ map (both_with right) (slice_range xs begin (at + 1))
ask_pushed xs ps qs begin at right d le lt e =
    let p : Part = record { from = begin; to = at; hi = (get_or xs at d).hi; left = (get_or xs at d).node; right = right } in
    let flat : List Part → List Both = λ rs. flat_map (part_steps xs) rs in
    ap (λ rs. flat rs ++ map (both_with right) (slice_range xs (at + 1) (at + 1))) e
    ∙ ap (λ ss. flat (ps ++ p ∷ []) ++ map (both_with right) ss) (slice_none xs (at + 1))
    ∙ append-nil (flat (ps ++ p ∷ [])) ∙ parts_push xs ps p
    ∙ ap (λ bs. flat ps ++ bs) (sym (map-append (both_with right) (slice_range xs begin at) (get_or xs at d ∷ [])) ∙ ap (map (both_with right)) (sym (slice_more xs begin at d le lt)))

-- one step more of a list of steps over both cells that is known up to a place
pub ask_more : (xs : List Step) (ps qs rs : List Part) (from begin b at right : ℕ) (d : Step) → from ≤ at → begin ≤ at → at < length xs
    → flat_map (part_steps xs) qs ++ map (both_with right) (slice_range xs begin at) ≡ flat_map (part_steps xs) ps ++ map (both_with right) (slice_range xs from at)
    → flat_map (part_steps xs) rs ++ map (both_with right) (slice_range xs b (at + 1)) ≡ flat_map (part_steps xs) qs ++ map (both_with right) (slice_range xs begin (at + 1))
    → flat_map (part_steps xs) rs ++ map (both_with right) (slice_range xs b (at + 1)) ≡ flat_map (part_steps xs) ps ++ map (both_with right) (slice_range xs from (at + 1))
ask_more xs ps qs rs from begin b at right d lf lb lt e f =
    let more : (k : ℕ) → k ≤ at → (bs : List Both) → bs ++ map (both_with right) (slice_range xs k (at + 1)) ≡ (bs ++ map (both_with right) (slice_range xs k at)) ++ both_with right (get_or xs at d) ∷ [] =
    λ k le bs. ap (λ ss. bs ++ map (both_with right) ss) (slice_more xs k at d le lt) ∙ ap (λ cs. bs ++ cs) (map-append (both_with right) (slice_range xs k at) (get_or xs at d ∷ [])) ∙ sym (append_assoc bs (map (both_with right) (slice_range xs k at)) (both_with right (get_or xs at d) ∷ [])) in
    f ∙ more begin lb (flat_map (part_steps xs) qs) ∙ ap (λ bs. bs ++ both_with right (get_or xs at d) ∷ []) e ∙ sym (more from lf (flat_map (part_steps xs) ps))

-- the steps of a range: a run of the first cell, and a step that ends with the range
range_steps : (xs : List Step) (ps qs rs : List Part) (begin from to hi node right : ℕ)
    → flat_map (part_steps xs) qs ++ map (both_with right) (slice_range xs begin to) ≡ flat_map (part_steps xs) ps ++ map (both_with right) (slice_range xs from to)
    → rs ≡ qs ++ record { from = begin; to = to; hi = hi; left = node; right = right } ∷ []
    → flat_map (part_steps xs) rs ≡ flat_map (part_steps xs) ps ++ (map (both_with right) (slice_range xs from to) ++ record { hi = hi; left = node; right = right } ∷ [])
range_steps xs ps qs rs begin from to hi node right e pushed =
    let p : Part = record { from = begin; to = to; hi = hi; left = node; right = right } in
    let b : Both = record { hi = hi; left = node; right = right } in
    ap (λ (zs : List Part). flat_map (part_steps xs) zs) pushed ∙ parts_push xs qs p
    ∙ sym (append_assoc (flat_map (part_steps xs) qs) (map (both_with right) (slice_range xs begin to)) (b ∷ []))
    ∙ ap (λ bs. bs ++ b ∷ []) e
    ∙ append_assoc (flat_map (part_steps xs) ps) (map (both_with right) (slice_range xs from to)) (b ∷ [])

pub range_left : (xs : List Step) (ps qs rs : List Part) (begin from to next last hi node right : ℕ) → from ≤ to
    → ((x : ℕ) → child_at (drop to xs) last x ≡ cond (nat_le x hi) node (child_at (drop next xs) last x))
    → flat_map (part_steps xs) qs ++ map (both_with right) (slice_range xs begin to) ≡ flat_map (part_steps xs) ps ++ map (both_with right) (slice_range xs from to)
    → rs ≡ qs ++ record { from = begin; to = to; hi = hi; left = node; right = right } ∷ []
    → (x : ℕ) → left_at (flat_map (part_steps xs) rs) (child_at (drop next xs) last x) x ≡ left_at (flat_map (part_steps xs) ps) (child_at (drop from xs) last x) x
range_left xs ps qs rs begin from to next last hi node right le end e pushed x =
    let run : List Step = slice_range xs from to in
    let b : Both = record { hi = hi; left = node; right = right } in
    let z : ℕ = child_at (drop next xs) last x in
    ap (λ bs. left_at bs z x) (range_steps xs ps qs rs begin from to hi node right e pushed)
    ∙ left_at-append (flat_map (part_steps xs) ps) (map (both_with right) run ++ b ∷ []) z x
    ∙ ap (λ k. left_at (flat_map (part_steps xs) ps) k x) (
    left_at-append (map (both_with right) run) (b ∷ []) z x
    ∙ ap (λ k. left_at (map (both_with right) run) k x) (sym (end x))
    ∙ left_with right run (child_at (drop to xs) last x) x
    ∙ sym (child_at-append run (drop to xs) last x)
    ∙ ap (λ ss. child_at ss last x) (slice_drop xs from to le))

pub range_right : (xs : List Step) (ps qs rs : List Part) (begin from to hi node right : ℕ) → All (λ s. s.hi < hi) (slice_range xs from to)
    → flat_map (part_steps xs) qs ++ map (both_with right) (slice_range xs begin to) ≡ flat_map (part_steps xs) ps ++ map (both_with right) (slice_range xs from to)
    → rs ≡ qs ++ record { from = begin; to = to; hi = hi; left = node; right = right } ∷ []
    → (z x : ℕ) → right_at (flat_map (part_steps xs) rs) z x ≡ right_at (flat_map (part_steps xs) ps) (cond (nat_le x hi) right z) x
range_right xs ps qs rs begin from to hi node right all e pushed z x =
    let run : List Step = slice_range xs from to in
    let b : Both = record { hi = hi; left = node; right = right } in
    ap (λ bs. right_at bs z x) (range_steps xs ps qs rs begin from to hi node right e pushed)
    ∙ right_at-append (flat_map (part_steps xs) ps) (map (both_with right) run ++ b ∷ []) z x
    ∙ ap (λ k. right_at (flat_map (part_steps xs) ps) k x) (right_at-append (map (both_with right) run) (b ∷ []) z x ∙ right_within right hi run z x all)

-- one range more of the second cell
pub ranges_right : (ys : List Step) (xs : List Step) (ps qs : List Part) (j : ℕ) (d : Step) → j < length ys
    → ((z x : ℕ) → right_at (flat_map (part_steps xs) ps) (child_at (drop j ys) z x) x ≡ child_at ys z x)
    → ((z x : ℕ) → right_at (flat_map (part_steps xs) qs) z x ≡ right_at (flat_map (part_steps xs) ps) (cond (nat_le x (get_or ys j d).hi) (get_or ys j d).node z) x)
    → (z x : ℕ) → right_at (flat_map (part_steps xs) qs) (child_at (drop (j + 1) ys) z x) x ≡ child_at ys z x
ranges_right ys xs ps qs j d lt old new z x =
    new (child_at (drop (j + 1) ys) z x) x ∙ ap (λ k. right_at (flat_map (part_steps xs) ps) k x) (sym (ap (λ ss. child_at ss z x) (drop_more ys j d lt))) ∙ old z x

-- the steps of all parts and of the last run
pub whole_left : (xs : List Step) (ps qs : List Part) (begin from last right : ℕ)
    → flat_map (part_steps xs) qs ++ map (both_with right) (slice_range xs begin (length xs)) ≡ flat_map (part_steps xs) ps ++ map (both_with right) (slice_range xs from (length xs))
    → ((x : ℕ) → left_at (flat_map (part_steps xs) ps) (child_at (drop from xs) last x) x ≡ child_at xs last x)
    → (x : ℕ) → left_at (flat_map (part_steps xs) qs ++ map (both_with right) (slice_range xs begin (length xs))) last x ≡ child_at xs last x
whole_left xs ps qs begin from last right e left x =
    ap (λ bs. left_at bs last x) (e ∙ ap (λ ss. flat_map (part_steps xs) ps ++ map (both_with right) ss) (slice_end xs from))
    ∙ left_at-append (flat_map (part_steps xs) ps) (map (both_with right) (drop from xs)) last x
    ∙ ap (λ k. left_at (flat_map (part_steps xs) ps) k x) (left_with right (drop from xs) last x) ∙ left x

pub whole_right : (xs ys : List Step) (ps qs : List Part) (begin from right : ℕ)
    → flat_map (part_steps xs) qs ++ map (both_with right) (slice_range xs begin (length xs)) ≡ flat_map (part_steps xs) ps ++ map (both_with right) (slice_range xs from (length xs))
    → ((z x : ℕ) → right_at (flat_map (part_steps xs) ps) z x ≡ child_at ys z x)
    → (x : ℕ) → right_at (flat_map (part_steps xs) qs ++ map (both_with right) (slice_range xs begin (length xs))) right x ≡ child_at ys right x
whole_right xs ys ps qs begin from right e other x =
    ap (λ bs. right_at bs right x) e
    ∙ right_at-append (flat_map (part_steps xs) ps) (map (both_with right) (slice_range xs from (length xs))) right x
    ∙ ap (λ k. right_at (flat_map (part_steps xs) ps) k x) (right_same right (slice_range xs from (length xs)) x) ∙ other right x

-- A run behind other steps.

pick-append : (v : ℕ → ℕ) (ss ts : List Step) (z x : ℕ) → pick v (ss ++ ts) z x ≡ pick v ss (pick v ts z x) x
pick-append v [] ts z x = refl
pick-append v (s ∷ ss) ts z x = ap (λ r. cond (nat_le x s.hi) (v s.node) r) (pick-append v ss ts z x)

first_rest : {X : Type 0} (xs : List X) (d : X) → 0 < length xs → xs ≡ get_or xs 0 d ∷ slice_range xs 1 (length xs)
first_rest xs d lt = drop_more xs 0 d lt ∙ ap (λ ys. get_or xs 0 d ∷ ys) (sym (slice_end xs 1))

pub run_pick : (v : ℕ → ℕ) (ss mid ts run : List Step) (d : Step) (z x : ℕ) → 0 < length run
    → ((w : ℕ → ℕ) (y u : ℕ) → pick w mid y u ≡ pick w (ss ++ get_or run 0 d ∷ []) y u) → ts ≡ mid ++ slice_range run 1 (length run) → pick v ts z x ≡ pick v (ss ++ run) z x
run_pick v ss mid ts run d z x lt same e =
    let rest : List Step = slice_range run 1 (length run) in
    ap (λ us. pick v us z x) e ∙ pick-append v mid rest z x ∙ same v (pick v rest z x) x ∙ sym (pick-append v (ss ++ get_or run 0 d ∷ []) rest z x)
    ∙ ap (λ us. pick v us z x) (append_assoc ss (get_or run 0 d ∷ []) rest ∙ ap (λ us. ss ++ us) (sym (first_rest run d lt)))

pub run_below : (mid ts run : List Step) (n : ℕ) → All (λ s. s.node < n) mid → All (λ s. s.node < n) run → ts ≡ mid ++ slice_range run 1 (length run) → All (λ s. s.node < n) ts
run_below mid ts run n below all e =
    subst (λ us. All (λ s. s.node < n) us) (sym e) (All-append (λ s. s.node < n) mid (slice_range run 1 (length run)) below (slice_below n run 1 (length run) all))

-- Parts over two cells.

pub part_push : (masks : List ℕ) (wanted : ℕ) (stay : Option ℕ) (xs : List Step) (n m : ℕ) (ps qs : List Part) (p : Part) → qs ≡ ps ++ p ∷ []
    → All (λ p. IsPart masks wanted stay xs n m p) ps → IsPart masks wanted stay xs n m p → All (λ p. IsPart masks wanted stay xs n m p) qs
part_push masks wanted stay xs n m ps qs p e all last = subst (λ rs. All (λ p. IsPart masks wanted stay xs n m p) rs) (sym e) (All-push (λ p. IsPart masks wanted stay xs n m p) ps p all last)

parts_below : (masks : List ℕ) (wanted : ℕ) (stay : Option ℕ) (cs : List Cell) (xs : List Step) (ps : List Part) (a b n m : ℕ) → a < length cs → b < length cs → n ≤ a + 1 → m ≤ b + 1 → n + m ≤ a + b + 1
    → All (λ p. IsPart masks wanted stay xs n m p) ps → All (λ p. IsPartOf cs masks wanted stay a b xs p) ps
parts_below masks wanted stay cs xs ps a b n m la lb ln lm ls all i d lt =
    let p = all i d lt in
    let l = p.below.0 in let r = p.below.1 in
    record { order = p.order; run = p.run; below = (omega arith, omega arith, omega arith) }

pub are_parted : (cs : List Cell) (masks : List ℕ) (wanted : ℕ) (stay : Option ℕ) (a b f l r from : ℕ) (own xs ys : List Step) (ps : List Part) → xs ≡ own
    → ((p : List ℕ) → held_at cs a p ≡ held_at cs (child_at xs l (get_or p f 0)) p) → ((p : List ℕ) → held_at cs b p ≡ held_at cs (child_at ys r (get_or p f 0)) p)
    → ((x : ℕ) → left_at (all_steps xs ps from (length xs) r) l x ≡ child_at xs l x) → ((x : ℕ) → right_at (all_steps xs ps from (length xs) r) r x ≡ child_at ys r x)
    → from ≤ length xs → All (λ s. Stays masks wanted stay s.node r) (slice_range xs from (length xs))
    → ((n m : ℕ) → All (λ s. s.node < n) xs → l < n → All (λ s. s.node < m) ys → r < m → All (λ p. IsPart masks wanted stay xs n m p) ps)
    → a < length cs → b < length cs → All (λ s. s.node < a + 1) xs → l < a + 1 → All (λ s. s.node < b + 1) ys → r < b + 1
    → (All (λ s. s.node < a) xs × (l < a)) ⊎ (All (λ s. s.node < b) ys × (r < b)) → AreParted cs masks wanted stay a b f own ps from (length xs) l r
are_parted cs masks wanted stay a b f l r from own xs ys ps e hl hr left right le run parts la lb ax al ay ar strict =
    let each : All (λ p. IsPartOf cs masks wanted stay a b xs p) ps × (l + r < a + b) = elim strict [
      | inl s ↦ (let t = s.1 in parts_below masks wanted stay cs xs ps a b a (b + 1) la lb (omega arith) (omega arith) (omega arith) (parts a (b + 1) s.0 s.1 ay ar), omega arith)
      | inr s ↦ (let t = s.1 in parts_below masks wanted stay cs xs ps a b (a + 1) b la lb (omega arith) (omega arith) (omega arith) (parts (a + 1) b ax al s.0 s.1), omega arith)
    ] in
    subst (λ ss. AreParted cs masks wanted stay a b f ss ps from (length xs) l r) e (record {
      held_left = λ p. meet_held cs a _ _ p (hl p) (left (get_or p f 0));
      held_right = λ p. meet_held cs b _ _ p (hr p) (right (get_or p f 0));
      nodes = λ k d lt. let n = ax k d lt in omega arith;
      each = each.0;
      order = (le, omega arith);
      run = run;
      last = (omega arith, omega arith, each.1);
    })

-- the steps of a cell stay when cells are added behind
pub own_same : (old new : List Cell) (a f : ℕ) → Extends old new → a < length old → own_steps f (slice_get new a) ≡ own_steps f (slice_get old a)
own_same old new a f e lt =
    let is = slice_get-get_or old a (Leaf 0) lt in
    ap (own_steps f) (slice_get-extends old new a _ e is ∙ sym is)
