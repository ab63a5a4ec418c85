-- Hulls that grow, and the points that they have.
use Rattle.std.proofs.Common.{◌≡◌, ◌≢◌, ℕ, zero, suc, ◌+◌, ◌<◌, ◌≤◌, Bool, true, false, cond, ◌&&◌, nat_lt, nat_le, Some, List, [], ◌∷◌, ◌++◌, length, map, get_or, set, take, slice_get, inl, inr, ◌⊎◌, refl, sym, ◌∙◌, ap, subst, arith}
use Rattle.std.proofs.lemmas.Bool.{cases_Bool, cases_lt, false≢true, and_from, leb-true}
use Rattle.std.proofs.lemmas.Grind.{get_or-set_at}
use Rattle.std.proofs.lemmas.List.{get_or-set_same, get_or-set_other, length-set, length-append, take_more}
use Rattle.std.proofs.lemmas.Option.{same_Some, slice_get-get_or, slice_get_past, slice_get_within}
use Rattle.std.proofs.Math.ListN.{get_or-append}
use borrow.Author.Tests.{ltb-true}
use Rattle.fws_iv.specs.declared.iv.Iv.{Iv}
use Rattle.fws_iv.specs.Ivs.{has, in_part}
use Rattle.fws_box.specs.Sides.{sides_have, IsWithin}
use Rattle.fws_tree.specs.declared.mark.Mark.{Mark}
use Rattle.fws_tree.specs.Marks.{mark_at, sides_of}
use Rattle.fws_exec.specs.declared.hull.Hull.{Hull}
use Rattle.fws_exec.specs.Hulls.{HasPoint, HullsGrow}
use Rattle.fws_exec.proofs.Listing.{any_more, or_cases}
use Rattle.fws_exec.proofs.Putting.{not_below, same_or_not}

-- each side has the value of its field: the sides have the point
pub have_all : (ss : List (List Iv)) (p : List ℕ) → length p ≡ length ss → ((j : ℕ) → j < length ss → has (get_or ss j []) (get_or p j 0) ≡ true) → sides_have ss p ≡ true
have_all [] p n h = refl
have_all (s ∷ ss) [] n h = absurd (omega arith)
have_all (s ∷ ss) (x ∷ p) n h =
    and_from (has s x) (sides_have ss p) (h zero (omega arith)) (have_all ss p (omega arith) (λ j lt. h (suc j) (omega arith)))

first : (a b : Bool) → (a && b) ≡ true → a ≡ true
first true b h = refl
first false b h = absurd (false≢true h)

second : (a b : Bool) → (a && b) ≡ true → b ≡ true
second true b h = h
second false b h = absurd (false≢true h)

-- sides that have a point have the value of each field
pub have_each : (ss : List (List Iv)) (p : List ℕ) (k : ℕ) → sides_have ss p ≡ true → k < length ss → has (get_or ss k []) (get_or p k 0) ≡ true
have_each [] p k h lt = absurd (omega arith)
have_each (s ∷ ss) [] k h lt = absurd (false≢true h)
have_each (s ∷ ss) (x ∷ p) zero h lt = first (has s x) (sides_have ss p) h
have_each (s ∷ ss) (x ∷ p) (suc k) h lt = have_each ss p k (second (has s x) (sides_have ss p) h) (omega arith)

-- a point within the tops has no value past them
pub within_at : (tops p : List ℕ) (k : ℕ) → IsWithin tops p → k < length tops → get_or p k 0 ≤ get_or tops k 0
within_at [] p k w lt = absurd (omega arith)
within_at (top ∷ tops) [] k w lt = absurd w
within_at (top ∷ tops) (x ∷ p) zero w lt = w.0
within_at (top ∷ tops) (x ∷ p) (suc k) w lt = within_at tops p k w.1 (omega arith)

-- a hull that is put in the place of another one
pub set_here : (hulls : List Hull) (n : ℕ) (h : Hull) → n < length hulls → slice_get (set hulls n h) n ≡ Some h
set_here hulls n h lt =
    let long : length (set hulls n h) ≡ length hulls = length-set hulls n h in
    slice_get-get_or (set hulls n h) n h (omega arith) ∙ ap Some (get_or-set_same hulls n h h lt)

pub set_away : (hulls : List Hull) (n m : ℕ) (h : Hull) → (m ≡ n → ⊥) → slice_get (set hulls n h) m ≡ slice_get hulls m
set_away hulls n m h away =
    let long : length (set hulls n h) ≡ length hulls = length-set hulls n h in
    elim (cases_Bool (nat_lt m (length hulls))) [
      | inl t ↦ (let within : m < length hulls = ltb-true m (length hulls) t in
          slice_get-get_or (set hulls n h) m h (omega arith) ∙ ap Some (get_or-set_other hulls n m h h away) ∙ sym (slice_get-get_or hulls m h within))
      | inr f ↦ (let past : length hulls ≤ m = not_below m (length hulls) f in
          slice_get_past (set hulls n h) m (omega arith) ∙ sym (slice_get_past hulls m past))
    ]

-- a hull with more points in the place of another one
pub set_grows : (hulls : List Hull) (n : ℕ) (h d : Hull) → n < length hulls → ((p : List ℕ) → HasPoint (get_or hulls n d) p → HasPoint h p) → HullsGrow hulls (set hulls n h)
set_grows hulls n h d lt more m p had = elim (same_or_not m n) [
  | inl here ↦ (
    h,
    ap (λ k. slice_get (set hulls n h) k) here ∙ set_here hulls n h lt,
    more p (subst (λ (k : Hull). HasPoint k p) (same_Some had.0 (get_or hulls n d) (sym had.1 ∙ ap (λ k. slice_get hulls k) here ∙ slice_get-get_or hulls n d lt)) had.2),
  )
  | inr away ↦ (had.0, set_away hulls n m h away ∙ had.1, had.2)
]

-- a hull behind the others
pub push_grows : (hulls : List Hull) (h : Hull) → HullsGrow hulls (hulls ++ h ∷ [])
push_grows hulls h m p had =
    let within : m < length hulls = slice_get_within hulls m had.0 had.1 in
    let long : length (hulls ++ h ∷ []) ≡ length hulls + 1 = length-append hulls (h ∷ []) in
    (had.0, slice_get-get_or (hulls ++ h ∷ []) m had.0 (omega arith) ∙ ap Some (get_or-append hulls (h ∷ []) had.0 m within) ∙ sym (slice_get-get_or hulls m had.0 within) ∙ had.1, had.2)

-- one more value of a list that is made value by value
pub more_done : (f : ℕ → ℕ → ℕ) (xs cs bs : List ℕ) (k v : ℕ) → k < length xs → v ≡ f (get_or xs k 0) (get_or bs k 0) → ((j : ℕ) → j < k → get_or xs j 0 ≡ f (get_or cs j 0) (get_or bs j 0)) → ((j : ℕ) → k ≤ j → get_or xs j 0 ≡ get_or cs j 0)
    → (j : ℕ) → j < k + 1 → get_or (set xs k v) j 0 ≡ f (get_or cs j 0) (get_or bs j 0)
more_done f xs cs bs k v lt is done left j below = elim (cases_lt j k) [
  | inl less ↦ get_or-set_other xs k j v 0 (λ e. absurd (omega arith)) ∙ done j less
  | inr more ↦ (
      let here : j ≡ k = omega arith in
      get_or-set_at xs k j v 0 here lt ∙ is ∙ ap (λ m. f (get_or xs m 0) (get_or bs m 0)) (sym here) ∙ ap (λ m. f m (get_or bs j 0)) (left j more))
]

pub more_left : (xs cs : List ℕ) (k v : ℕ) → ((j : ℕ) → k ≤ j → get_or xs j 0 ≡ get_or cs j 0) → (j : ℕ) → k + 1 ≤ j → get_or (set xs k v) j 0 ≡ get_or cs j 0
more_left xs cs k v left j above = get_or-set_other xs k j v 0 (λ e. absurd (omega arith)) ∙ left j (omega arith)

-- one more value for which a fact holds
pub more_holds : (P : ℕ → ℕ → Type 0) (xs : List ℕ) (k v : ℕ) → k < length xs → P k v → ((j : ℕ) → j < k → P j (get_or xs j 0)) → (j : ℕ) → j < k + 1 → P j (get_or (set xs k v) j 0)
more_holds P xs k v lt here done j below = elim (cases_lt j k) [
  | inl less ↦ subst (P j) (sym (get_or-set_other xs k j v 0 (λ e. absurd (omega arith)))) (done j less)
  | inr more ↦ (
      let is : j ≡ k = omega arith in
      subst (P j) (sym (get_or-set_at xs k j v 0 is lt)) (subst (λ m. P m v) (sym is) here))
]

pub more_sets : (P : ℕ → List Iv → Type 0) (xs : List (List Iv)) (k : ℕ) (v : List Iv) → k < length xs → P k v → ((j : ℕ) → j < k → P j (get_or xs j [])) → (j : ℕ) → j < k + 1 → P j (get_or (set xs k v) j [])
more_sets P xs k v lt here done j below = elim (cases_lt j k) [
  | inl less ↦ subst (P j) (sym (get_or-set_other xs k j v [] (λ e. absurd (omega arith)))) (done j less)
  | inr more ↦ (
      let is : j ≡ k = omega arith in
      subst (P j) (sym (get_or-set_at xs k j v [] is lt)) (subst (λ m. P m v) (sym is) here))
]

-- a number of a set with one part more
pub has_more : (X : Type 0) (s : List Iv) (k v : ℕ) (x : Iv) → k < length s → x ≡ get_or s k x → has (take (k + 1) s) v ≡ true → (has (take k s) v ≡ true → X) → (x.lo ≤ v → v ≤ x.hi → X) → X
has_more X s k v x lt is h before here = or_cases X (has (take k s) v) (in_part x v) (sym (any_more (λ y. in_part y v) s k x lt is) ∙ h) before (λ e. here (leb-true x.lo v (first (nat_le x.lo v) (nat_le v x.hi) e)) (leb-true v x.hi (second (nat_le x.lo v) (nat_le v x.hi) e)))

pick : (b : Bool) (l u v : ℕ) (Q : Type 0) → cond b l u ≢ 0 → (u ≢ 0 → (v ≢ 0) ⊎ Q) → (cond b l v ≢ 0) ⊎ Q
pick true l u v Q some more = inl some
pick false l u v Q some more = more some

mark_split : (ms : List Mark) (m : Mark) (p : List ℕ) → mark_at (ms ++ m ∷ []) 0 p ≢ 0 → (mark_at ms 0 p ≢ 0) ⊎ (sides_have (sides_of m) p ≡ true)
mark_split [] m p some = elim (cases_Bool (sides_have (sides_of m) p)) [
  | inl t ↦ inr t
  | inr f ↦ absurd (some (ap (λ b. cond b m.label 0) f))
]
mark_split (n ∷ ms) m p some = pick (sides_have (sides_of n) p) n.label (mark_at (ms ++ m ∷ []) 0 p) (mark_at ms 0 p) (sides_have (sides_of m) p ≡ true) some (λ h. mark_split ms m p h)

-- a point with a label by one mark more
pub mark_more : (marks : List Mark) (k : ℕ) (m : Mark) (p : List ℕ) → k < length marks → m ≡ get_or marks k m → mark_at (take (k + 1) marks) 0 p ≢ 0 → (mark_at (take k marks) 0 p ≢ 0) ⊎ (sides_have (sides_of m) p ≡ true)
mark_more marks k m p lt is h = mark_split (take k marks) m p (subst (λ ms. mark_at ms 0 p ≢ 0) (take_more marks k m lt ∙ ap (λ y. take k marks ++ y ∷ []) (sym is)) h)

-- a point of a hull lies in the sets of its fields' values
pub sets_have : (hull : Hull) (sets : List (List Iv)) (p : List ℕ) → length sets ≡ 12 → ((k v : ℕ) → k < 12 → get_or hull.lo k 0 ≤ v → v ≤ get_or hull.hi k 0 → has (get_or sets k []) v ≡ true) → HasPoint hull p → sides_have sets p ≡ true
sets_have hull sets p long each point = have_all sets p (point.twelve ∙ sym long) (λ j lt. let less : j < 12 = subst (λ n. j < n) long lt in each j (get_or p j 0) less (point.low j less) (point.high j less))

-- and so has a label there
pub sets_marked : (hull : Hull) (sets : List (List Iv)) (mark : Mark) (p : List ℕ) → length sets ≡ 12 → ((k v : ℕ) → k < 12 → get_or hull.lo k 0 ≤ v → v ≤ get_or hull.hi k 0 → has (get_or sets k []) v ≡ true)
    → sides_of mark ≡ sets → mark.label ≡ 1 → HasPoint hull p → mark_at (mark ∷ []) 0 p ≡ 1
sets_marked hull sets mark p long each is label point =
    ap (λ b. cond b mark.label 0) (ap (λ ss. sides_have ss p) is ∙ sets_have hull sets p long each point) ∙ label

-- within a list the default is of no account
pub default : {X : Type 0} (xs : List X) (k : ℕ) (d e : X) → k < length xs → get_or xs k d ≡ get_or xs k e
default [] k d e lt = absurd (omega arith)
default (x ∷ xs) zero d e lt = refl
default (x ∷ xs) (suc k) d e lt = default xs k d e (omega arith)

-- the sets of a mark, one by one
pub side_at : {X : Type 0} (f : X → List Iv) (xs : List X) (k : ℕ) (d : X) → k < length xs → get_or (map f xs) k [] ≡ f (get_or xs k d)
side_at f [] k d lt = absurd (omega arith)
side_at f (x ∷ xs) zero d lt = refl
side_at f (x ∷ xs) (suc k) d lt = side_at f xs k d (omega arith)
