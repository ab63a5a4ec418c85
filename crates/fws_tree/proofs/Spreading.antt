-- Where a value is spread.
use Rattle.std.proofs.Common.{◌≡◌, ◌≢◌, true, false, ℕ, ◌+◌, ◌<◌, ◌≤◌, List, [], ◌∷◌, ◌++◌, length, get_or, drop, take, nat_le, nat_eq, inl, inr, sym, ◌∙◌, ap, subst, arith, All, bit_and, ◌⊎◌, min}
use Rattle.std.proofs.lemmas.Bool.{false≢true, cases_Bool, cond-true, cond-false, leb-true, leb-false, eqb-true, eq-eqb}
use Rattle.std.proofs.lemmas.Nat.Bits.{bit_at_and, same_from_bits}
use Rattle.std.proofs.lemmas.List.{drop_more, drop_all, take_more, take_all}
use Rattle.std.proofs.lemmas.List.Elements.{All-push}
use Rattle.std.specs.HashSet.{HashSet, contains, Updates}
use Rattle.std.specs.Int.{bit_at}
use Rattle.fws_iv.specs.declared.iv.Iv.{Iv}
use Rattle.fws_iv.specs.Ivs.{has}
use Rattle.fws_tree.specs.declared.canvas.Canvas.{Canvas}
use Rattle.fws_tree.specs.declared.store.Step.{Step}
use Rattle.fws_tree.specs.Bits.{bits_in}
use Rattle.fws_tree.specs.Held.{child_at, held_at}
use Rattle.fws_tree.specs.Spread.{IsHeldAt, Lacks, AreLacking, HasSpread, AreDone, Grows}
use Rattle.fws_tree.proofs.Cells.{child_has}
use Rattle.fws_tree.proofs.Marking.{within_at}
use Rattle.fws_tree.proofs.Ranges.{still_has}

min_same : (n : ℕ) → min n n ≡ n
min_same n = omega arith

bit_and-same : (n : ℕ) → bit_and n n ≡ n
bit_and-same n = same_from_bits (bit_and n n) n (λ i. bit_at_and n n i ∙ min_same (bit_at n i))

-- a mask without a bit of the value's tells that the cell lacks it
pub masked : (c : Canvas) (at value bits mask : ℕ) → bits ≡ bits_in c.values value → bits ≢ 0 → mask ≡ get_or c.masks.items at 0 → at < length c.masks.items → bit_and mask bits ≡ 0 → Lacks c value at
masked c at value bits mask is some e lt none p here =
    let covers = c.masked at lt in
    let apart : bit_and (bits_in c.values (held_at c.store at p)) bits ≡ 0 = covers.1 p bits (ap (λ n. bit_and n bits) (sym e) ∙ none) in
    some (sym (bit_and-same bits) ∙ sym (ap (λ n. bit_and n bits) (ap (bits_in c.values) here ∙ sym is)) ∙ apart)

-- a leaf of another value lacks this one
pub lacks_leaf : (c : Canvas) (at value held : ℕ) → ((p : List ℕ) → held_at c.store at p ≡ held) → nat_eq held value ≡ false → Lacks c value at
lacks_leaf c at value held is other p here = false≢true (sym other ∙ eq-eqb held value (sym (is p) ∙ here))

-- a cell lacks the value if all do to which its steps lead
pub lacks_cut : (c : Canvas) (value at cut last : ℕ) (ss : List Step) → ((p : List ℕ) → held_at c.store at p ≡ held_at c.store (child_at ss last (get_or p cut 0)) p)
    → All (λ s. Lacks c value s.node) ss → Lacks c value last → Lacks c value at
lacks_cut c value at cut last ss held all lasts p here =
    child_has (λ n. Lacks c value n) ss last (get_or p cut 0) all lasts p (sym (held p) ∙ here)

pub lacks_all : (c : Canvas) (value i : ℕ) (ss : List Step) → length ss ≤ i → All (λ s. Lacks c value s.node) (take i ss) → All (λ s. Lacks c value s.node) ss
lacks_all c value i ss le all = subst (λ (xs : List Step). All (λ s. Lacks c value s.node) xs) (take_all i ss le) all

pub lacking-more : {S : Type 0} (c : Canvas) (value at : ℕ) (cells more : HashSet ℕ S) → AreLacking c value cells → Updates nat_eq cells more at true → Lacks c value at → AreLacking c value more
lacking-more c value at cells more h u here k is = elim (cases_Bool (nat_eq at k)) [
  | inl t ↦ subst (λ n. Lacks c value n) (eqb-true at k t) here
  | inr f ↦ h k (sym (cond-false (nat_eq at k) true (contains nat_eq cells k) f) ∙ sym (u.0 k) ∙ is)
]

pub grows-same : (s : List Iv) → Grows s s
grows-same s x h = h

pub grows-then : (s t u : List Iv) → Grows s t → Grows t u → Grows s u
grows-then s t u a b x h = b x (a x h)

pub grows-push : (s : List Iv) (y : Iv) → Grows s (s ++ y ∷ [])
grows-push s y x h = still_has s y x h

pub spread-grows : (c : Canvas) (field value at : ℕ) (s t : List Iv) → Grows s t → HasSpread c field value at s → HasSpread c field value at t
spread-grows c field value at s t g h p w some = g (get_or p field 0) (h p w some)

pub done-grows : {S : Type 0} (c : Canvas) (field value : ℕ) (done : HashSet ℕ S) (s t : List Iv) → Grows s t → AreDone c field value done s → AreDone c field value done t
done-grows c field value done s t g h at is = spread-grows c field value at s t g (h at is)

pub done-more : {S : Type 0} (c : Canvas) (field value at : ℕ) (done more : HashSet ℕ S) (s : List Iv) → AreDone c field value done s → Updates nat_eq done more at true → HasSpread c field value at s → AreDone c field value more s
done-more c field value at done more s h u here k is = elim (cases_Bool (nat_eq at k)) [
  | inl t ↦ subst (λ n. HasSpread c field value n s) (eqb-true at k t) here
  | inr f ↦ h k (sym (cond-false (nat_eq at k) true (contains nat_eq done k) f) ∙ sym (u.0 k) ∙ is)
]

-- a cell by those that its steps lead to
pub spread_cut : (c : Canvas) (field value at cut last : ℕ) (ss : List Step) (s : List Iv) → ((p : List ℕ) → held_at c.store at p ≡ held_at c.store (child_at ss last (get_or p cut 0)) p)
    → All (λ t. HasSpread c field value t.node s) ss → HasSpread c field value last s → HasSpread c field value at s
spread_cut c field value at cut last ss s held all lasts p w some =
    child_has (λ n. HasSpread c field value n s) ss last (get_or p cut 0) all lasts p w ((sym (held p) ∙ some))

-- a cell that cuts the field itself
pub spread_steps : (c : Canvas) (field value at last top : ℕ) (ss : List Step) (s : List Iv) → field < 12 → top ≡ get_or c.tops field 0 → ((p : List ℕ) → held_at c.store at p ≡ held_at c.store (child_at ss last (get_or p field 0)) p)
    → ((x : ℕ) (p : List ℕ) → x ≤ top → IsHeldAt c value (child_at ss last x) p → has s x ≡ true) → HasSpread c field value at s
spread_steps c field value at last top ss s lt e held has_all p w some =
    let twelve = c.twelve in
    let le = within_at c.tops p field w (omega arith) in
    has_all (get_or p field 0) p (omega arith) ((sym (held p) ∙ some))

-- the whole range
pub spread_whole : (c : Canvas) (field value at top : ℕ) (s : List Iv) → field < 12 → top ≡ get_or c.tops field 0
    → ((x : ℕ) (p : List ℕ) → 0 ≤ x → x ≤ top → IsHeldAt c value at p → has s x ≡ true) → HasSpread c field value at s
spread_whole c field value at top s lt e has_all p w some =
    let twelve = c.twelve in
    let le = within_at c.tops p field w (omega arith) in
    has_all (get_or p field 0) p (omega arith) (omega arith) some

pub spread_none : (c : Canvas) (field value at : ℕ) (s : List Iv) → ((p : List ℕ) → IsHeldAt c value at p → ⊥) → HasSpread c field value at s
spread_none c field value at s none p w some = absurd (none p some)

pub spread_more : (c : Canvas) (field value i : ℕ) (d : Step) (ss : List Step) (s t : List Iv) → i < length ss → Grows s t → All (λ r. HasSpread c field value r.node s) (take i ss)
    → HasSpread c field value (get_or ss i d).node t → All (λ r. HasSpread c field value r.node t) (take (i + 1) ss)
spread_more c field value i d ss s t lt g all here = subst (λ xs. All (λ r. HasSpread c field value r.node t) xs) (sym (take_more ss i d lt))
    (All-push (λ r. HasSpread c field value r.node t) (take i ss) (get_or ss i d) (λ k e l. spread-grows c field value (get_or (take i ss) k e).node s t g (all k e l)) here)

pub spread_all : (c : Canvas) (field value i : ℕ) (ss : List Step) (s t : List Iv) → length ss ≤ i → Grows s t → All (λ r. HasSpread c field value r.node s) (take i ss) → All (λ r. HasSpread c field value r.node t) ss
spread_all c field value i ss s t le g all k e l =
    spread-grows c field value (get_or ss k e).node s t g (subst (λ (xs : List Step). All (λ r. HasSpread c field value r.node s) xs) (take_all i ss le) all k e l)

-- what is had of the values so far: they are in the set, or lie past the steps that were walked
abbrev pub IsWalked : Canvas → ℕ → ℕ → List Step → List Step → ℕ → ℕ → List Iv → Type 0
IsWalked c value top ss left last lo s = (x : ℕ) (p : List ℕ) → x ≤ top → IsHeldAt c value (child_at ss last x) p → (has s x ≡ true) ⊎ ((lo ≤ x) × IsHeldAt c value (child_at left last x) p)

pub walked-more : (c : Canvas) (value top i last lo next : ℕ) (d : Step) (ss : List Step) (s t : List Iv) → i < length ss → Grows s t → next ≤ (get_or ss i d).hi + 1
    → ((x : ℕ) (p : List ℕ) → lo ≤ x → x ≤ min (get_or ss i d).hi top → IsHeldAt c value (get_or ss i d).node p → has t x ≡ true)
    → IsWalked c value top ss (drop i ss) last lo s → IsWalked c value top ss (drop (i + 1) ss) last next t
walked-more c value top i last lo next d ss s t lt g n here so_far x p le some = elim (so_far x p le some) [
  | inl h ↦ inl (g x h)
  | inr r ↦ elim (cases_Bool (nat_le x (get_or ss i d).hi)) [
    | inl y ↦ (
        let hi : x ≤ (get_or ss i d).hi = leb-true x (get_or ss i d).hi y in
        let first : child_at (drop i ss) last x ≡ (get_or ss i d).node = ap (λ us. child_at us last x) (drop_more ss i d lt) ∙ cond-true (nat_le x (get_or ss i d).hi) (get_or ss i d).node (child_at (drop (i + 1) ss) last x) y in
        inl (here x p r.0 (omega arith) (subst (λ k. IsHeldAt c value k p) first r.1)))
    | inr f ↦ (
        let past : (get_or ss i d).hi < x = leb-false x (get_or ss i d).hi f in
        let later : child_at (drop i ss) last x ≡ child_at (drop (i + 1) ss) last x = ap (λ us. child_at us last x) (drop_more ss i d lt) ∙ cond-false (nat_le x (get_or ss i d).hi) (get_or ss i d).node (child_at (drop (i + 1) ss) last x) f in
        inr (omega arith, subst (λ k. IsHeldAt c value k p) later r.1))
  ]
]

pub walked-all : (c : Canvas) (value top i last lo : ℕ) (ss : List Step) (s t : List Iv) → length ss ≤ i → Grows s t → ((x : ℕ) (p : List ℕ) → lo ≤ x → x ≤ top → IsHeldAt c value last p → has t x ≡ true)
    → IsWalked c value top ss (drop i ss) last lo s → (x : ℕ) (p : List ℕ) → x ≤ top → IsHeldAt c value (child_at ss last x) p → has t x ≡ true
walked-all c value top i last lo ss s t le g here so_far x p inside some = elim (so_far x p inside some) [
  | inl h ↦ g x h
  | inr r ↦ here x p r.0 inside (subst (λ us. IsHeldAt c value (child_at us last x) p) (drop_all i ss le) r.1)
]
