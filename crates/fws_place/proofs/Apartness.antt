-- Leaves at points that agree in all fields but some.
use Rattle.std.proofs.Common.{◌≡◌, ◌≢◌, ℕ, zero, suc, ◌+◌, ◌-◌, ◌*◌, ◌/◌, ◌%◌, ◌<◌, ◌≤◌, Bool, true, false, ◌&&◌, ◌||◌, not, cond, Option, Some, None, List, [], ◌∷◌, refl, sym, ◌∙◌, ap, subst, arith, length, get_or, position, All}
use Rattle.std.proofs.lemmas.Bool.{and_parts, and_from, both_ways, false_from_ne_true, lt-ltb, not-true, not_from_false}
use Rattle.std.proofs.lemmas.List.Elements.{All-contains}
use Rattle.std.proofs.lemmas.List.Quantifiers.{position-Some}
use Rattle.std.proofs.lemmas.Map.Views.{list_any-from_Contains}
use Rattle.std.proofs.lemmas.Option.{get_or_from_slice_get, slice_get_within}
use Rattle.std.proofs.Math.Arith.{mod-mul}
use Rattle.std.proofs.Math.Nat.{mod-eq_of_lt, mod-lt}
use Rattle.std.specs.Prelude.{Contains, nat_eq, slice_get, unwrap_or, if◌then◌else◌, MatchOption}
use Rattle.std.specs.Cmp.{IsEquivalence}
use Rattle.std.specs.List.{list_any, position_or_len}
use Rattle.fws_iv.specs.Ivs.{has}
use Rattle.fws_box.specs.Sides.{IsWithin}
use Rattle.fws_tree.specs.declared.node.Node.{Node}
use Rattle.fws_tree.specs.Nodes.{named_leaf, relabel, relabel_kids, tree_of}
use Rattle.fws_tree.specs.Plain.{Plain, leaf, cut, Kids, none, kid, branch, kid_at, leaf_of, value, value_from}
use Rattle.fws_tree.specs.Shared.{IsShared}
use Rattle.fws_place.specs.Apart.{has_bit, is_marked, place_in, AreAlikeBy, AreApart, AreTrueNear, HasValuesAmong, NoneTrueNear}
use Rattle.fws_place.proofs.Counting.{get_or_any}
use Rattle.fws_place.proofs.NearPoints.{near_back}
use Rattle.fws_place.proofs.Viewing.{some_once}

-- Leaves of a tree

kids_relabelled : {L : Type 0} (leaves : List L) (ks : Kids ℕ) (x : ℕ) → kid_at (relabel_kids leaves ks) x ≡ relabel leaves (kid_at ks x)
kids_relabelled leaves none x = refl
kids_relabelled leaves (kid s t ks) x = by (has s x) (kids_relabelled leaves ks x)
  where
    by : (b : Bool) → kid_at (relabel_kids leaves ks) x ≡ relabel leaves (kid_at ks x) → (if b then relabel leaves t else kid_at (relabel_kids leaves ks) x) ≡ relabel leaves (if b then t else kid_at ks x)
    by true rest = refl
    by false rest = rest

branch_relabelled : {L : Type 0} (leaves : List L) (f : ℕ) (u : Plain ℕ) (x : ℕ) → branch f (relabel leaves u) x ≡ relabel leaves (branch f u x)
branch_relabelled {L} leaves f (leaf n) x = by (slice_get leaves n)
  where
    empty : (b : Bool) → (if b then kid_at {L = L} none x else cut 0 none) ≡ cut 0 none
    empty true = refl
    empty false = refl

    by : (o : Option L) → branch f (named_leaf o) x ≡ named_leaf o
    by None = empty (nat_eq 0 f)
    by (Some a) = refl
branch_relabelled leaves f (cut g ks) x = by (nat_eq g f)
  where
    by : (b : Bool) → (if b then kid_at (relabel_kids leaves ks) x else cut g (relabel_kids leaves ks)) ≡ relabel leaves (if b then kid_at ks x else cut g ks)
    by true = kids_relabelled leaves ks x
    by false = refl

named : {L : Type 0} (leaves : List L) (f : ℕ) (u : Plain ℕ) (p : List ℕ) (a : L) → value_from f (relabel leaves u) p ≡ Some a → Contains leaves a
named {L} leaves f (leaf n) [] a e = by (slice_get leaves n) refl e
  where
    by : (o : Option L) → slice_get leaves n ≡ o → leaf_of (named_leaf o) ≡ Some a → Contains leaves a
    by None at e = absurd (cc)
    by (Some b) at e = (n, slice_get_within leaves n b at, get_or_from_slice_get leaves n b a at ∙ some_once b a e)
named leaves f (cut g ks) [] a e = absurd (cc)
named leaves f u (x ∷ p) a e = named leaves (suc f) (branch f u x) p a (ap (λ t. value_from (suc f) t p) (sym (branch_relabelled leaves f u x)) ∙ e)

-- the values of a tree are among what has its leaves
pub leaves_among : {L : Type 0} (tops : List ℕ) (t : Plain L) (leaves keys : List L) (nodes : List Node) → IsShared tops t leaves nodes → All (Contains keys) leaves → HasValuesAmong t keys
leaves_among tops t leaves keys nodes shared all p a e =
    All-contains (Contains keys) leaves a all (named leaves 0 (tree_of nodes (length nodes - 1)) p a (ap (λ u. value u p) (sym shared.last) ∙ e))

-- and among its own leaves
pub own_leaves : {L : Type 0} (tops : List ℕ) (t : Plain L) (leaves : List L) (nodes : List Node) → IsShared tops t leaves nodes → HasValuesAmong t leaves
own_leaves tops t leaves nodes shared p a e = named leaves 0 (tree_of nodes (length nodes - 1)) p a (ap (λ u. value u p) (sym shared.last) ∙ e)

-- Places

-- the place of a list's item among others that have it
place_below : {L : Type 0} (p : L → Bool) (xs : List L) → list_any p xs ≡ true → position_or_len p xs < length xs
place_below p [] e = absurd (cc)
place_below p (x ∷ xs) e = by (p x) refl e (place_below p xs)
  where
    by : (b : Bool) → p x ≡ b → (b || list_any p xs) ≡ true → (list_any p xs ≡ true → position_or_len p xs < length xs)
        → cond (not (p x)) (1 + position_or_len p xs) 0 < length (x ∷ xs)
    by true here e later = let at : cond (not (p x)) (1 + position_or_len p xs) 0 ≡ 0 = ap (λ b. cond (not b) (1 + position_or_len p xs) 0) here in omega (arith, at)
    by false here e later =
        let at : cond (not (p x)) (1 + position_or_len p xs) 0 ≡ 1 + position_or_len p xs = ap (λ b. cond (not b) (1 + position_or_len p xs) 0) here in
        let below : position_or_len p xs < length xs = later e in
        omega (arith, at, below)

position_is : {L : Type 0} (p : L → Bool) (xs : List L) → list_any p xs ≡ true → position p xs ≡ Some (position_or_len p xs)
position_is p xs e = ap (λ b. cond b (Some (position_or_len p xs)) None) (lt-ltb (position_or_len p xs) (length xs) (place_below p xs e))

-- the leaf stands at its place
pub place_there : {L : Type 0} (eq : L → L → Bool) → IsEquivalence eq → ((x y : L) → eq x y ≡ true → x ≡ y) → (keys : List L) (x : L) → Contains keys x
    → (place_in eq keys x < length keys) × (get_or keys (place_in eq keys x) x ≡ x)
place_there eq laws exact keys x there =
    let at = position_is (eq x) keys (list_any-from_Contains laws x keys there) in
    let found = position-Some (eq x) keys (position_or_len (eq x) keys) x at in
    let place : place_in eq keys x ≡ position_or_len (eq x) keys = ap (λ o. unwrap_or o 0) at in (
      subst (λ k. k < length keys) (sym place) found.0,
      ap (λ k. get_or keys k x) place ∙ sym (exact x (get_or keys (position_or_len (eq x) keys) x) found.1),
    )

-- leaves with one place are equal
pub one_place : {L : Type 0} (eq : L → L → Bool) → IsEquivalence eq → ((x y : L) → eq x y ≡ true → x ≡ y) → (keys : List L) (x y : L) → Contains keys x → Contains keys y
    → place_in eq keys x ≡ place_in eq keys y → x ≡ y
one_place eq laws exact keys x y first second same =
    let a = place_there eq laws exact keys x first in
    let b = place_there eq laws exact keys y second in
    sym a.1 ∙ get_or_any keys (place_in eq keys x) x y a.0 ∙ ap (λ k. get_or keys k y) same ∙ b.1

-- Bits

one_digit : (d e : ℕ) → d < 2 → e < 2 → nat_eq d 1 ≡ nat_eq e 1 → d ≡ e
one_digit zero zero u v h = refl
one_digit zero (suc zero) u v h = absurd (cc)
one_digit (suc zero) zero u v h = absurd (cc)
one_digit (suc zero) (suc zero) u v h = refl
one_digit (suc (suc d)) e u v h = absurd (omega arith)
one_digit d (suc (suc e)) u v h = absurd (omega arith)

-- numbers that agree below a power of 2 and in its bit agree below the next
pub more_bits : (size m n : ℕ) → 0 < size → m % size ≡ n % size → has_bit size m ≡ has_bit size n → m % (size * 2) ≡ n % (size * 2)
more_bits size m n some rest bit =
    let two : 0 < 2 = omega arith in
    let digit : m / size % 2 ≡ n / size % 2 = one_digit (m / size % 2) (n / size % 2) (mod-lt (m / size) two) (mod-lt (n / size) two) bit in
    let next : size * 2 ≡ 2 * size = omega arith in
    ap (λ k. m % k) next ∙ mod-mul m {m = 2} {c = size} two some ∙ ap (λ d. d * size + m % size) digit ∙ ap (λ r. n / size % 2 * size + r) rest
    ∙ sym (mod-mul n {m = 2} {c = size} two some) ∙ ap (λ k. n % k) (sym next)

-- Marked leaves

-- a leaf that is marked counts, and has the bit as it is to be
counted : {L : Type 0} (eq : L → L → Bool) → IsEquivalence eq → (off : L) (x : L) (b : Bool) → (not (eq x off) && b) ≡ true → (x ≢ off) × (b ≡ true)
counted eq laws off x b e =
    let parts = and_parts (not (eq x off)) b e in
    ((λ same. both_ways (eq x off) (not-true (eq x off) parts.0) (ap (λ y. eq x y) (sym same) ∙ laws.refl x)), parts.1)

counts : {L : Type 0} (eq : L → L → Bool) → ((x y : L) → eq x y ≡ true → x ≡ y) → (off x : L) (b : Bool) → x ≢ off → b ≡ true → (not (eq x off) && b) ≡ true
counts eq exact off x b n e = and_from (not (eq x off)) b (not_from_false (eq x off) (false_from_ne_true (eq x off) (λ same. n (exact x off same)))) e

-- what a relabelling says
abbrev pub AreMarked : {L : Type 0} → (L → L → Bool) → L → List L → ℕ → Bool → List ℕ → Plain L → Plain Bool → Type 0
AreMarked {L} eq off keys size set tops t u = (p : List ℕ) → IsWithin tops p → (a : L) × (value t p ≡ Some a) × (value u p ≡ Some (is_marked eq off keys size set a))

module _ {L : Type 0} (eq : L → L → Bool) (laws : IsEquivalence eq) (exact : (x y : L) → eq x y ≡ true → x ≡ y) (off : L) (keys : List L) (size fields : ℕ) (tops : List ℕ) (t : Plain L)
    (u v : Plain Bool) (set : AreMarked eq off keys size true tops t u) (clear : AreMarked eq off keys size false tops t v) where
  -- the bit of a leaf's place
  abbrev bit : L → Bool
  bit x = has_bit size (place_in eq keys x)

  at_set : (p : List ℕ) → IsWithin tops p → value u p ≡ Some true → (a : L) × (value t p ≡ Some a) × (a ≢ off) × (bit a ≡ true)
  at_set p w e =
      let here = set p w in
      let m = counted eq laws off here.0 (bit here.0) (some_once _ _ (sym here.2 ∙ e)) in
      (here.0, here.1, m.0, m.1)

  at_clear : (p : List ℕ) → IsWithin tops p → value v p ≡ Some true → (a : L) × (value t p ≡ Some a) × (a ≢ off) × (bit a ≡ false)
  at_clear p w e =
      let here = clear p w in
      let m = counted eq laws off here.0 (not (bit here.0)) (some_once _ _ (sym here.2 ∙ e)) in
      (here.0, here.1, m.0, not-true (bit here.0) m.1)

  pub bits_apart : (p q : List ℕ) → AreTrueNear fields tops u v p q → AreApart fields tops t off p q
  bits_apart p q h =
      let a = at_set p h.first.0 h.first.1 in
      let b = at_clear q h.second.0 h.second.1 in
      record {
        leaf = a.0;
        other = b.0;
        have = record { within = h.first.0; other_within = h.second.0; near = h.near; here = a.1; there = b.1; counts = a.2; other_counts = b.2 };
        differ = λ same. both_ways (bit b.0) b.3 (ap bit (sym same) ∙ a.3);
      }

  true_set : (p : List ℕ) (a : L) → IsWithin tops p → value t p ≡ Some a → a ≢ off → bit a ≡ true → value u p ≡ Some true
  true_set p a w e n is =
      let here = set p w in
      let same : here.0 ≡ a = some_once here.0 a (sym here.1 ∙ e) in
      here.2 ∙ ap (λ x. Some (is_marked eq off keys size true x)) same ∙ ap Some (counts eq exact off a (bit a) n is)

  true_clear : (p : List ℕ) (a : L) → IsWithin tops p → value t p ≡ Some a → a ≢ off → bit a ≡ false → value v p ≡ Some true
  true_clear p a w e n is =
      let here = clear p w in
      let same : here.0 ≡ a = some_once here.0 a (sym here.1 ∙ e) in
      here.2 ∙ ap (λ x. Some (is_marked eq off keys size false x)) same ∙ ap Some (counts eq exact off a (not (bit a)) n (not_from_false (bit a) is))

  pub bits_alike : NoneTrueNear fields tops u v → AreAlikeBy (λ x. has_bit size (place_in eq keys x)) fields tops t off
  bits_alike nowhere p q a b h = by (bit a) (bit b) refl refl
    where
      by : (c d : Bool) → bit a ≡ c → bit b ≡ d → bit a ≡ bit b
      by true true e f = e ∙ sym f
      by false false e f = e ∙ sym f
      by true false e f = absurd (nowhere p q (record {
        first = (h.within, true_set p a h.within h.here h.counts e);
        second = (h.other_within, true_clear q b h.other_within h.there h.other_counts f);
        near = h.near;
      }))
      by false true e f = absurd (nowhere q p (record {
        first = (h.other_within, true_set q b h.other_within h.there h.other_counts f);
        second = (h.within, true_clear p a h.within h.here h.counts e);
        near = near_back fields p q h.near;
      }))

  -- what was found in the trees of marks
  pub apart_found : (others : List ℕ) → others ≡ tops → (found : Option (List ℕ × List ℕ))
      → MatchOption found (NoneTrueNear fields others u v) (λ pair. AreTrueNear fields others u v pair.0 pair.1)
      → MatchOption found (AreAlikeBy (λ x. has_bit size (place_in eq keys x)) fields tops t off) (λ pair. AreApart fields tops t off pair.0 pair.1)
  apart_found others e None h = bits_alike (subst (λ ts. NoneTrueNear fields ts u v) e h)
  apart_found others e (Some pair) h = bits_apart pair.0 pair.1 (subst (λ ts. AreTrueNear fields ts u v pair.0 pair.1) e h)

-- Powers of 2, one after another

pub alike_first : {L : Type 0} (place : L → ℕ) (fields : ℕ) (tops : List ℕ) (t : Plain L) (off : L) → AreAlikeBy (λ x. place x % 1) fields tops t off
alike_first place fields tops t off p q a b h =
    let m : place a % 1 < 1 = mod-lt (place a) (omega arith) in
    let n : place b % 1 < 1 = mod-lt (place b) (omega arith) in
    omega (arith, m, n)

pub alike_next : {L : Type 0} (place : L → ℕ) (fields : ℕ) (tops : List ℕ) (t : Plain L) (off : L) (size next : ℕ) → 0 < size → next ≡ size * 2
    → AreAlikeBy (λ x. place x % size) fields tops t off → AreAlikeBy (λ x. has_bit size (place x)) fields tops t off → AreAlikeBy (λ x. place x % next) fields tops t off
alike_next place fields tops t off size next some is rest bit p q a b h =
    ap (λ k. place a % k) is ∙ more_bits size (place a) (place b) some (rest p q a b h) (bit p q a b h) ∙ ap (λ k. place b % k) (sym is)

pub alike_all : {L : Type 0} (eq : L → L → Bool) → IsEquivalence eq → ((x y : L) → eq x y ≡ true → x ≡ y) → (fields : ℕ) (tops : List ℕ) (t : Plain L) (off : L) (keys : List L) (size : ℕ)
    → HasValuesAmong t keys → length keys ≤ size → AreAlikeBy (λ x. place_in eq keys x % size) fields tops t off → AreAlikeBy (λ x. x) fields tops t off
alike_all eq laws exact fields tops t off keys size among few alike p q a b h =
    let first : Contains keys a = among p a h.here in
    let second : Contains keys b = among q b h.there in
    let m = (place_there eq laws exact keys a first).0 in
    let n = (place_there eq laws exact keys b second).0 in
    one_place eq laws exact keys a b first second (sym (mod-eq_of_lt (omega (arith, m))) ∙ alike p q a b h ∙ mod-eq_of_lt (omega (arith, n)))
