-- Kids part a domain when each value of it lies in one of them and their least values rise.
use Rattle.std.proofs.Common.{◌≡◌, ◌≢◌, ℕ, ◌+◌, ◌≤◌, Bool, true, false, ◌&&◌, not, cond, List, [], ◌∷◌, inl, inr, length, get_or, refl, arith}
use Rattle.std.proofs.lemmas.Bool.{cases_Bool}
use Rattle.std.specs.List.{AllByRecursion}
use Rattle.fws_iv.specs.Ivs.{has, IsRegular}
use Rattle.fws_tree.specs.Building.{kid_hits, LeastsRise}
use Rattle.fws_tree.specs.declared.node.Kid.{Kid}
use Rattle.fws_tree.specs.Nodes.{kids_over}
use Rattle.fws_tree.specs.Plain.{Plain, cut, none, EachKid, Parts, AreMany}

-- the kids of one list have pairwise different nodes, and different nodes have different trees
abbrev pub TreesDiffer : List (Plain ℕ) → List Kid → Type 0
TreesDiffer ts [] = Unit {0}
TreesDiffer ts (k ∷ ks) = AllByRecursion (λ j. get_or ts k.node (cut 0 none) ≢ get_or ts j.node (cut 0 none)) ks × TreesDiffer ts ks

-- what is left of a domain has the hits of the later kids
hits_left : (d b : Bool) (n : ℕ) → cond b 1 0 + n ≡ cond d 1 0 → n ≡ cond (d && not b) 1 0
hits_left true true n e = omega arith
hits_left true false n e = omega arith
hits_left false true n e = absurd (omega arith)
hits_left false false n e = omega arith

hit_in : (d b : Bool) (n : ℕ) → cond b 1 0 + n ≡ cond d 1 0 → b ≡ true → d ≡ true
hit_in true b n e h = refl
hit_in false true n e h = absurd (omega arith)
hit_in false false n e h = h

hit_one : (d : Bool) (n : ℕ) → n ≡ cond d 1 0 → d ≡ true → 1 ≤ n
hit_one true n e h = omega arith
hit_one false n e h = absurd (cc)

no_hit : (d : Bool) → ◌≡◌ {A = ℕ} 0 (cond d 1 0) → d ≡ false
no_hit true e = absurd (omega arith)
no_hit false e = refl

-- a value that a kid has is at least where the leasts begin
hit_from : (ks : List Kid) (from x : ℕ) → LeastsRise from ks → 1 ≤ kid_hits ks x → from ≤ x
hit_from [] from x rise h = absurd (omega arith)
hit_from (k ∷ ks) from x rise h = elim (cases_Bool (has k.set x)) [
  | inl t ↦ let l = rise.2.1 x t in omega (arith, rise.1)
  | inr f ↦
      let g : 1 ≤ kid_hits ks x = (let z = rw f at h in omega arith) in
      let l = hit_from ks rise.0 x rise.3 g in omega (arith, rise.1)
]

pub each_kid : (ts : List (Plain ℕ)) (P : Plain ℕ → Type 0) (ks : List Kid) → AllByRecursion (λ k. P (get_or ts k.node (cut 0 none))) ks → EachKid P (kids_over ts ks)
each_kid ts P [] h = tt
each_kid ts P (k ∷ ks) h = (h.0, each_kid ts P ks h.1)

pub parts_from : (ts : List (Plain ℕ)) (ks : List Kid) (dom : ℕ → Bool) (from : ℕ) → AllByRecursion (λ k. IsRegular k.set) ks
    → ((x : ℕ) → kid_hits ks x ≡ cond (dom x) 1 0) → LeastsRise from ks → TreesDiffer ts ks → Parts dom (kids_over ts ks)
parts_from ts [] dom from regular hits rise differ = λ x. no_hit (dom x) (hits x)
parts_from ts (k ∷ ks) dom from regular hits rise differ = (
  regular.0,
  (λ x h. hit_in (dom x) (has k.set x) (kid_hits ks x) (hits x) h),
  (rise.0, rise.2.0, λ x d. hit_from (k ∷ ks) rise.0 x (rise.0, omega arith, rise.2, rise.3) (hit_one (dom x) (kid_hits (k ∷ ks) x) (hits x) d)),
  each_kid ts (λ u. get_or ts k.node (cut 0 none) ≢ u) ks differ.0,
  parts_from ts ks (λ x. dom x && not (has k.set x)) rise.0 regular.1 (λ x. hits_left (dom x) (has k.set x) (kid_hits ks x) (hits x)) rise.3 differ.1,
)

-- two kids or more
pub are_many : (ts : List (Plain ℕ)) (ks : List Kid) → 2 ≤ length ks → AreMany (kids_over ts ks)
are_many ts [] h = absurd (omega arith)
are_many ts (k ∷ []) h = absurd (omega arith)
are_many ts (k ∷ j ∷ ks) h = tt
