-- An area divided by tests.
use Rattle.std.proofs.Common.{◌≡◌, ℕ, zero, suc, ◌+◌, ◌<◌, ◌≤◌, Bool, true, false, ◌&&◌, not, cond, nat_eq, List, [], ◌∷◌, length, take, get_or, All, refl, sym, ap, subst, ◌∙◌, arith}
use Rattle.std.specs.List.{list_all}
use Rattle.std.proofs.lemmas.List.{take_all}
use Rattle.std.proofs.lemmas.List.Folds.{list_all_more}
use Rattle.fws_iv.specs.declared.iv.Iv.{Iv}
use Rattle.fws_box.specs.declared.pbox.PBox.{PBox}
use Rattle.fws_box.specs.Boxes.{box_hits, sides_of}
use Rattle.fws_box.specs.Sides.{sides_have}
use Rattle.fws_net.specs.declared.site.Site.{Site}
use Rattle.fws_box_conditions.specs.Kept.{AreThose}
use Rattle.fws_box_conditions.specs.Areas.{AreWhere, IsOfSite}
use Rattle.fws_box_conditions.proofs.Counting.{one, where_same, where_those}

absent : (a t : Bool) (n : ℕ) → a ≡ true → n ≡ one (a && t) → nat_eq n 0 ≡ not t
absent true true n e f = rw f refl
absent true false n e f = rw f refl
absent false t n e f = absurd (cc)

-- what the boxes where a test holds leave of the area is where it doesn't
pub where_not : (area : List (List Iv)) (t : List ℕ → Bool) (there left : List PBox) → AreWhere area t there
    → AreWhere area (λ p. nat_eq (box_hits there p) 0) left → AreWhere area (λ p. not (t p)) left
where_not area t there left e f =
    where_same area (λ p. nat_eq (box_hits there p) 0) (λ p. not (t p)) left f
    (λ p n h. absent (sides_have area p) (t p) (box_hits there p) h (e p n))

turned : (t b : Bool) → b ≡ true → not t ≡ cond b (not t) t
turned t true e = refl
turned t false e = absurd (cc)

straight : (t b : Bool) → b ≡ false → t ≡ cond b (not t) t
straight t true e = absurd (cc)
straight t false e = refl

-- a negated test
pub where_turned : (area : List (List Iv)) (t : List ℕ → Bool) (b : Bool) (there left : List PBox) → b ≡ true → AreWhere area t there
    → AreWhere area (λ p. nat_eq (box_hits there p) 0) left → AreWhere area (λ p. cond b (not (t p)) (t p)) left
where_turned area t b there left e f g =
    where_same area (λ p. not (t p)) (λ p. cond b (not (t p)) (t p)) left (where_not area t there left f g) (λ p n h. turned (t p) b e)

-- a test that isn't negated
pub where_straight : (area : List (List Iv)) (t : List ℕ → Bool) (b : Bool) (there : List PBox) → b ≡ false → AreWhere area t there
    → AreWhere area (λ p. cond b (not (t p)) (t p)) there
where_straight area t b there e f = where_same area t (λ p. cond b (not (t p)) (t p)) there f (λ p n h. straight (t p) b e)

hits_at : (boxes : List PBox) (k : ℕ) (d : PBox) (p : List ℕ) → k < length boxes → sides_have (sides_of (get_or boxes k d)) p ≡ true → 1 ≤ box_hits boxes p
hits_at [] k d p lt h = absurd (omega arith)
hits_at (b ∷ boxes) zero d p lt h = let e : one (sides_have (sides_of b) p) ≡ 1 = ap one h in omega (arith, e)
hits_at (b ∷ boxes) (suc k) d p lt h = let e = hits_at boxes k d p (omega arith) h in omega (arith, e)

there : (a t : Bool) (n : ℕ) → n ≡ one (a && t) → 1 ≤ n → a ≡ true
there true t n e le = refl
there false t n e le = absurd (omega arith)

-- boxes of an area of a site are areas of the site
pub parts_of_site : (site : Site) (area : List (List Iv)) (t : List ℕ → Bool) (boxes : List PBox) → IsOfSite site area → AreWhere area t boxes
    → All (λ b. IsOfSite site (sides_of b)) boxes
parts_of_site site area t boxes w e k d lt p n h =
    w p n (there (sides_have area p) (t p) (box_hits boxes p) (e p n) (hits_at boxes k d p lt h))

-- one more of the tests that all have to hold
pub where_next : {X : Type 0} (area : List (List Iv)) (holds : List ℕ → X → Bool) (xs : List X) (i : ℕ) (x : X) (boxes kept : List PBox)
    → i < length xs → x ≡ get_or xs i x → AreWhere area (λ p. list_all (holds p) (take i xs)) boxes → AreThose boxes (λ p. holds p x) kept
    → AreWhere area (λ p. list_all (holds p) (take (i + 1) xs)) kept
where_next area holds xs i x boxes kept lt is e f =
    where_same area (λ p. list_all (holds p) (take i xs) && holds p x) (λ p. list_all (holds p) (take (i + 1) xs)) kept
    (where_those area (λ p. list_all (holds p) (take i xs)) (λ p. holds p x) boxes kept e f)
    (λ p n h. ap (λ y. list_all (holds p) (take i xs) && holds p y) is ∙ sym (list_all_more (holds p) xs i x lt))

pub where_all : {X : Type 0} (area : List (List Iv)) (holds : List ℕ → X → Bool) (xs : List X) (i : ℕ) (boxes : List PBox) → length xs ≤ i
    → AreWhere area (λ p. list_all (holds p) (take i xs)) boxes → AreWhere area (λ p. list_all (holds p) xs) boxes
where_all area holds xs i boxes le e = subst (λ seen. AreWhere area (λ p. list_all (holds p) seen) boxes) (take_all i xs le) e
