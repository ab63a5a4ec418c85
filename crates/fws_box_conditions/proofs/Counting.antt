-- Counting the boxes that have a point.
use Rattle.std.proofs.Common.{◌≡◌, ℕ, ◌+◌, ◌<◌, ◌≤◌, Bool, true, false, ◌&&◌, not, cond, nat_eq, List, [], ◌∷◌, ◌++◌, length, take, get_or, refl, sym, ap, subst, ◌∙◌, arith}
use Rattle.std.proofs.lemmas.Bool.{ne_eqb}
use Rattle.std.proofs.lemmas.List.{take_more, take_all}
use Rattle.fws_iv.specs.declared.iv.Iv.{Iv}
use Rattle.fws_box.specs.declared.pbox.PBox.{PBox}
use Rattle.fws_box.specs.Boxes.{box_hits, sides_of}
use Rattle.fws_box.specs.Sides.{sides_have}
use Rattle.fws_box_conditions.specs.Kept.{Adds, AddsThose, AreThose}
use Rattle.fws_box_conditions.specs.Areas.{AreWhere}

-- 1 where the test holds
abbrev pub one : Bool → ℕ
one b = cond b 1 0

-- one more box
pub box_hits-push : (bs : List PBox) (b : PBox) (p : List ℕ) → box_hits (bs ++ b ∷ []) p ≡ box_hits bs p + one (sides_have (sides_of b) p)
box_hits-push [] b p = omega arith
box_hits-push (c ∷ bs) b p = let e = box_hits-push bs b p in omega (arith, e)

-- a narrower box, if there is one, is added
pub adds_some : (area : List (List Iv)) (test : List ℕ → Bool) (old : List PBox) (b : PBox)
    → ((p : List ℕ) → length p ≡ 12 → sides_have (sides_of b) p ≡ (sides_have area p && test p)) → Adds area test old (old ++ b ∷ [])
adds_some area test old b h p n = box_hits-push old b p ∙ ap (λ c. box_hits old p + one c) (h p n)

pub adds_none : (area : List (List Iv)) (test : List ℕ → Bool) (old : List PBox)
    → ((p : List ℕ) → length p ≡ 12 → false ≡ (sides_have area p && test p)) → Adds area test old old
adds_none area test old h p n = let e = ap one (h p n) in omega (arith, e)

pub box_hits-append : (a b : List PBox) (p : List ℕ) → box_hits (a ++ b) p ≡ box_hits a p + box_hits b p
box_hits-append [] b p = omega arith
box_hits-append (x ∷ a) b p = let e = box_hits-append a b p in omega (arith, e)

-- boxes where the test holds are added
pub adds_where : (area : List (List Iv)) (test : List ℕ → Bool) (old more new : List PBox) → new ≡ old ++ more → AreWhere area test more → Adds area test old new
adds_where area test old more new e h p n = ap (λ bs. box_hits bs p) e ∙ box_hits-append old more p ∙ ap (λ m. box_hits old p + m) (h p n)

step : (t h : Bool) (base seen out new : ℕ) → out ≡ base + cond t seen 0 → new ≡ out + one (h && t) → new ≡ base + cond t (seen + one h) 0
step true true base seen out new a b = omega (arith, a, b)
step true false base seen out new a b = omega (arith, a, b)
step false true base seen out new a b = omega (arith, a, b)
step false false base seen out new a b = omega (arith, a, b)

-- one more box
pub those_more : (base seen : List PBox) (b : PBox) (test : List ℕ → Bool) (out new : List PBox)
    → AddsThose seen test base out → Adds (sides_of b) test out new → AddsThose (seen ++ b ∷ []) test base new
those_more base seen b test out new a h p n =
    step (test p) (sides_have (sides_of b) p) (box_hits base p) (box_hits seen p) (box_hits out p) (box_hits new p) (a p n) (h p n)
    ∙ ap (λ m. box_hits base p + cond (test p) m 0) (sym (box_hits-push seen b p))

-- one more box of a list
pub those_next : (base boxes : List PBox) (i : ℕ) (b : PBox) (test : List ℕ → Bool) (out new : List PBox) → i < length boxes → b ≡ get_or boxes i b
    → AddsThose (take i boxes) test base out → Adds (sides_of b) test out new → AddsThose (take (i + 1) boxes) test base new
those_next base boxes i b test out new lt is a h =
    subst (λ seen. AddsThose seen test base new) (ap (λ x. take i boxes ++ x ∷ []) is ∙ sym (take_more boxes i b lt))
    (those_more base (take i boxes) b test out new a h)

pub those_all : (base boxes : List PBox) (i : ℕ) (test : List ℕ → Bool) (out : List PBox) → length boxes ≤ i
    → AddsThose (take i boxes) test base out → AddsThose boxes test base out
those_all base boxes i test out le a = subst (λ seen. AddsThose seen test base out) (take_all i boxes le) a

none_yet : (t : Bool) (base : ℕ) → base ≡ base + cond t 0 0
none_yet true base = omega arith
none_yet false base = omega arith

-- no box so far
pub those_none : (base : List PBox) (test : List ℕ → Bool) → AddsThose [] test base base
those_none base test p n = none_yet (test p) (box_hits base p)

both : (a t u : Bool) (kept boxes : ℕ) → boxes ≡ one (a && t) → kept ≡ 0 + cond u boxes 0 → kept ≡ one (a && (t && u))
both true true true kept boxes e f = omega (arith, e, f)
both true true false kept boxes e f = omega (arith, e, f)
both true false true kept boxes e f = omega (arith, e, f)
both true false false kept boxes e f = omega (arith, e, f)
both false t true kept boxes e f = omega (arith, e, f)
both false t false kept boxes e f = omega (arith, e, f)

-- what is kept of boxes where one test holds
pub where_those : (area : List (List Iv)) (t u : List ℕ → Bool) (boxes kept : List PBox) → AreWhere area t boxes → AreThose boxes u kept
    → AreWhere area (λ p. t p && u p) kept
where_those area t u boxes kept e f p n = both (sides_have area p) (t p) (u p) (box_hits kept p) (box_hits boxes p) (e p n) (f p n)

same : (a t u : Bool) → (a ≡ true → t ≡ u) → one (a && t) ≡ one (a && u)
same true t u e = ap one (e refl)
same false t u e = refl

-- a test that is the same in the area
pub where_same : (area : List (List Iv)) (t u : List ℕ → Bool) (boxes : List PBox) → AreWhere area t boxes
    → ((p : List ℕ) → length p ≡ 12 → sides_have area p ≡ true → t p ≡ u p) → AreWhere area u boxes
where_same area t u boxes e h p n = e p n ∙ same (sides_have area p) (t p) (u p) (h p n)

zero_more : (h : Bool) (n : ℕ) → (nat_eq n 0 && not h) ≡ nat_eq (n + one h) 0
zero_more true n = right (nat_eq n 0) ∙ sym (ne_eqb (n + 1) 0 (λ e. omega arith))
  where
    right : (b : Bool) → (b && false) ≡ false
    right true = refl
    right false = refl
zero_more false n = right (nat_eq n 0) ∙ ap (λ m. nat_eq m 0) (omega arith)
  where
    right : (b : Bool) → (b && true) ≡ b
    right true = refl
    right false = refl

-- one more box is cut out
pub cut_next : (area : List (List Iv)) (boxes : List PBox) (i : ℕ) (b : PBox) (left new : List PBox) → i < length boxes → b ≡ get_or boxes i b
    → AreWhere area (λ p. nat_eq (box_hits (take i boxes) p) 0) left → AreThose left (λ p. not (sides_have (sides_of b) p)) new
    → AreWhere area (λ p. nat_eq (box_hits (take (i + 1) boxes) p) 0) new
cut_next area boxes i b left new lt is e f =
    where_same area (λ p. nat_eq (box_hits (take i boxes) p) 0 && not (sides_have (sides_of b) p)) (λ p. nat_eq (box_hits (take (i + 1) boxes) p) 0) new
    (where_those area (λ p. nat_eq (box_hits (take i boxes) p) 0) (λ p. not (sides_have (sides_of b) p)) left new e f)
    (λ p n h. zero_more (sides_have (sides_of b) p) (box_hits (take i boxes) p)
    ∙ ap (λ m. nat_eq m 0) (sym (box_hits-push (take i boxes) b p) ∙ ap (λ bs. box_hits bs p) (ap (λ x. take i boxes ++ x ∷ []) is ∙ sym (take_more boxes i b lt))))

pub cut_ended : (area : List (List Iv)) (boxes : List PBox) (i : ℕ) (left : List PBox) → length boxes ≤ i
    → AreWhere area (λ p. nat_eq (box_hits (take i boxes) p) 0) left → AreWhere area (λ p. nat_eq (box_hits boxes p) 0) left
cut_ended area boxes i left le e = subst (λ seen. AreWhere area (λ p. nat_eq (box_hits seen p) 0) left) (take_all i boxes le) e
