-- The test of a point, side by side.
use Rattle.std.proofs.Common.{◌≡◌, ◌≢◌, ℕ, zero, suc, ◌+◌, ◌<◌, ◌≤◌, Bool, true, false, ◌&&◌, not, cond, List, [], ◌∷◌, ◌++◌, inl, inr, refl, sym, ◌∙◌, ap, subst, arith, get_or, set, take, drop, length, nat_le}
use Rattle.std.proofs.lemmas.Bool.{and_from, or_left, le-leb, cases_lt}
use Rattle.std.proofs.lemmas.List.{drop_more, get_or-set_other, map-append, take_all, take_more, take_more_set}
use Rattle.std.proofs.lemmas.List.Elements.{All-nil, All-cons}
use Rattle.std.proofs.lemmas.Grind.{get_or-set_at}
use Rattle.fws_iv.specs.declared.iv.Iv.{Iv}
use Rattle.fws_iv.specs.Ivs.{in_part, has, IsRegular}
use Rattle.fws_box.specs.declared.pbox.PBox.{PBox}
use Rattle.fws_box.specs.Boxes.{box_hits, sides_of}
use Rattle.fws_box.specs.Sides.{sides_have, IsFilled, AreRegular, whole_sides}

-- 1 where the test holds
abbrev pub one : Bool → ℕ
one b = cond b 1 0

-- the test of the sides but one
abbrev pub others : ℕ → List (List Iv) → List ℕ → Bool
others k [] p = true
others k (s ∷ ss) [] = false
others zero (s ∷ ss) (x ∷ p) = sides_have ss p
others (suc k) (s ∷ ss) (x ∷ p) = has s x && others k ss p

and_swap : (a b c : Bool) → (a && (b && c)) ≡ (b && (a && c))
and_swap true b c = refl
and_swap false true c = refl
and_swap false false c = refl

-- the test of all is that of one side and that of the others
pub at_side : (k : ℕ) (ss : List (List Iv)) (p : List ℕ) (d : List Iv) (e : ℕ) → k < length ss → length p ≡ length ss
    → sides_have ss p ≡ (has (get_or ss k d) (get_or p k e) && others k ss p)
at_side k [] p d e lt n = absurd (omega arith)
at_side k (s ∷ ss) [] d e lt n = absurd (omega arith)
at_side zero (s ∷ ss) (x ∷ p) d e lt n = refl
at_side (suc k) (s ∷ ss) (x ∷ p) d e lt n =
    ap (λ b. has s x && b) (at_side k ss p d e (omega arith) (omega arith)) ∙ and_swap (has s x) (has (get_or ss k d) (get_or p k e)) (others k ss p)

-- so it is for another set at that side
pub set_side : (k : ℕ) (ss : List (List Iv)) (p : List ℕ) (r : List Iv) (e : ℕ) → k < length ss → length p ≡ length ss
    → sides_have (set ss k r) p ≡ (has r (get_or p k e) && others k ss p)
set_side k [] p r e lt n = absurd (omega arith)
set_side k (s ∷ ss) [] r e lt n = absurd (omega arith)
set_side zero (s ∷ ss) (x ∷ p) r e lt n = refl
set_side (suc k) (s ∷ ss) (x ∷ p) r e lt n =
    ap (λ b. has s x && b) (set_side k ss p r e (omega arith) (omega arith)) ∙ and_swap (has s x) (has r (get_or p k e)) (others k ss p)

-- the test of what is left, one side on
pub left_more : (k : ℕ) (ss : List (List Iv)) (p : List ℕ) (d : List Iv) (e : ℕ) → k < length ss → length p ≡ length ss
    → sides_have (drop k ss) (drop k p) ≡ (has (get_or ss k d) (get_or p k e) && sides_have (drop (k + 1) ss) (drop (k + 1) p))
left_more k ss p d e lt n =
    ap (λ t. sides_have t (drop k p)) (drop_more ss k d lt)
    ∙ ap (λ t. sides_have (get_or ss k d ∷ drop (k + 1) ss) t) (drop_more p k e (omega arith))

-- nothing is left behind the last side
pub left_none : (k : ℕ) (ss : List (List Iv)) (p : List ℕ) → length ss ≡ k → sides_have (drop k ss) p ≡ true
left_none zero [] p n = refl
left_none (suc k) [] p n = absurd (omega arith)
left_none zero (s ∷ ss) p n = absurd (omega arith)
left_none (suc k) (s ∷ ss) p n = left_none k ss p (omega arith)

-- each side has its value: the test holds
pub have_all : (ss : List (List Iv)) (p : List ℕ) → length p ≡ length ss → ((j : ℕ) (d : List Iv) (e : ℕ) → j < length ss → has (get_or ss j d) (get_or p j e) ≡ true)
    → sides_have ss p ≡ true
have_all [] p n h = refl
have_all (s ∷ ss) [] n h = absurd (omega arith)
have_all (s ∷ ss) (x ∷ p) n h =
    and_from (has s x) (sides_have ss p) (h zero s x (omega arith)) (have_all ss p (omega arith) (λ j d e lt. h (suc j) d e (omega arith)))

-- ---- a side that is narrowed

and_turn : (h o t r : Bool) → r ≡ (h && t) → (r && o) ≡ ((h && o) && t)
and_turn true true t r e = rw e (same t)
  where
    same : (t : Bool) → (t && true) ≡ t
    same true = refl
    same false = refl
and_turn true false t r e = rw e (none t)
  where
    none : (t : Bool) → (t && false) ≡ false
    none true = refl
    none false = refl
and_turn false o t r e = rw e refl

-- a narrower side
pub narrowed : (k : ℕ) (ss : List (List Iv)) (r d t : List Iv) (p : List ℕ) → k < length ss → length p ≡ length ss
    → ((v : ℕ) → has r v ≡ (has (get_or ss k d) v && has t v)) → sides_have (set ss k r) p ≡ (sides_have ss p && has t (get_or p k 0))
narrowed k ss r d t p lt n h =
    let x : ℕ = get_or p k 0 in
    set_side k ss p r 0 lt n
    ∙ and_turn (has (get_or ss k d) x) (others k ss p) (has t x) (has r x) (h x)
    ∙ ap (λ b. b && has t x) (sym (at_side k ss p d 0 lt n))

nowhere : (a o t : Bool) → false ≡ (a && t) → false ≡ ((a && o) && t)
nowhere true true t e = e
nowhere true false t e = refl
nowhere false o t e = refl

-- an empty side
pub emptied : (k : ℕ) (ss : List (List Iv)) (r d t : List Iv) (p : List ℕ) → k < length ss → length p ≡ length ss
    → ((v : ℕ) → has r v ≡ (has (get_or ss k d) v && has t v)) → r ≡ [] → false ≡ (sides_have ss p && has t (get_or p k 0))
emptied k ss r d t p lt n h e =
    let x : ℕ = get_or p k 0 in
    nowhere (has (get_or ss k d) x) (others k ss p) (has t x) (ap (λ s. has s x) (sym e) ∙ h x)
    ∙ ap (λ b. b && has t x) (sym (at_side k ss p d 0 lt n))

-- ---- sides in common

and_first : (a b c m : Bool) → m ≡ (a && b) → (m && c) ≡ (a && (b && c))
and_first true b c m e = ap (λ x. x && c) e
and_first false b c m e = ap (λ x. x && c) e

-- one side more of the other box
pub meet_next : (k : ℕ) (a m : Bool) (b : List (List Iv)) (p : List ℕ) → k < length b → length p ≡ length b → m ≡ (a && has (get_or b k []) (get_or p k 0))
    → (m && sides_have (drop (k + 1) b) (drop (k + 1) p)) ≡ (a && sides_have (drop k b) (drop k p))
meet_next k a m b p lt n e =
    and_first a (has (get_or b k []) (get_or p k 0)) (sides_have (drop (k + 1) b) (drop (k + 1) p)) m e
    ∙ ap (λ x. a && x) (sym (left_more k b p [] 0 lt n))

and_true : (a : Bool) → a ≡ (a && true)
and_true true = refl
and_true false = refl

-- no side is left
pub meet_end : (k : ℕ) (a : Bool) (b : List (List Iv)) (p : List ℕ) → length b ≡ k → a ≡ (a && sides_have (drop k b) p)
meet_end k a b p n = and_true a ∙ ap (λ x. a && x) (sym (left_none k b p n))

-- ---- sides with a member

-- within a list the default is of no account
pub default : (xs : List (List Iv)) (k : ℕ) (d e : List Iv) → k < length xs → get_or xs k d ≡ get_or xs k e
default [] k d e lt = absurd (omega arith)
default (x ∷ xs) zero d e lt = refl
default (x ∷ xs) (suc k) d e lt = default xs k d e (omega arith)

-- each side below the index has its value
abbrev pub ChosenBelow : ℕ → List (List Iv) → List ℕ → Type 0
ChosenBelow k sides point = (j : ℕ) (d : List Iv) (e : ℕ) → j < k → has (get_or sides j d) (get_or point j e) ≡ true

-- one value more
pub chosen_more : (k : ℕ) (sides : List (List Iv)) (point : List ℕ) (x : ℕ) → k < length sides → k < length point → has (get_or sides k []) x ≡ true
    → ChosenBelow k sides point → ChosenBelow (k + 1) sides (set point k x)
chosen_more k sides point x ls lp here before j d e below = elim (cases_lt j k) [
  | inl less ↦ let ne : j ≢ k = omega arith in ap (λ v. has (get_or sides j d) v) (get_or-set_other point k j x e ne) ∙ before j d e less
  | inr more ↦
      let is : j ≡ k = omega arith in
      let side : get_or sides j d ≡ get_or sides k [] = default sides j d [] (omega arith) ∙ ap (λ i. get_or sides i []) is in
      ap (λ v. has (get_or sides j d) v) (get_or-set_at point k j x e is lp) ∙ ap (λ s. has s x) side ∙ here
]

-- each side below the index has a member
abbrev pub MemberBelow : ℕ → List (List Iv) → Type 0
MemberBelow k m = (j : ℕ) (d : List Iv) → j < k → (v : ℕ) × (has (get_or m j d) v ≡ true)

-- the least number of a set is a member
pub least_of : (s : List Iv) (d : Iv) → IsRegular s → s ≢ [] → has s (get_or s 0 d).lo ≡ true
least_of [] d r ne = absurd (ne refl)
least_of (x ∷ s) d r ne = or_left (in_part x x.lo) (has s x.lo) (and_from (nat_le x.lo x.lo) (nat_le x.lo x.hi) (le-leb x.lo x.lo (omega arith)) (le-leb x.lo x.hi r.1))

-- filled and regular sides have members
pub members : (m : List (List Iv)) → IsFilled m → AreRegular m → MemberBelow (length m) m
members m filled regular j d lt =
    let x : Iv = record { lo = 0; hi = 0 } in
    ((get_or (get_or m j d) 0 x).lo, least_of (get_or m j d) x (regular j d lt) (filled j d lt))

whole_filled : (tops : List ℕ) → IsFilled (whole_sides tops)
whole_filled [] = All-nil _
whole_filled (top ∷ tops) = All-cons (λ s. s ≢ []) (record { lo = 0; hi = top } ∷ []) (whole_sides tops) (λ e. absurd (cc)) (whole_filled tops)

-- whole ranges are filled
pub filled_made : (k : ℕ) (sides : List (List Iv)) (tops : List ℕ) → length sides ≤ k → take k sides ≡ whole_sides (take k tops) → IsFilled sides
filled_made k sides tops n e = subst IsFilled (sym e ∙ take_all k sides n) (whole_filled (take k tops))

whole_regular : (tops : List ℕ) → AreRegular (whole_sides tops)
whole_regular [] = All-nil _
whole_regular (top ∷ tops) = All-cons IsRegular (record { lo = 0; hi = top } ∷ []) (whole_sides tops) (omega arith, omega arith, _) (whole_regular tops)

-- whole ranges are regular
pub regular_made : (k : ℕ) (sides : List (List Iv)) (tops : List ℕ) → length sides ≤ k → take k sides ≡ whole_sides (take k tops) → AreRegular sides
regular_made k sides tops n e = subst AreRegular (sym e ∙ take_all k sides n) (whole_regular (take k tops))

-- one more whole range
pub made_more : (sides : List (List Iv)) (tops : List ℕ) (k : ℕ) (s : List Iv) → k < length sides → k < length tops → s ≡ record { lo = 0; hi = get_or tops k 0 } ∷ []
    → take k sides ≡ whole_sides (take k tops) → take (k + 1) (set sides k s) ≡ whole_sides (take (k + 1) tops)
made_more sides tops k s ls lt is made =
    let whole : ℕ → List Iv = λ top. record { lo = 0; hi = top } ∷ [] in
    take_more_set sides k s ls
    ∙ ap (λ t. t ++ s ∷ []) made
    ∙ ap (λ x. whole_sides (take k tops) ++ x ∷ []) is
    ∙ sym (map-append whole (take k tops) (get_or tops k 0 ∷ []))
    ∙ ap whole_sides (sym (take_more tops k 0 lt))

-- sides of which each has a member have a point
pub point_of : (m : List (List Iv)) → MemberBelow (length m) m
    → (p : List ℕ) × ((length p ≡ length m) × (sides_have m p ≡ true))
point_of [] h = ([], (refl, refl))
point_of (s ∷ m) h =
    let here = h zero s (omega arith) in
    let more = point_of m (λ j d lt. h (suc j) d (omega arith)) in
    (here.0 ∷ more.0, (omega (arith, more.1.0), and_from (has s here.0) (sides_have m more.0) here.1 more.1.1))

-- ---- pieces

pub box_hits-push : (bs : List PBox) (b : PBox) (p : List ℕ) → box_hits (bs ++ b ∷ []) p ≡ box_hits bs p + one (sides_have (sides_of b) p)
box_hits-push [] b p = omega arith
box_hits-push (c ∷ bs) b p = let e = box_hits-push bs b p in omega (arith, e)

outside : (h o t r : Bool) → r ≡ (h && not t) → one (r && o) ≡ one ((h && o) && not t)
outside true true true r e = ap (λ c. one (c && true)) e
outside true true false r e = ap (λ c. one (c && true)) e
outside true false t r e = rw e (never (not t))
  where
    never : (t : Bool) → one (t && false) ≡ 0
    never true = refl
    never false = refl
outside false o t r e = ap (λ c. one (c && o)) e

-- one more piece: the points whose value of the field is outside the set
pub hits_outside : (bs : List PBox) (b : PBox) (k : ℕ) (ss : List (List Iv)) (r d t : List Iv) (p : List ℕ) → k < length ss → length p ≡ length ss → sides_of b ≡ set ss k r
    → ((v : ℕ) → has r v ≡ (has (get_or ss k d) v && not (has t v)))
    → box_hits (bs ++ b ∷ []) p ≡ box_hits bs p + one (sides_have ss p && not (has t (get_or p k 0)))
hits_outside bs b k ss r d t p lt n is h =
    let x : ℕ = get_or p k 0 in
    box_hits-push bs b p
    ∙ ap (λ u. box_hits bs p + one (sides_have u p)) is
    ∙ ap (λ c. box_hits bs p + one c) (set_side k ss p r 0 lt n)
    ∙ ap (λ m. box_hits bs p + m) (outside (has (get_or ss k d) x) (others k ss p) (has t x) (has r x) (h x))
    ∙ ap (λ c. box_hits bs p + one (c && not (has t x))) (sym (at_side k ss p d 0 lt n))

none_outside : (h o t : Bool) → false ≡ (h && not t) → ◌≡◌ {A = ℕ} 0 (one ((h && o) && not t))
none_outside true true true e = refl
none_outside true true false e = absurd (cc)
none_outside true false t e = refl
none_outside false o t e = refl

-- no more piece, where there are no such points
pub hits_none : (bs : List PBox) (k : ℕ) (ss : List (List Iv)) (r d t : List Iv) (p : List ℕ) → k < length ss → length p ≡ length ss → r ≡ []
    → ((v : ℕ) → has r v ≡ (has (get_or ss k d) v && not (has t v)))
    → box_hits bs p ≡ box_hits bs p + one (sides_have ss p && not (has t (get_or p k 0)))
hits_none bs k ss r d t p lt n is h =
    let x : ℕ = get_or p k 0 in
    let e = none_outside (has (get_or ss k d) x) (others k ss p) (has t x) (ap (λ l. has l x) (sym is) ∙ h x) in
    let f = ap (λ c. one (c && not (has t x))) (at_side k ss p d 0 lt n) in
    omega (arith, e, f)

parted : (h o t u r : Bool) → r ≡ (h && t) → one ((h && o) && not t) + one ((r && o) && not u) ≡ one ((h && o) && not (t && u))
parted true true true u r e = rw e (zero_more (one (not u)))
  where
    zero_more : (n : ℕ) → 0 + n ≡ n
    zero_more n = omega arith
parted true true false u r e = rw e refl
parted true false t u r e = rw e (never t u)
  where
    never : (t u : Bool) → 0 + one ((t && false) && not u) ≡ 0
    never true u = refl
    never false u = refl
parted false o t u r e = rw e refl

-- what is left to cut, one field on
pub cut_more : (k : ℕ) (ss other : List (List Iv)) (r d e : List Iv) (p : List ℕ) → k < length ss → length p ≡ length ss → length other ≡ length ss
    → ((v : ℕ) → has r v ≡ (has (get_or ss k d) v && has (get_or other k e) v))
    → one (sides_have ss p && not (has (get_or other k e) (get_or p k 0))) + one (sides_have (set ss k r) p && not (sides_have (drop (k + 1) other) (drop (k + 1) p)))
    ≡ one (sides_have ss p && not (sides_have (drop k other) (drop k p)))
cut_more k ss other r d e p lt n l h =
    let x : ℕ = get_or p k 0 in
    let s : Bool = has (get_or ss k d) x in
    let t : Bool = has (get_or other k e) x in
    let u : Bool = sides_have (drop (k + 1) other) (drop (k + 1) p) in
    let whole = at_side k ss p d 0 lt n in
    ap (λ c. one (c && not t) + one (sides_have (set ss k r) p && not u)) whole
    ∙ ap (λ c. one ((s && others k ss p) && not t) + one (c && not u)) (set_side k ss p r 0 lt n)
    ∙ parted s (others k ss p) t u (has r x) (h x)
    ∙ ap (λ c. one (c && not (t && u))) (sym whole)
    ∙ ap (λ c. one (sides_have ss p && not c)) (sym (left_more k other p e 0 (omega arith) (omega arith)))

apart : (s t u : Bool) → false ≡ (s && t) → one s ≡ one (s && not (t && u))
apart true true u e = absurd (cc)
apart true false u e = refl
apart false t u e = refl

-- where the boxes share no value of the field, that was all
pub cut_apart : (k : ℕ) (ss other : List (List Iv)) (r e : List Iv) (p : List ℕ) → k < length ss → length p ≡ length ss → length other ≡ length ss
    → ((v : ℕ) → has r v ≡ (has (get_or ss k e) v && has (get_or other k e) v)) → r ≡ []
    → one (sides_have ss p) ≡ one (sides_have ss p && not (sides_have (drop k other) (drop k p)))
cut_apart k ss other r e p lt n l h none =
    let x : ℕ = get_or p k 0 in
    apart (sides_have ss p) (has (get_or other k e) x) (sides_have (drop (k + 1) other) (drop (k + 1) p)) (emptied k ss r e (get_or other k e) p lt n h none)
    ∙ ap (λ c. one (sides_have ss p && not c)) (sym (left_more k other p e 0 (omega arith) (omega arith)))

never : (a : Bool) → one (a && false) ≡ 0
never true = refl
never false = refl

-- behind the last field nothing is left to cut
pub cut_ended : (k : ℕ) (ss other : List (List Iv)) (p q : List ℕ) → length other ≡ k → one (sides_have ss p && not (sides_have (drop k other) q)) ≡ 0
cut_ended k ss other p q n = ap (λ c. one (sides_have ss p && not c)) (left_none k other q n) ∙ never (sides_have ss p)
