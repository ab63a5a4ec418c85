-- Boxes that are kept of others.
use Rattle.std.proofs.Common.{◌≡◌, ℕ, ◌+◌, ◌<◌, Bool, true, false, ◌&&◌, not, List, [], ◌∷◌, ◌++◌, sym, ◌∙◌, ap, subst, arith, get_or, set, drop, length, Option, Some, None, option_map, unwrap_or, IfSome, MatchOption}
use Rattle.std.proofs.lemmas.Bool.{and_parts}
use Rattle.std.proofs.lemmas.List.{length-map}
use Rattle.fws_iv.specs.declared.iv.Iv.{Iv}
use Rattle.fws_iv.specs.Ivs.{has}
use Rattle.fws_box.specs.declared.field.Field.{Field}
use Rattle.fws_box.specs.declared.field.Field.TheVariants.{Entry, Proto, Dst, Dport, Src, Sport, Flags, Icmp, SentDst, SentDport, SentSrc, SentSport}
use Rattle.fws_box.specs.declared.pbox.PBox.{PBox}
use Rattle.fws_box.specs.Boxes.{box_hits, sides_of}
use Rattle.fws_box.specs.Fields.{place_of}
use Rattle.fws_box.specs.Sides.{sides_have}
use Rattle.fws_box.proofs.SideBySide.{one, others, at_side, narrowed, emptied, members, point_of, box_hits-push, hits_outside, hits_none, cut_more, cut_apart}

-- a place is one of twelve
pub low : (f : Field) → place_of f < 12
low Entry = omega arith
low Proto = omega arith
low Dst = omega arith
low Dport = omega arith
low Src = omega arith
low Sport = omega arith
low Flags = omega arith
low Icmp = omega arith
low SentDst = omega arith
low SentDport = omega arith
low SentSrc = omega arith
low SentSport = omega arith

pub twelve : (b : PBox) → length (sides_of b) ≡ 12
twelve b = length-map b.sides (λ s. s.now) ∙ b.twelve

-- whether the box, if there is one, has the point
abbrev pub held : Option PBox → List ℕ → Bool
held o p = unwrap_or (option_map (λ b. sides_have (sides_of b) p) o) false

-- the box with a narrower side, if there is one
pub kept : (area : PBox) (f : Field) (r t : List Iv) (o : Option PBox) → ((v : ℕ) → has r v ≡ (has (get_or (sides_of area) (place_of f) []) v && has t v))
    → MatchOption o (r ≡ []) (λ b. sides_of b ≡ set (sides_of area) (place_of f) r)
    → (p : List ℕ) → length p ≡ 12 → held o p ≡ (sides_have (sides_of area) p && has t (get_or p (place_of f) 0))
kept area f r t None h m p n =
    let l = twelve area in
    let lt = low f in
    emptied (place_of f) (sides_of area) r [] t p (omega arith) (omega arith) h m
kept area f r t (Some b) h m p n =
    let l = twelve area in
    let lt = low f in
    ap (λ ss. sides_have ss p) m ∙ narrowed (place_of f) (sides_of area) r [] t p (omega arith) (omega arith) h

-- each box has a point
pub has_point : (b : PBox) → (p : List ℕ) × (length p ≡ 12) × (sides_have (sides_of b) p ≡ true)
has_point b =
    let l = twelve b in
    let w = point_of (sides_of b) (members (sides_of b) b.filled b.regular) in
    let n = w.1.0 in
    (w.0, omega arith, w.1.1)

pub some_have : (o : Option PBox) → IfSome o (λ b. (p : List ℕ) × (length p ≡ 12) × (sides_have (sides_of b) p ≡ true))
some_have None = _
some_have (Some b) = has_point b

-- a point of a box has each of its values in the field's side
pub in_side : (b : PBox) (f : Field) (p : List ℕ) → length p ≡ 12 → sides_have (sides_of b) p ≡ true → has (get_or (sides_of b) (place_of f) []) (get_or p (place_of f) 0) ≡ true
in_side b f p n h =
    let l = twelve b in
    let lt = low f in
    let x : ℕ = get_or p (place_of f) 0 in
    let both = and_parts (has (get_or (sides_of b) (place_of f) []) x) (others (place_of f) (sides_of b) p) (sym (at_side (place_of f) (sides_of b) p [] 0 (omega arith) (omega arith)) ∙ h) in
    both.0

-- what two sets share, by other names of the sets
pub two : (x y x' y' r : List Iv) → x ≡ x' → y ≡ y' → ((v : ℕ) → has r v ≡ (has x v && has y v)) → (v : ℕ) → has r v ≡ (has x' v && has y' v)
two x y x' y' r e f h v = h v ∙ ap (λ s. has s v && has y v) e ∙ ap (λ s. has x' v && has s v) f

-- one more piece: the points whose value of the field is outside the set
pub piece_more : (bs : List PBox) (area piece : PBox) (f : Field) (r t : List Iv) → sides_of piece ≡ set (sides_of area) (place_of f) r
    → ((v : ℕ) → has r v ≡ (has (get_or (sides_of area) (place_of f) []) v && not (has t v)))
    → (p : List ℕ) → length p ≡ 12 → box_hits (bs ++ piece ∷ []) p ≡ box_hits bs p + one (sides_have (sides_of area) p && not (has t (get_or p (place_of f) 0)))
piece_more bs area piece f r t is h p n =
    let l = twelve area in
    let lt = low f in
    hits_outside bs piece (place_of f) (sides_of area) r [] t p (omega arith) (omega arith) is h

-- no more piece, where there are no such points
pub piece_none : (bs : List PBox) (area : PBox) (f : Field) (r t : List Iv) → r ≡ [] → ((v : ℕ) → has r v ≡ (has (get_or (sides_of area) (place_of f) []) v && not (has t v)))
    → (p : List ℕ) → length p ≡ 12 → box_hits bs p ≡ box_hits bs p + one (sides_have (sides_of area) p && not (has t (get_or p (place_of f) 0)))
piece_none bs area f r t is h p n =
    let l = twelve area in
    let lt = low f in
    hits_none bs (place_of f) (sides_of area) r [] t p (omega arith) (omega arith) is h

-- what is left to cut, one field on
pub cut_next : (left next b : PBox) (f : Field) (k : ℕ) (r : List Iv) → place_of f ≡ k → sides_of next ≡ set (sides_of left) (place_of f) r
    → ((v : ℕ) → has r v ≡ (has (get_or (sides_of left) (place_of f) []) v && has (get_or (sides_of b) (place_of f) []) v))
    → (p : List ℕ) → length p ≡ 12
    → one (sides_have (sides_of left) p && not (has (get_or (sides_of b) (place_of f) []) (get_or p (place_of f) 0)))
    + one (sides_have (sides_of next) p && not (sides_have (drop (k + 1) (sides_of b)) (drop (k + 1) p)))
    ≡ one (sides_have (sides_of left) p && not (sides_have (drop k (sides_of b)) (drop k p)))
cut_next left next b f k r e is h p n =
    let l = twelve left in
    let m = twelve b in
    let lt = low f in
    subst (λ j. one (sides_have (sides_of left) p && not (has (get_or (sides_of b) (place_of f) []) (get_or p (place_of f) 0)))
    + one (sides_have (sides_of next) p && not (sides_have (drop (j + 1) (sides_of b)) (drop (j + 1) p)))
    ≡ one (sides_have (sides_of left) p && not (sides_have (drop j (sides_of b)) (drop j p)))) e
    (ap (λ ss. one (sides_have (sides_of left) p && not (has (get_or (sides_of b) (place_of f) []) (get_or p (place_of f) 0)))
    + one (sides_have ss p && not (sides_have (drop (place_of f + 1) (sides_of b)) (drop (place_of f + 1) p)))) is
    ∙ cut_more (place_of f) (sides_of left) (sides_of b) r [] [] p (omega arith) (omega arith) (omega arith) h)

-- where the boxes share no value of the field, nothing more is cut
pub cut_all : (bs : List PBox) (left b : PBox) (f : Field) (k : ℕ) (r : List Iv) → place_of f ≡ k → r ≡ []
    → ((v : ℕ) → has r v ≡ (has (get_or (sides_of left) (place_of f) []) v && has (get_or (sides_of b) (place_of f) []) v))
    → (p : List ℕ) → length p ≡ 12
    → box_hits (bs ++ left ∷ []) p ≡ box_hits bs p + one (sides_have (sides_of left) p && not (sides_have (drop k (sides_of b)) (drop k p)))
cut_all bs left b f k r e is h p n =
    let l = twelve left in
    let m = twelve b in
    let lt = low f in
    box_hits-push bs left p
    ∙ ap (λ c. box_hits bs p + c) (cut_apart (place_of f) (sides_of left) (sides_of b) r [] p (omega arith) (omega arith) (omega arith) h is)
    ∙ ap (λ j. box_hits bs p + one (sides_have (sides_of left) p && not (sides_have (drop j (sides_of b)) (drop j p)))) e
