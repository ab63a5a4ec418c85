-- Texts that are divided and joined.
use Rattle.std.proofs.Common.{◌≡◌, ℕ, ◌<◌, Bool, true, false, cond, not, nat_eq, Some, List, [], ◌∷◌, ◌++◌, length, append_assoc, refl, ap, sym, ◌∙◌, arith, eqb-true}
use Rattle.std.proofs.lemmas.Bool.Decides.{nat_tests}
use Rattle.std.proofs.lemmas.List.{append-nil}
use Rattle.std.proofs.lemmas.List.Folds.{list_all-append}
use Rattle.std.specs.List.{list_all, join_with_byte}
use Rattle.fws_num.specs.Numbers.{lacks, split_once}
use Rattle.fws_num.specs.Pieces.{pieces_from, pieces_of}
use Rattle.fws_num.proofs.Decimals.{both}
use Rattle.fws_num.proofs.Splitting.{split_once-shorter}
use Rattle.fws_num.proofs.Quads.{split-joined}

-- what each of a list has that implies another
pub all_weaker : {A : Type 0} (p q : A → Bool) → ((x : A) → p x ≡ true → q x ≡ true) → (xs : List A) → list_all p xs ≡ true → list_all q xs ≡ true
all_weaker p q f [] h = refl
all_weaker p q f (x ∷ xs) h =
    let parts = both (p x) (list_all p xs) h in
    rw (f x parts.0, all_weaker p q f xs parts.1) refl

pub not-true : (b : Bool) → not b ≡ true → b ≡ false
not-true true h = cc
not-true false h = refl

pub lacks-append : (byte : ℕ) (xs ys : List ℕ) → lacks byte xs ≡ true → lacks byte ys ≡ true → lacks byte (xs ++ ys) ≡ true
lacks-append byte xs ys h k = list_all-append (λ c. not (nat_eq c byte)) xs ys ∙ rw (h, k) refl

nat_eq-same : (n : ℕ) → nat_eq n n ≡ true
nat_eq-same n = grind (arith, nat_tests)

pub splits_back : (byte : ℕ) (front behind : List ℕ) → lacks byte front ≡ true → split_once byte (front ++ byte ∷ behind) ≡ Some (front, behind)
splits_back byte [] behind h = rw (nat_eq-same byte) refl
splits_back byte (c ∷ cs) behind h =
    let parts = both (not (nat_eq c byte)) (lacks byte cs) h in
    rw (not-true (nat_eq c byte) parts.0, splits_back byte cs behind parts.1) refl

pub behind_shorter : (byte : ℕ) (text front behind : List ℕ) → split_once byte text ≡ Some (front, behind) → (length behind < length text) × (text ≡ front ++ byte ∷ behind)
behind_shorter byte text front behind h = (split_once-shorter byte text front behind h, split-joined byte text (front, behind) h)

-- a piece ahead of others
join-cons : (byte : ℕ) (p : List ℕ) (ps : List (List ℕ)) → 0 < length ps → join_with_byte byte (p ∷ ps) ≡ p ++ byte ∷ join_with_byte byte ps
join-cons byte p [] h = absurd (omega arith)
join-cons byte p (q ∷ qs) h = refl

longer : {A : Type 0} (b : Bool) (x : A) (xs ys : List A) → 0 < length ys → 0 < length (cond b (x ∷ xs) ys)
longer true x xs ys h = omega arith
longer false x xs ys h = h

some_pieces : (byte : ℕ) (piece text : List ℕ) → 0 < length (pieces_from byte piece text)
some_pieces byte piece [] = omega arith
some_pieces byte piece (c ∷ cs) = longer (nat_eq c byte) piece (pieces_from byte [] cs) (pieces_from byte (piece ++ c ∷ []) cs) (some_pieces byte (piece ++ c ∷ []) cs)

join-step : (b : Bool) (byte c : ℕ) (piece cs : List ℕ) → (b ≡ true → c ≡ byte)
    → join_with_byte byte (pieces_from byte [] cs) ≡ cs → join_with_byte byte (pieces_from byte (piece ++ c ∷ []) cs) ≡ (piece ++ c ∷ []) ++ cs
    → join_with_byte byte (cond b (piece ∷ pieces_from byte [] cs) (pieces_from byte (piece ++ c ∷ []) cs)) ≡ piece ++ c ∷ cs
join-step true byte c piece cs e h k = join-cons byte piece (pieces_from byte [] cs) (some_pieces byte [] cs) ∙ rw (h, e refl) refl
join-step false byte c piece cs e h k = k ∙ append_assoc piece (c ∷ []) cs

pub joined : (byte : ℕ) (piece text : List ℕ) → join_with_byte byte (pieces_from byte piece text) ≡ piece ++ text
joined byte piece [] = sym (append-nil piece)
joined byte piece (c ∷ cs) = join-step (nat_eq c byte) byte c piece cs (eqb-true c byte) (joined byte [] cs) (joined byte (piece ++ c ∷ []) cs)

lacking-step : (b : Bool) (byte c : ℕ) (piece cs : List ℕ) → nat_eq c byte ≡ b → lacks byte piece ≡ true → list_all (lacks byte) (pieces_from byte [] cs) ≡ true
    → (lacks byte (piece ++ c ∷ []) ≡ true → list_all (lacks byte) (pieces_from byte (piece ++ c ∷ []) cs) ≡ true)
    → list_all (lacks byte) (cond b (piece ∷ pieces_from byte [] cs) (pieces_from byte (piece ++ c ∷ []) cs)) ≡ true
lacking-step true byte c piece cs e h k f = rw (h, k) refl
lacking-step false byte c piece cs e h k f = f (lacks-append byte piece (c ∷ []) h (rw e refl))

pub lacking : (byte : ℕ) (piece text : List ℕ) → lacks byte piece ≡ true → list_all (lacks byte) (pieces_from byte piece text) ≡ true
lacking byte piece [] h = rw h refl
lacking byte piece (c ∷ cs) h = lacking-step (nat_eq c byte) byte c piece cs refl h (lacking byte [] cs refl) (lacking byte (piece ++ c ∷ []) cs)

-- a front that lacks the byte belongs to the piece
pieces-front : (byte : ℕ) (piece front rest : List ℕ) → lacks byte front ≡ true → pieces_from byte piece (front ++ rest) ≡ pieces_from byte (piece ++ front) rest
pieces-front byte piece [] rest h = ap (λ p. pieces_from byte p rest) (sym (append-nil piece))
pieces-front byte piece (c ∷ cs) rest h =
    let parts = both (not (nat_eq c byte)) (lacks byte cs) h in
    rw (not-true (nat_eq c byte) parts.0) (pieces-front byte (piece ++ c ∷ []) cs rest parts.1 ∙ ap (λ p. pieces_from byte p rest) (append_assoc piece (c ∷ []) cs))

pub divided : (byte : ℕ) (p : List ℕ) (ps : List (List ℕ)) → list_all (lacks byte) (p ∷ ps) ≡ true → pieces_of byte (join_with_byte byte (p ∷ ps)) ≡ p ∷ ps
divided byte p [] h =
    let parts = both (lacks byte p) true h in
    ap (pieces_of byte) (sym (append-nil p)) ∙ pieces-front byte [] p [] parts.0
divided byte p (q ∷ qs) h =
    let parts = both (lacks byte p) (list_all (lacks byte) (q ∷ qs)) h in
    pieces-front byte [] p (byte ∷ join_with_byte byte (q ∷ qs)) parts.0 ∙ rw (nat_eq-same byte) (ap (λ l. p ∷ l) (divided byte q qs parts.1))
