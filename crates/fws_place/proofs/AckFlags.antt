-- The flags with ACK or RST.
use Rattle.std.proofs.Common.{◌≡◌, ◌⊎◌, ℕ, zero, suc, ◌+◌, ◌<◌, ◌≤◌, Bool, true, ◌&&◌, not, List, [], ◌∷◌, inl, inr, refl, sym, ◌∙◌, ap, arith}
use Rattle.std.proofs.lemmas.Bool.{and_parts, and_from, le-leb, or_left}
use Rattle.std.proofs.Math.Bool.{beq}
use Rattle.std.specs.Prelude.{nat_le}
use Rattle.std.specs.List.{list_all, range_with_len}
use Rattle.fws_iv.specs.declared.iv.Iv.{Iv}
use Rattle.fws_iv.specs.Ivs.{has}
use Rattle.fws_tree.specs.LeafEquality.{bool_exact}
use Rattle.fws_place.specs.ByAck.{acknowledges}

-- a test that all numbers of a range pass
at_number : (p : ℕ → Bool) (a n m : ℕ) → list_all p (range_with_len a n) ≡ true → a ≤ m → m < a + n → p m ≡ true
at_number p a zero m h low high = absurd (omega arith)
at_number p a (suc n) m h low high =
    let parts = and_parts (p a) (list_all p (range_with_len (a + 1) n)) h in
    by (order a m low) parts.0 (λ lt. at_number p (a + 1) n m parts.1 (omega arith) (omega arith))
  where
    order : (x y : ℕ) → x ≤ y → (x ≡ y) ⊎ (x < y)
    order zero zero le = inl refl
    order zero (suc y) le = inr (omega arith)
    order (suc x) zero le = absurd (omega arith)
    order (suc x) (suc y) le = later (order x y (omega arith))
      where
        later : (x ≡ y) ⊎ (x < y) → (suc x ≡ suc y) ⊎ (suc x < suc y)
        later (inl e) = inl (ap suc e)
        later (inr lt) = inr (omega arith)

    by : (a ≡ m) ⊎ (a < m) → p a ≡ true → (a < m → p m ≡ true) → p m ≡ true
    by (inl e) here further = ap p (sym e) ∙ here
    by (inr lt) here further = further lt

-- the flags with ACK or RST
abbrev pub acks : List Iv
acks = record { lo = 4; hi = 7 } ∷ record { lo = 12; hi = 31 } ∷ record { lo = 36; hi = 39 } ∷ record { lo = 44; hi = 63 } ∷ []

abbrev is_right : ℕ → Bool
is_right v = beq (has acks v) (acknowledges v)

all_right : list_all is_right (range_with_len 0 64) ≡ true
all_right = refl

pub acks_are : (v : ℕ) → v ≤ 63 → has acks v ≡ acknowledges v
acks_are v le = bool_exact (has acks v) (acknowledges v) (at_number is_right 0 64 v all_right (omega arith) (omega arith))

-- and the others
pub others_are : (all with s : List Iv) (v : ℕ) → all ≡ record { lo = 0; hi = 63 } ∷ [] → has with v ≡ acknowledges v → has s v ≡ (has all v && not (has with v)) → v ≤ 63 → has s v ≡ not (acknowledges v)
others_are all with s v whole is minus le =
    minus ∙ ap (λ t. has t v && not (has with v)) whole ∙ ap (λ b. b && not (has with v)) inside ∙ ap not is
  where
    inside : has (record { lo = 0; hi = 63 } ∷ []) v ≡ true
    inside = or_left _ _ (and_from (nat_le 0 v) (nat_le v 63) (le-leb 0 v (omega arith)) (le-leb v 63 le))
