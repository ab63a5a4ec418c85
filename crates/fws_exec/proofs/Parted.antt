-- Trees of packets that are executed in parts.
use Rattle.std.proofs.Common.{◌≡◌, ℕ, zero, suc, ◌<◌, Bool, true, false, cond, ◌&&◌, not, List, [], ◌∷◌, length, get_or, set, refl, ◌∙◌, ap, arith}
use Rattle.fws_iv.specs.declared.iv.Iv.{Iv}
use Rattle.fws_iv.specs.Ivs.{has}
use Rattle.fws_box.specs.Sides.{sides_have}
use Rattle.fws_net.specs.declared.outcome.Outcome.{Outcome}
use Rattle.fws_net.specs.declared.outcome.Outcome.TheVariants.{Drop, Accept}
use Rattle.fws_exec.specs.Parts.{either}

third_last : (a b c : Bool) → ((a && b) && c) ≡ ((a && c) && b)
third_last true true true = refl
third_last true true false = refl
third_last true false true = refl
third_last true false false = refl
third_last false b c = refl

behind : (a b c : Bool) → (a && (b && c)) ≡ ((a && b) && c)
behind true b c = refl
behind false b c = refl

-- sides of which one keeps those of its members for which a test holds
pub one_side : (ss : List (List Iv)) (k : ℕ) (s e : List Iv) (b : Bool) (p : List ℕ) → k < length ss
    → has s (get_or p k 0) ≡ (has (get_or ss k e) (get_or p k 0) && b)
    → sides_have (set ss k s) p ≡ (sides_have ss p && b)
one_side [] k s e b p lt h = absurd (omega arith)
one_side (t ∷ ss) zero s e b [] lt h = refl
one_side (t ∷ ss) (suc k) s e b [] lt h = refl
one_side (t ∷ ss) zero s e b (x ∷ p) lt h = ap (λ m. m && sides_have ss p) h ∙ third_last (has t x) b (sides_have ss p)
one_side (t ∷ ss) (suc k) s e b (x ∷ p) lt h =
    ap (λ m. has t x && m) (one_side ss k s e b p (omega arith) h) ∙ behind (has t x) (sides_have ss p) b

either_first : (o : Outcome) → either o Drop ≡ o
either_first Drop = refl
either_first (Accept w) = refl

-- what the parts that have a member and those that haven't give is what all give
pub halves_meet : (b c : Bool) (o : Outcome) → either (cond (b && c) o Drop) (cond (b && not c) o Drop) ≡ cond b o Drop
halves_meet true true o = either_first o
halves_meet true false o = refl
halves_meet false c o = refl
