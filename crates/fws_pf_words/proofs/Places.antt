-- The places of names among names.
use Rattle.std.proofs.Common.{◌≡◌, ℕ, suc, ◌+◌, Bool, true, false, not, List, [], ◌∷◌, cond, refl, ◌∙◌, arith}
use Rattle.std.specs.List.{position_or_len}
use Rattle.std.specs.Str.{bytes_eq}
use Rattle.fws_pf.specs.RuleText.{place_of}

by_test : (b : Bool) (m n : ℕ) → m ≡ n → cond (not b) (1 + m) 0 ≡ cond b 0 (suc n)
by_test true m n e = refl
by_test false m n e = omega arith

-- the place of a name is the first at which a test for it passes
pub place_is : (names : List (List ℕ)) (name : List ℕ) → position_or_len (bytes_eq name) names ≡ place_of names name
place_is [] name = refl
place_is (first ∷ names) name = by_test (bytes_eq name first) _ _ (place_is names name)

-- the place that was given to a copied name
pub placed : (stored names : List (List ℕ)) (copied name : List ℕ) (n : ℕ) → stored ≡ names → copied ≡ name →
    n ≡ position_or_len (bytes_eq copied) stored → n ≡ place_of names name
placed stored names copied name n e f h = h ∙ place_is stored copied ∙ (λ i. place_of (e i) (f i))
