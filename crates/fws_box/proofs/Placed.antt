-- Sides that lie in an arena.
use Rattle.std.proofs.Common.{◌≡◌, ◌≢◌, ℕ, zero, suc, ◌+◌, ◌<◌, ◌≤◌, List, [], ◌∷◌, map, sym, subst, arith, length, get_or, set, Bor}
use Rattle.std.proofs.lemmas.List.{get_or-map, map-set}
use Rattle.std.proofs.lemmas.List.Elements.{All-set}
use Rattle.fws_iv.specs.declared.iv.Iv.{Iv}
use Rattle.fws_iv.specs.Ivs.{IsRegular, IsRegularFrom}
use Rattle.fws_box.specs.Sides.{IsFilled, AreRegular}

-- the sets themselves
abbrev pub seen : List (Bor (List Iv)) → List (List Iv)
seen xs = map (λ s. s.now) xs

-- one set of them
pub seen_at : (xs : List (Bor (List Iv))) (k : ℕ) (d : Bor (List Iv)) (e : List Iv) → k < length xs → get_or (seen xs) k e ≡ (get_or xs k d).now
seen_at xs k d e lt = get_or-map (λ s. s.now) xs k d e lt

pub seen_set : (xs : List (Bor (List Iv))) (k : ℕ) (s : Bor (List Iv)) → seen (set xs k s) ≡ set (seen xs) k s.now
seen_set xs k s = map-set (λ t. t.now) xs k s

pub filled_set : (xs : List (Bor (List Iv))) (k : ℕ) (s : Bor (List Iv)) → s.now ≢ [] → IsFilled (seen xs) → IsFilled (seen (set xs k s))
filled_set xs k s ne all = subst IsFilled (sym (seen_set xs k s)) (All-set (λ t. t ≢ []) (seen xs) k s.now ne all)

pub regular_set : (xs : List (Bor (List Iv))) (k : ℕ) (s : Bor (List Iv)) → IsRegular s.now → AreRegular (seen xs) → AreRegular (seen (set xs k s))
regular_set xs k s r all = subst AreRegular (sym (seen_set xs k s)) (All-set IsRegular (seen xs) k s.now r all)

-- an interval isn't empty
pub ordered_at : (from : ℕ) (s : List Iv) (i : ℕ) (d : Iv) → IsRegularFrom from s → i < length s → (get_or s i d).lo ≤ (get_or s i d).hi
ordered_at from [] i d r lt = absurd (omega arith)
ordered_at from (x ∷ s) zero d r lt = r.1
ordered_at from (x ∷ s) (suc i) d r lt = ordered_at (x.hi + 2) s i d r.2 (omega arith)
