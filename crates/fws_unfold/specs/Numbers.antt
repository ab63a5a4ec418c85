-- Chains numbered so that no call leads to a greater number.
use Rattle.std.specs.Prelude.{ℕ, suc, ◌≤◌, Bool, true, ◌&&◌, nat_lt, nat_le, slice_get, unwrap_or, List, [], ◌∷◌, Contains}
use Rattle.std.specs.List.{list_all}
use Rattle.fws_ifcl.specs.declared.diagram.Chain.{Chain}
use Rattle.fws_ifcl.specs.Refusals.{named_in}
use Rattle.fws_unfold.specs.declared.calls.Shape.{Shape}

-- the number of a chain; 0 past the end
abbrev pub number_at : List ℕ → ℕ → ℕ
number_at numbers c = unwrap_or (slice_get numbers c) 0

-- none of the chains has a greater number than this
abbrev pub none_above : List ℕ → ℕ → List ℕ → Bool
none_above numbers top names = list_all (λ c. nat_le (number_at numbers c) top) names

-- each of the chains has a smaller number than this
abbrev pub all_below : List ℕ → ℕ → List ℕ → Bool
all_below numbers top names = list_all (λ c. nat_lt (number_at numbers c) top) names

-- numbers never rise along a call of the chains from c on
abbrev pub never_rise : List ℕ → ℕ → List Shape → Bool
never_rise numbers c [] = true
never_rise numbers c (shape ∷ shapes) = none_above numbers (number_at numbers c) shape.names && never_rise numbers (suc c) shapes

-- numbers never rise along a call
abbrev pub NeverRise : List ℕ → List Chain → Type 0
NeverRise numbers chains = (a b : ℕ) → Contains (named_in chains a) b → number_at numbers b ≤ number_at numbers a
