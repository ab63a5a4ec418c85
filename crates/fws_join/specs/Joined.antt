-- Two decisions as one.
use Rattle.std.specs.Prelude.{◌≡◌, ℕ, ◌+◌, ◌<◌, ◌||◌, List, [], ◌∷◌, ◌++◌, take, drop, length}
use Rattle.fws_net.specs.declared.condition.Lit.{Lit}
use Rattle.fws_net.specs.declared.view.View.{View}
use Rattle.fws_net.specs.Conditions.{holds, lit_holds}
use Rattle.fws_join.specs.declared.decision.Decision.{Decision}

-- the literal holds where one of the two does
abbrev pub IsEither : Lit → Lit → Lit → Type 0
IsEither a b lit = (v : View) → lit_holds v lit ≡ (lit_holds v a || lit_holds v b)

-- but for the literal at the place the conditions are equal
pub record DiffersAt (a b : List Lit) (place : ℕ) : Type 0 where
  pub first : place < length a
  pub second : place < length b
  pub ahead : take place a ≡ take place b
  pub behind : drop (place + 1) a ≡ drop (place + 1) b

-- one decision says what both say, where one of their conditions holds
pub record IsForBoth (a b one : Decision) : Type 0 where
  pub passes : one.passes ≡ a.passes
  pub same : b.passes ≡ a.passes
  pub cond : (v : View) → holds one.cond v ≡ (holds a.cond v || holds b.cond v)

-- it does so for the last of some, and for another one
pub record IsForLast (some : List Decision) (other one : Decision) : Type 0 where
  pub ahead : List Decision
  pub last : Decision
  pub are : some ≡ ahead ++ last ∷ []
  pub both : IsForBoth last other one
