-- What stands in a rule's condition for its words.
use Rattle.std.specs.Prelude.{ℕ, Bool, true, false, not, Option, Some, None, option_map, List, [], ◌∷◌}
use Rattle.fws_iv.specs.declared.iv.Iv.{Iv}
use Rattle.fws_net.specs.declared.condition.Lit.{Lit}
use Rattle.fws_net.specs.declared.condition.Test.{Test}
use Rattle.fws_net.specs.declared.condition.Test.TheVariants.{Never, Proto}

-- a test that isn't negated
abbrev pub positive : Test → Lit
positive test = record { not = false; test = test }

-- a test that is negated
abbrev pub negative : Test → Lit
negative test = record { not = true; test = test }

-- one interval
abbrev pub one : ℕ → ℕ → List Iv
one lo hi = record { lo = lo; hi = hi } ∷ []

-- what stands for an option: nothing where it holds of every packet, whose negation never holds
abbrev pub literals : Bool → Option Lit → List Lit
literals false None = []
literals true None = positive Never ∷ []
literals false (Some lit) = lit ∷ []
literals true (Some lit) = record { not = not lit.not; test = lit.test } ∷ []

-- the literal of a protocol; none for every one
abbrev pub protocol_literal : Option ℕ → Option Lit
protocol_literal protocol = option_map (λ n. positive (Proto (one n n))) protocol
