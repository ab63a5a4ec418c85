-- Literals at their places in a condition.
use Rattle.std.specs.Prelude.{ℕ, Bool, false, ◌&&◌, nat_eq, nat_lt, Option, Some, None, List, [], ◌∷◌, if◌then◌else◌}
use Rattle.fws_net.specs.declared.condition.Lit.{Lit}
use Rattle.fws_net.specs.declared.condition.Test.{Test}
use Rattle.fws_net.specs.declared.condition.Test.TheVariants as tests
use Rattle.fws_net.specs.declared.site.Site.{Site}
use Rattle.fws_pf_print.specs.Printable.{place_of, is_printed_literal}

-- a literal that isn't negated
abbrev pub lit_of : Test → Lit
lit_of test = record { not = false; test = test }

-- the packet has this tag
abbrev pub tag_lit : ℕ → Lit
tag_lit n = lit_of (tests.Tag n)

-- the packet has this protocol
abbrev pub proto_lit : ℕ → Lit
proto_lit proto = lit_of (tests.Proto (record { lo = proto; hi = proto } ∷ []))

-- a literal stands before the first one with a later place
abbrev pub inserted : Lit → List Lit → List Lit
inserted lit [] = lit ∷ []
inserted lit (x ∷ xs) = if nat_lt (place_of lit.test) (place_of x.test) then lit ∷ x ∷ xs else x ∷ inserted lit xs

-- a condition with one literal more, if there is one
abbrev pub with_lit : Option Lit → List Lit → List Lit
with_lit None cond = cond
with_lit (Some lit) cond = inserted lit cond

-- a literal with this place that is printed under the protocol
abbrev pub is_printed_at : Site → ℕ → ℕ → Lit → Bool
is_printed_at site protocol n lit = nat_eq (place_of lit.test) n && is_printed_literal site protocol lit
