-- Literals at their places in a condition.
use Rattle.std.specs.Prelude.{ℕ, Bool, true, not, ◌&&◌, nat_eq, nat_lt, Option, Some, None, List, [], ◌∷◌, if◌then◌else◌}
use Rattle.std.specs.List.{list_any}
use Rattle.std.specs.Option.{option_map_or}
use Rattle.fws_net.specs.declared.condition.Lit.{Lit}
use Rattle.fws_net.specs.declared.condition.Test.TheVariants as tests
use Rattle.fws_net.specs.declared.site.Site.{Site}
use Rattle.fws_net.specs.declared.view.View.{View}
use Rattle.fws_net.specs.Conditions.{lit_holds}
use Rattle.fws_ipfw_print.specs.Printable.{place_of, is_printed_literal}

-- a literal stands before the first one with a later place
abbrev pub inserted : Lit → List Lit → List Lit
inserted lit [] = lit ∷ []
inserted lit (x ∷ xs) = if nat_lt (place_of lit.test) (place_of x.test) then lit ∷ x ∷ xs else x ∷ inserted lit xs

-- a condition with one literal more, if there is one
abbrev pub with_lit : Option Lit → List Lit → List Lit
with_lit None cond = cond
with_lit (Some lit) cond = inserted lit cond

-- it holds, or there is none
abbrev pub holds_or_none : View → Option Lit → Bool
holds_or_none v lit = option_map_or (lit_holds v) lit true

-- some literal has the place
abbrev pub has_place : ℕ → List Lit → Bool
has_place n cond = list_any (λ lit. nat_eq (place_of lit.test) n) cond

-- a literal with this place that is printed
abbrev pub is_printed_at : Site → ℕ → Lit → Bool
is_printed_at site n lit = nat_eq (place_of lit.test) n && is_printed_literal site lit

-- the packet leaves, or doesn't
abbrev pub direction : Bool → Lit
direction outward = record { not = not outward; test = tests.Outward }
