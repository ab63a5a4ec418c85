-- Which rules no packet uses.
use Rattle.std.specs.Prelude.{◌≡◌, ℕ, ◌<◌, ◌↔◌, List, Contains}
use Rattle.std.specs.List.Sorted.{IsStrictlyIncreasing}
use Rattle.fws_net.specs.declared.connection.Kind.{Kind}
use Rattle.fws_net.specs.declared.packet.Packet.{Packet}
use Rattle.fws_net.specs.declared.site.Site.{Site}
use Rattle.fws_ifcl.specs.declared.diagram.Ifcl.{Ifcl}
use Rattle.fws_ifcl.specs.declared.diagram.Spot.{Spot}
use Rattle.fws_ifcl.specs.Spots.{told}
use Rattle.fws_ifcl.specs.Uses.{used_places}
use Rattle.fws_dead.specs.Compared.{IsOfSite}

-- the numbers of the rules that packets use, by the rules of a diagram at these spots
abbrev pub used_at : Ifcl → Site → List Spot → Packet → Kind → List ℕ
used_at f site spots p k = told spots (used_places f site p k)

-- no packet of the site, new or established, uses the rule with this number
abbrev pub IsUnused : (Packet → Kind → List ℕ) → Site → ℕ → Type 0
IsUnused used site n = (p : Packet) (k : Kind) → IsOfSite site p k → Contains (used p k) n → ⊥

-- these are the numbers, ascending and each of them once, of those rules that no packet uses, of so many
pub record AreUnused (used : Packet → Kind → List ℕ) (site : Site) (rules : ℕ) (numbers : List ℕ) : Type 0 where
  pub ascending : IsStrictlyIncreasing numbers
  pub are : (n : ℕ) → Contains numbers n ↔ ((n < rules) × IsUnused used site n)

-- each packet of the site, new or established, uses the same rules by both
abbrev pub UseAlike : Site → (Packet → Kind → List ℕ) → (Packet → Kind → List ℕ) → Type 0
UseAlike site used other = (p : Packet) (k : Kind) → IsOfSite site p k → used p k ≡ other p k
