-- Which places of a diagram are used: those for which an instruction stands that is reached.
use Rattle.std.specs.Prelude.{◌≡◌, ◌⊎◌, ℕ, Bool, true, false, ◌&&◌, ◌||◌, nat_eq, List, [], ◌∷◌, Option}
use Rattle.std.specs.List.{list_any}
use Rattle.fws_box.specs.Sides.{IsWithin}
use Rattle.fws_net.specs.declared.connection.Kind.{Kind}
use Rattle.fws_net.specs.declared.packet.Packet.{Packet}
use Rattle.fws_net.specs.declared.packet.State.{State}
use Rattle.fws_net.specs.declared.site.Site.{Site}
use Rattle.fws_net.specs.Points.{packet_of, tops_of}
use Rattle.fws_exec.specs.Classes.{kind_of}
use Rattle.fws_flat.specs.declared.code.Flat.{Flat}
use Rattle.fws_flat.specs.Uses.{used_places}
use Rattle.fws_ifcl.specs.declared.diagram.Place.{Place}
use Rattle.fws_ifcl.specs.declared.diagram.Spot.{Spot}
use Rattle.fws_ifcl.specs.Uses.{is_place}
use Rattle.fws_unfold.specs.Told.{told}
use Rattle.fws_unfold.specs.Used.{stands_for}
use Rattle.fws_dead.specs.declared.used.PlaceKey.{PlaceKey}
use Rattle.fws_dead.specs.Compared.{IsOfSite}

-- a place as the key of a set
abbrev pub key_of : Place → PlaceKey
key_of at = record { chain = at.chain; rule = at.rule }

abbrev pub key_eq : PlaceKey → PlaceKey → Bool
key_eq a b = nat_eq a.chain b.chain && nat_eq a.rule b.rule

-- an instruction stands for the rule at the place
abbrev pub stands_at : Option Place → Place → Bool
stands_at rule at = list_any (λ place. is_place place at) (stands_for rule)

-- of instructions, with whether they are reached and what they stand for, one that is reached stands for the rule at the place
abbrev pub any_reached : List Bool → List (Option Place) → Place → Bool
any_reached [] places at = false
any_reached (reached ∷ answers) [] at = false
any_reached (reached ∷ answers) (rule ∷ places) at = (reached && stands_at rule at) || any_reached answers places at

-- a packet of a class uses the rule at a place, by the instructions that stand for it
abbrev pub uses_by : Flat → List (Option Place) → Site → Packet → Kind → Place → Bool
uses_by f places site p k at = list_any (is_place at) (told places (used_places f site p k))

-- besides the old places there are now those that packets of a kind use
pub record AreAdded (f : Flat) (places : List (Option Place)) (site : Site) (state : State) (old new : Place → Bool) : Type 0 where
  pub kept : (at : Place) → old at ≡ true → new at ≡ true
  pub added : (at : Place) (p : List ℕ) → IsWithin (tops_of site) p → uses_by f places site (packet_of p) (kind_of state p) at ≡ true → new at ≡ true
  pub found : (at : Place) → new at ≡ true
      → (old at ≡ true) ⊎ ((p : List ℕ) × IsWithin (tops_of site) p × (uses_by f places site (packet_of p) (kind_of state p) at ≡ true))

-- a packet of the site and its class
abbrev pub Case : Site → Type 0
Case site = (p : Packet) × (k : Kind) × IsOfSite site p k

-- a place is one of these exactly where a packet of the site uses the rule there
pub record AreUsed (f : Flat) (places : List (Option Place)) (site : Site) (has : Place → Bool) : Type 0 where
  pub all : (c : Case site) (at : Place) → uses_by f places site c.0 c.1 at ≡ true → has at ≡ true
  pub found : (at : Place) → has at ≡ true → (c : Case site) × (uses_by f places site c.0 c.1 at ≡ true)

-- a spot of the rule with this number is one of the places
abbrev pub has_spot : (Place → Bool) → List Spot → ℕ → Bool
has_spot has spots n = list_any (λ spot. nat_eq n spot.rule && has spot.at) spots
