-- The packets that a list permits, and those that it has to deny.
use Rattle.std.specs.Prelude.{◌≡◌, ◌↔◌, ℕ, Bool, true, nat_eq, nat_lt, Some, List, ◌++◌, length, position, unwrap_or, Contains, if◌then◌else◌}
use Rattle.std.specs.Option.{option_map_or}
use Rattle.fws_box.specs.Sides.{IsWithin}
use Rattle.fws_net.specs.declared.outcome.End.{End}
use Rattle.fws_net.specs.declared.outcome.Outcome.{Outcome}
use Rattle.fws_net.specs.declared.outcome.Outcome.TheVariants.{Accept}
use Rattle.fws_net.specs.declared.outcome.Rewrite.{Rewrite}
use Rattle.fws_place.specs.Rewritings.{is_accepted_with}
use Rattle.fws_tree.specs.Changed.{Agree}
use Rattle.fws_tree.specs.Plain.{Plain, value}

-- the place of the list that gives an address, by the addresses of lists
abbrev pub place_in : List ℕ → ℕ → ℕ
place_in addrs addr = unwrap_or (position (nat_eq addr) addrs) (length addrs)

-- the place of the list that gives the source; where none is written it is behind all lists
abbrev pub place_of : List ℕ → Rewrite → ℕ
place_of addrs w = option_map_or (λ e. place_in addrs e.addr) w.src (length addrs)

-- a place is this one, or it is behind it
abbrev pub is_at : Bool → ℕ → ℕ → Bool
is_at later place n = if later then nat_lt place n else nat_eq place n

-- the packet is accepted, and its source given at this place or behind it
abbrev pub is_picked : List ℕ → ℕ → Bool → Outcome → Bool
is_picked addrs place later o = is_accepted_with (λ w. is_at later place (place_of addrs w)) o

-- some point that differs in the entry and the flags alone is such
pub record IsPickedNear (tops : List ℕ) (t : Plain Outcome) (addrs : List ℕ) (place : ℕ) (later : Bool) (x : List ℕ) : Type 0 where
  pub point : List ℕ
  pub within : IsWithin tops point
  pub near : Agree 65 x point
  pub rewriting : Rewrite
  pub accepted : value t point ≡ Some (Accept rewriting)
  pub at : is_at later place (place_of addrs rewriting) ≡ true

-- the tree tells of each point whether it is so
abbrev pub IsPick : List ℕ → Plain Outcome → List ℕ → ℕ → Bool → Plain Bool → Type 0
IsPick tops t addrs place later u =
    (x : List ℕ) → IsWithin tops x → (b : Bool) × (value u x ≡ Some b) × ((b ≡ true) ↔ IsPickedNear tops t addrs place later x)

-- the tree is true at all points of which the source is given at this place or behind it
abbrev pub HasPicked : List ℕ → Plain Outcome → List ℕ → ℕ → Bool → Plain Bool → Type 0
HasPicked tops t addrs place later u =
    (x : List ℕ) (w : Rewrite) → IsWithin tops x → value t x ≡ Some (Accept w) → is_at later place (place_of addrs w) ≡ true → value u x ≡ Some true

-- the source that an outcome writes is among the addresses, if it writes one
abbrev pub HasSource : List ℕ → Outcome → Type 0
HasSource addrs o = (w : Rewrite) (e : End) → o ≡ Accept w → w.src ≡ Some e → Contains addrs e.addr

-- each source that the tree gives is
abbrev pub HasSources : List ℕ → Plain Outcome → Type 0
HasSources addrs t = (x : List ℕ) (o : Outcome) → value t x ≡ Some o → HasSource addrs o

-- more behind
abbrev pub Extends : List ℕ → List ℕ → Type 0
Extends old new = (more : List ℕ) × (new ≡ old ++ more)
