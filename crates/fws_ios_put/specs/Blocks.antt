-- The blocks of a list for packets that come in, by what they do with whatever follows them.
use Rattle.std.specs.Prelude.{◌≡◌, ℕ, Bool, true, false, ◌&&◌, not, List, ◌++◌, if◌then◌else◌}
use Rattle.std.specs.List.{list_all}
use Rattle.fws_box.specs.Sides.{IsWithin}
use Rattle.fws_net.specs.declared.connection.Kind.{Kind}
use Rattle.fws_net.specs.declared.site.Site.{Site}
use Rattle.fws_net.specs.declared.transit.Transit.{Transit}
use Rattle.fws_net.specs.Connections.{is_est}
use Rattle.fws_net.specs.Points.{tops_of}
use Rattle.fws_ios.specs.declared.config.IosEntry.{IosEntry}
use Rattle.fws_ios.specs.Walk.{permits}
use Rattle.fws_ios_put_entries.specs.Entries.{acknowledges}
use Rattle.fws_ios_put_entries.specs.Seen.{IsSeenAt}
use Rattle.fws_ios_print.specs.Printable.{has_entries, is_printed_entry}
use Rattle.fws_ios_put.specs.declared.choices.Choices.{Choices}
use Rattle.fws_ios_put.specs.Choices.{IsAskedAt, is_tcp, said_at, truth}
use Rattle.fws_ios_put.specs.Placed.{keeps_state}

-- entries that are printed and keep state
pub record AreWellFormed (block : List IosEntry) : Type 0 where
  pub printed : list_all is_printed_entry block ≡ true
  pub keeps : list_all keeps_state block ≡ true

-- a block for packets of TCP with ACK or RST: it holds for none but such packets that are within, and for all of them that aren't excused
pub record Marks (flagged tcp within excused holds : Bool) : Type 0 where
  pub marked : holds ≡ true → flagged ≡ true
  pub sound : holds ≡ true → within ≡ true
  pub whole : flagged ≡ true → tcp ≡ true → (within && not excused) ≡ true → holds ≡ true

-- a packet is seen as a point of the site
pub record IsSeen (site : Site) (m : Transit) (x : List ℕ) : Type 0 where
  pub within : IsWithin (tops_of site) x
  pub seen : IsSeenAt m.packet x

-- packets for which the block holds get this, others what follows
abbrev pub Gives : Site → Kind → Transit → Bool → List IosEntry → Bool → Type 0
Gives site k m permit block holds =
    (rest : List IosEntry) → permits site k false (block ++ rest) m ≡ (if holds then permit else permits site k false rest m)

-- a block that permits packets of TCP with ACK or RST or denies them
pub record IsMarkedBlock (site : Site) (permit : Bool) (within excused : List ℕ → Bool) (block : List IosEntry) : Type 0 where
  pub formed : AreWellFormed block
  pub decides : (k : Kind) (m : Transit) (x : List ℕ) → IsSeen site m x
      → (h : Bool) × Gives site k m permit block h × Marks (acknowledges m.packet) (is_tcp x) (within x) (excused x) h

-- a block that denies just the packets for which it is asked
pub record IsDeniedBlock (site : Site) (asked : List ℕ → Bool) (block : List IosEntry) : Type 0 where
  pub formed : AreWellFormed block
  pub decides : (k : Kind) (m : Transit) (x : List ℕ) → IsSeen site m x → Gives site k m false block (asked x)

-- what is said behind the entry for packets of connections, by a block that permits some more with ACK or RST and one that denies some
abbrev pub said_behind : Bool → Bool → Bool → Bool
said_behind added taken fresh = if added then true else if taken then false else fresh

-- what is said ahead of it, by blocks for packets of TCP that are permitted with ACK or RST alone, for all packets that are denied
-- without, and for those of TCP that are denied with ACK or RST
abbrev pub said_ahead : Bool → Bool → Bool → Bool → Bool
said_ahead first second third rest = if first then true else if second then false else if third then false else rest

-- what is known of the two blocks behind the entry for packets of connections
pub record AreBehind (c : Choices) (m : Transit) (x : List ℕ) (added taken : Bool) : Type 0 where
  pub adds : Marks (acknowledges m.packet) (is_tcp x) (truth c.acked_fresh.1 x) (truth c.fresh.1 x) added
  pub takes : Marks (acknowledges m.packet) (is_tcp x) (not (truth c.acked_fresh.1 x)) (not (truth c.fresh.1 x)) taken

-- the end of a list: new packets
pub record IsBack (site : Site) (c : Choices) (block : List IosEntry) : Type 0 where
  pub there : has_entries block ≡ true
  pub formed : AreWellFormed block
  pub decides : (k : Kind) (m : Transit) (x : List ℕ) → IsSeen site m x
      → (added : Bool) × (taken : Bool) × (permits site k false block m ≡ said_behind added taken (truth c.fresh.1 x)) × AreBehind c m x added taken

-- what is known of the blocks ahead of it
pub record AreAhead (c : Choices) (m : Transit) (x : List ℕ) (first third : Bool) : Type 0 where
  pub begins : Marks (acknowledges m.packet) (is_tcp x) (truth c.acked_fresh.1 x) (truth c.known.1 x) first
  pub ends : Marks (acknowledges m.packet) (is_tcp x) (not (truth c.acked_known.1 x)) (not (truth c.known.1 x)) third

-- the beginning of a list: packets that have to be told apart ahead of the entry for packets of connections
pub record IsAhead (site : Site) (c : Choices) (block : List IosEntry) : Type 0 where
  pub formed : AreWellFormed block
  pub decides : (k : Kind) (m : Transit) (x : List ℕ) → IsSeen site m x
      → (first : Bool) × (third : Bool) × ((rest : List IosEntry) → permits site k false (block ++ rest) m
      ≡ said_ahead first (not (truth c.known.1 x)) third (permits site k false rest m)) × AreAhead c m x first third

-- all that stands ahead of the end of a list: with that end it says of each packet what it should
pub record IsFront (site : Site) (c : Choices) (block : List IosEntry) : Type 0 where
  pub formed : AreWellFormed block
  pub decides : (k : Kind) (m : Transit) (x : List ℕ) (rest : List IosEntry) (added taken : Bool) → IsSeen site m x → IsAskedAt c m.packet x
      → permits site k false rest m ≡ said_behind added taken (truth c.fresh.1 x) → AreBehind c m x added taken
      → permits site k false (block ++ rest) m ≡ said_at c (is_est k) m.packet x

-- a list that says of each packet what it should
pub record IsListOf (site : Site) (c : Choices) (block : List IosEntry) : Type 0 where
  pub there : has_entries block ≡ true
  pub formed : AreWellFormed block
  pub decides : (k : Kind) (m : Transit) (x : List ℕ) → IsSeen site m x → IsAskedAt c m.packet x
      → permits site k false block m ≡ said_at c (is_est k) m.packet x
