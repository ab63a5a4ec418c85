-- What is known of the packets of a site whose tables fit, by the trees that tell what rules see.
use Rattle.std.specs.Prelude.{◌≡◌, Bool, false, true, ◌&&◌, ◌||◌, not, Some, if◌then◌else◌}
use Rattle.fws_net.specs.declared.connection.Rec.{Rec}
use Rattle.fws_net.specs.declared.outcome.Outcome.TheVariants.{Drop, Accept}
use Rattle.fws_net.specs.declared.packet.Packet.{Packet}
use Rattle.fws_net.specs.declared.site.Site.{Site}
use Rattle.fws_net.specs.Points.{tops_of}
use Rattle.fws_net.specs.Routes.{is_local}
use Rattle.fws_net.specs.Transits.{nothing_written, with_rec_dst}
use Rattle.fws_place.specs.Meaning.{IsPairOf, est_of, new_of, point_of}
use Rattle.fws_place.specs.Pairs.{IsLost, is_host, with_destination}
use Rattle.fws_tree_seen.specs.declared.seen.Seen.TheVariants.{Entered, Routed}
use Rattle.fws_tree_seen.specs.Shown.{IsSeenAs, IsTold}
use Rattle.fws_tree.specs.declared.tables.Tables.{Tables}
use Rattle.fws_tree.specs.Plain.{Plain, value}

-- the pair arrives for the host itself
abbrev pub stays : Site → Packet → Rec → Bool
stays site p r = not (is_host p) && is_local site r.rdst

pub record Known (site : Site) (tables : Tables) (packet behind : Plain Bool) : Type 0 where
  -- rules can tell what the trees hold
  pub fresh_told : IsTold Entered (tops_of site) tables.fresh.1
  pub packet_told : IsTold Entered (tops_of site) packet
  pub behind_told : IsTold Routed (tops_of site) behind
  -- and see packets as their points
  pub entered : (p : Packet) (r : Rec) → IsSeenAs Entered p (point_of p r)
  pub routed : (p : Packet) (r : Rec) → IsSeenAs Routed (with_rec_dst r p) (point_of p r)
  -- each pair has a value
  pub packet_value : (p : Packet) (r : Rec) → IsPairOf site p r → (b : Bool) × (value packet (point_of p r) ≡ Some b)
  pub behind_value : (p : Packet) (r : Rec) → IsPairOf site p r → (b : Bool) × (value behind (point_of p r) ≡ Some b)
  -- both values tell the outcome of a pair
  pub told : (p : Packet) (r : Rec) (b c : Bool) → IsPairOf site p r → (IsLost site p r → ⊥)
      → value packet (point_of p r) ≡ Some b → value behind (point_of p r) ≡ Some c
      → est_of tables p r ≡ (if (is_host p || b) && (stays site p r || c) then Accept nothing_written else Drop)
  pub lost : (p : Packet) (r : Rec) → IsPairOf site p r → IsLost site p r → est_of tables p r ≡ Drop
  -- new packets that look like pairs which are dropped ahead of the look-up are dropped
  pub arrivals : (p : Packet) (r : Rec) → IsPairOf site p r → is_host p ≡ false → value packet (point_of p r) ≡ Some false → new_of tables p ≡ Drop
  pub own : (p : Packet) (r : Rec) → IsPairOf site p r → is_host p ≡ true → value behind (point_of p r) ≡ Some false
      → new_of tables (with_destination r p) ≡ Drop
