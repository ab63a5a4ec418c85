-- Tables of a kind that every configuration has, said of their values at points.
use Rattle.std.specs.Prelude.{◌≡◌, ◌≢◌, ℕ, ◌≤◌, ◌<◌, Bool, true, false, ◌||◌, nat_eq, None, Some, List, slice_index, slice_set}
use Rattle.fws_box.specs.Sides.{IsWithin}
use Rattle.fws_net.specs.declared.outcome.Outcome.{Outcome}
use Rattle.fws_net.specs.declared.outcome.Outcome.TheVariants.{Drop, Accept}
use Rattle.fws_net.specs.declared.outcome.Rewrite.{Rewrite}
use Rattle.fws_net.specs.declared.exit.Exit.TheVariants.{Lost}
use Rattle.fws_net.specs.declared.site.Site.{Site}
use Rattle.fws_net.specs.Fates.{has_ports, written_addr}
use Rattle.fws_net.specs.Points.{tops_of}
use Rattle.fws_net.specs.RegularWalks.{WritesNoPort}
use Rattle.fws_net.specs.Routes.{exit_at}
use Rattle.fws_tree.specs.declared.tables.Tables.{Tables}
use Rattle.fws_tree.specs.Plain.{Plain, value}

-- the value at a point stays when the value of a field is changed to another one up to the field's top
abbrev pub IsFreeOf : List ℕ → Plain Outcome → ℕ → List ℕ → Type 0
IsFreeOf tops t f p = (x : ℕ) → x ≤ slice_index tops f → value t (slice_set p f x) ≡ value t p

-- a field that holds a port: of the packet, or of the packet as its connection sends it
abbrev pub is_port : ℕ → Bool
is_port f = nat_eq f 3 || nat_eq f 5 || nat_eq f 9 || nat_eq f 11

-- tables that are regular for a site
pub record AreRegular (site : Site) (tables : Tables) : Type 0 where
  -- both trees have the tops of the site
  pub fresh_tops : tables.fresh.0 ≡ tops_of site
  pub est_tops : tables.est.0 ≡ tops_of site
  -- no value changes with a port at protocols that have none
  pub fresh_ports : (f : ℕ) (p : List ℕ) → is_port f ≡ true → IsWithin (tops_of site) p → has_ports (slice_index p 1) ≡ false → IsFreeOf (tops_of site) tables.fresh.1 f p
  pub est_ports : (f : ℕ) (p : List ℕ) → is_port f ≡ true → IsWithin (tops_of site) p → has_ports (slice_index p 1) ≡ false → IsFreeOf (tops_of site) tables.est.1 f p
  -- nor with flags at protocols other than TCP
  pub fresh_flags : (p : List ℕ) → IsWithin (tops_of site) p → slice_index p 1 ≢ 6 → IsFreeOf (tops_of site) tables.fresh.1 6 p
  pub est_flags : (p : List ℕ) → IsWithin (tops_of site) p → slice_index p 1 ≢ 6 → IsFreeOf (tops_of site) tables.est.1 6 p
  -- nor with the ICMP type at protocols other than ICMP
  pub fresh_icmp : (p : List ℕ) → IsWithin (tops_of site) p → slice_index p 1 ≢ 1 → IsFreeOf (tops_of site) tables.fresh.1 7 p
  pub est_icmp : (p : List ℕ) → IsWithin (tops_of site) p → slice_index p 1 ≢ 1 → IsFreeOf (tops_of site) tables.est.1 7 p
  -- what becomes of new packets doesn't change with the last four fields
  pub fresh_alone : (f : ℕ) (p : List ℕ) → 8 ≤ f → f < 12 → IsWithin (tops_of site) p → IsFreeOf (tops_of site) tables.fresh.1 f p
  -- a port is written at protocols that have one alone
  pub fresh_written : (p : List ℕ) (w : Rewrite) → IsWithin (tops_of site) p → value tables.fresh.1 p ≡ Some (Accept w) → has_ports (slice_index p 1) ≡ false → WritesNoPort w
  -- an established packet that is accepted isn't rewritten
  pub est_unwritten : (p : List ℕ) (w : Rewrite) → IsWithin (tops_of site) p → value tables.est.1 p ≡ Some (Accept w) → (w.src ≡ None) × (w.dst ≡ None)
  -- a new packet that is accepted leaves: the exit by its entry and by the destination that it ends with isn't lost
  pub fresh_leaves : (p : List ℕ) (w : Rewrite) → IsWithin (tops_of site) p → value tables.fresh.1 p ≡ Some (Accept w) → exit_at site (slice_index p 0) (written_addr w.dst (slice_index p 2)) ≢ Lost
  -- where the exit by the entry and by the destination of the connection is lost, established packets are dropped
  pub est_lost : (p : List ℕ) → IsWithin (tops_of site) p → exit_at site (slice_index p 0) (slice_index p 8) ≡ Lost → value tables.est.1 p ≡ Some Drop
