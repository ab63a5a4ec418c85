-- Entries that cover a set of packets within another.
use Rattle.std.specs.Prelude.{◌≡◌, ℕ, Bool, true, ◌&&◌, ◌||◌, not, Some, List, All}
use Rattle.std.specs.List.{list_all, list_any}
use Rattle.std.proofs.Math.Bool.{beq}
use Rattle.fws_box.specs.Sides.{IsWithin}
use Rattle.fws_box.specs.declared.field.Field.TheVariants as fields
use Rattle.fws_net.specs.declared.packet.Packet.{Packet}
use Rattle.fws_net.specs.declared.site.Site.{Site}
use Rattle.fws_net.specs.declared.view.View.{View}
use Rattle.fws_net.specs.Conditions.{holds}
use Rattle.fws_net.specs.Points.{tops_of}
use Rattle.fws_tree.specs.Plain.{Plain, value}
use Rattle.fws_ios.specs.declared.config.IosEntry.{IosEntry}
use Rattle.fws_ios_print.specs.Printable.{is_printed_entry, is_state}
use Rattle.fws_ios_put_entries.specs.declared.act.Act.{Act}
use Rattle.fws_ios_put_entries.specs.declared.path.Path.{Path}
use Rattle.fws_ios_put_entries.specs.Entries.{acknowledges}
use Rattle.fws_ios_put_entries.specs.Paths.{some_path_has}
use Rattle.fws_ios_put_entries.specs.Seen.{IsSeenAt}
use Rattle.fws_ios_put_cover.specs.Steps.{IsUsable}
use Rattle.fws_box.specs.Fields.{value_of}

-- the entry does what the act says
abbrev pub does : Act → IosEntry → Bool
does act e = beq e.permit act.permit && beq e.reflect act.reflect

-- entries that do this with the packets on the paths
pub record AreEntriesOf (act : Act) (paths : List Path) (block : List IosEntry) : Type 0 where
  pub printed : list_all is_printed_entry block ≡ true
  pub acts : list_all (does act) block ≡ true
  pub classless : list_all (λ e. not (is_state e.cond)) block ≡ true
  pub same : (v : View) → list_any (λ e. holds e.cond v) block ≡ (some_path_has paths v.packet && (not act.established || acknowledges v.packet))

-- paths that have the packets of the first set, and none outside the second one
pub record ArePathsOver (site : Site) (established : Bool) (needed within : Plain Bool) (paths : List Path) : Type 0 where
  pub usable : All (IsUsable established) paths
  pub sound : (p : Packet) (x : List ℕ) → IsWithin (tops_of site) x → IsSeenAt p x → some_path_has paths p ≡ true → value within x ≡ Some true
  pub whole : (p : Packet) (x : List ℕ) → IsWithin (tops_of site) x → IsSeenAt p x → value needed x ≡ Some true → some_path_has paths p ≡ true

-- entries of which one holds of each packet of the first set, and none of a packet outside the second one; where `established` is
-- asked, of those with ACK or RST, and of no other
pub record IsCover (site : Site) (act : Act) (needed within : Plain Bool) (block : List IosEntry) : Type 0 where
  pub printed : list_all is_printed_entry block ≡ true
  pub acts : list_all (does act) block ≡ true
  pub classless : list_all (λ e. not (is_state e.cond)) block ≡ true
  pub sound : (v : View) (x : List ℕ) → IsWithin (tops_of site) x → IsSeenAt v.packet x → list_any (λ e. holds e.cond v) block ≡ true
      → (value within x ≡ Some true) × (act.established ≡ true → acknowledges v.packet ≡ true)
  pub whole : (v : View) (x : List ℕ) → IsWithin (tops_of site) x → IsSeenAt v.packet x → value needed x ≡ Some true
      → (act.established ≡ true → acknowledges v.packet ≡ true) → list_any (λ e. holds e.cond v) block ≡ true

-- the set has points of TCP alone
abbrev pub IsOfTcp : Site → Plain Bool → Type 0
IsOfTcp site t = (x : List ℕ) → IsWithin (tops_of site) x → value t x ≡ Some true → value_of x fields.Proto ≡ 6
