-- Lists of entries of which the first that a packet meets decides as a tree does.
use Rattle.std.specs.Prelude.{◌≡◌, ℕ, ◌<◌, Bool, true, ◌&&◌, not, Some, List, length}
use Rattle.std.specs.List.{list_all}
use Rattle.std.proofs.Math.Bool.{beq}
use Rattle.fws_box.specs.Sides.{IsWithin}
use Rattle.fws_net.specs.declared.connection.Kind.{Kind}
use Rattle.fws_net.specs.declared.site.Site.{Site}
use Rattle.fws_net.specs.declared.transit.Transit.{Transit}
use Rattle.fws_net.specs.Points.{tops_of}
use Rattle.fws_ios.specs.declared.config.IosEntry.{IosEntry}
use Rattle.fws_ios.specs.Walk.{permits}
use Rattle.fws_ios_put_entries.specs.Seen.{IsSeenAt}
use Rattle.fws_ios_print.specs.Printable.{is_printed_entry, is_state}
use Rattle.fws_tree.specs.Plain.{Plain, value}

-- the entry keeps state just where it permits and state is wanted
abbrev pub keeps_state : Bool → IosEntry → Bool
keeps_state keep e = beq e.reflect (e.permit && keep)

-- the entry doesn't ask whether packets are of a connection
abbrev pub is_classless : IosEntry → Bool
is_classless e = not (is_state e.cond)

-- entries of which the first that a packet meets permits it just where a tree is true
pub record IsFirstMatch (site : Site) (t : Plain Bool) (keep : Bool) (block : List IosEntry) : Type 0 where
  -- there is one
  pub some : 0 < length block
  pub printed : list_all is_printed_entry block ≡ true
  pub keeps : list_all (keeps_state keep) block ≡ true
  pub classless : list_all is_classless block ≡ true
  -- what is seen at a point gets the value of the tree there
  pub decides : (k : Kind) (outward : Bool) (m : Transit) (x : List ℕ) (b : Bool) → IsWithin (tops_of site) x → IsSeenAt m.packet x → value t x ≡ Some b
      → permits site k outward block m ≡ b
