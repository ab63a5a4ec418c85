-- Entries for packets on a path.
use Rattle.std.specs.Prelude.{◌≡◌, ◌⊎◌, Bool, true, false, ◌&&◌, Option, Some, List, [], ◌∷◌}
use Rattle.fws_ios.specs.declared.config.IosEntry.{IosEntry}
use Rattle.fws_ios_put_entries.specs.declared.act.Act.{Act}
use Rattle.fws_ios_put_entries.specs.declared.path.Path.{Path}
use Rattle.fws_ios_put_entries.specs.Paths.{path_has}
use Rattle.fws_ios_print.specs.Printable.{is_printed_entry}
use Rattle.fws_net.specs.declared.view.View.{View}
use Rattle.fws_net.specs.Conditions.{holds}
use Rattle.fws_ios_put_lists.specs.FirstMatch.{is_classless}

-- what an entry does that permits packets, or that denies them: it keeps state where it permits and state is wanted
abbrev pub act_of : Bool → Bool → Act
act_of permit keep = record { permit = permit; reflect = permit && keep; established = false }

-- the entry permits packets on a path or denies them, and keeps state where it permits and state is wanted
pub record IsEntry (permit keep : Bool) (path : Path) (e : IosEntry) : Type 0 where
  pub permit_is : e.permit ≡ permit
  pub reflect_is : e.reflect ≡ (permit && keep)
  pub printed : is_printed_entry e ≡ true
  pub classless : is_classless e ≡ true
  pub holds_is : (v : View) → holds e.cond v ≡ path_has path v.packet

-- the entries of a leaf for packets on a path: none where they fall to its value
abbrev pub AreLeafEntries : Bool → Bool → Path → Option Bool → List IosEntry → Type 0
AreLeafEntries permit keep path falls block =
    ((falls ≡ Some permit) × (block ≡ [])) ⊎ ((e : IosEntry) × (block ≡ e ∷ []) × IsEntry permit keep path e)
