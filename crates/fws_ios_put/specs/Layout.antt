-- The lists of a configuration, their names, and where they are applied.
use Rattle.std.specs.Prelude.{◌≡◌, ◌⊎◌, ◌≢◌, ℕ, ◌-◌, ◌<◌, ◌≤◌, Bool, true, false, nat_eq, Some, List, [], ◌∷◌, ◌++◌, length, drop, map, slice_index, codes, if◌then◌else◌}
use Rattle.std.specs.List.{AllByRecursion, list_all, list_any, range_with_len}
use Rattle.fws_net.specs.declared.site.Site.{Site}
use Rattle.fws_net.specs.declared.packet.Lang.TheVariants.{Ios}
use Rattle.fws_rules.specs.Names.{interface_name}
use Rattle.fws_ios.specs.declared.config.IosEntry.{IosEntry}
use Rattle.fws_ios.specs.declared.config.IosGroup.{IosGroup}
use Rattle.fws_ios.specs.declared.config.IosList.{IosList}
use Rattle.fws_ios.specs.Soundness.{are_apart}
use Rattle.fws_ios.specs.Walk.{list_named}
use Rattle.fws_ios_print.specs.Printable.{is_printed_list}
use Rattle.fws_tree.specs.Plain.{Plain, branch}
use Rattle.fws_ios_put.specs.declared.choices.Choices.{Choices}
use Rattle.fws_ios_put.specs.Blocks.{IsListOf}
use Rattle.fws_ios_put.specs.Choices.{AreMadeOf}
use Rattle.fws_ios_put.specs.Placed.{keeps_state}

-- Entries that share a list

-- each entry has a leader, whose list its packets meet
abbrev pub leader : List ℕ → ℕ → ℕ
leader leaders entry = slice_index leaders (entry - 1)

-- two trees have the same of both entries
abbrev pub AreAlike : Plain Bool → Plain Bool → ℕ → ℕ → Type 0
AreAlike new known a b = (branch 0 new a ≡ branch 0 new b) × (branch 0 known a ≡ branch 0 known b)

-- the leader of an entry stands no later, is its own leader, and is alike
pub record HasLeader (new known : Plain Bool) (leaders : List ℕ) (entry : ℕ) : Type 0 where
  pub low : 1 ≤ leader leaders entry
  pub high : leader leaders entry ≤ entry
  pub itself : leader leaders (leader leaders entry) ≡ leader leaders entry
  pub alike : AreAlike new known (leader leaders entry) entry

-- a number that may be the leader of the next entry
pub record MayLead (new known : Plain Bool) (leaders : List ℕ) (entry n : ℕ) : Type 0 where
  pub low : 1 ≤ n
  pub own : (n ≡ entry) ⊎ ((n < entry) × (leader leaders n ≡ n))
  pub alike : AreAlike new known n entry

-- leaders of so many entries
pub record AreLeaders (new known : Plain Bool) (most : ℕ) (leaders : List ℕ) : Type 0 where
  pub size : length leaders ≡ most
  pub each : (entry : ℕ) → 1 ≤ entry → entry ≤ most → HasLeader new known leaders entry

-- Names

-- packets of a later entry meet the same list
abbrev pub has_followers : List ℕ → ℕ → Bool
has_followers leaders entry = list_any (nat_eq entry) (drop entry leaders)

-- what the name of a list ends in
abbrev pub ending : Bool → List ℕ
ending shared = if shared then codes "+OTHERS" else []

-- the name of an entry's list
abbrev pub list_name : Site → List ℕ → ℕ → List ℕ
list_name site leaders entry = codes "FROM-" ++ interface_name Ios site entry ++ ending (has_followers leaders entry)

-- Lists

-- entries of a list for packets that come in by an entry, by what two trees tell
pub record IsEntryList (site : Site) (new known : Plain Bool) (entry : ℕ) (entries : List IosEntry) : Type 0 where
  pub choices : Choices
  pub made : AreMadeOf site new known entry choices
  pub decides : IsListOf site choices entries

-- the list of an entry
pub record IsOwnList (site : Site) (new known : Plain Bool) (leaders : List ℕ) (entry : ℕ) (l : IosList) : Type 0 where
  pub name : l.name ≡ list_name site leaders entry
  pub decides : IsEntryList site new known entry l.entries

-- a list for the entry stands behind the others, if it leads
abbrev pub IsPut : Site → Plain Bool → Plain Bool → List ℕ → ℕ → List IosList → List IosList → Type 0
IsPut site new known leaders entry before after =
    ((leader leaders entry ≢ entry) × (after ≡ before))
    ⊎ ((l : IosList) × (after ≡ before ++ l ∷ []) × IsOwnList site new known leaders entry l)

-- each entry of the list keeps state
abbrev pub is_keeper : IosList → Bool
is_keeper l = list_all keeps_state l.entries

-- the list of an entry is found by its name
pub record IsFound (site : Site) (new known : Plain Bool) (leaders : List ℕ) (lists : List IosList) (entry : ℕ) : Type 0 where
  pub l : IosList
  pub found : list_named (list_name site leaders entry) lists ≡ Some l
  pub decides : IsEntryList site new known entry l.entries

-- the name of a list is that of an entry below the end
pub record IsNamedBelow (site : Site) (leaders : List ℕ) (end : ℕ) (l : IosList) : Type 0 where
  pub entry : ℕ
  pub low : 1 ≤ entry
  pub high : entry < end
  pub name : l.name ≡ list_name site leaders entry

-- the lists of the entries below the end that lead
pub record AreLists (site : Site) (new known : Plain Bool) (leaders : List ℕ) (end : ℕ) (lists : List IosList) : Type 0 where
  pub found : (entry : ℕ) → 1 ≤ entry → entry < end → leader leaders entry ≡ entry → IsFound site new known leaders lists entry
  pub named : AllByRecursion (IsNamedBelow site leaders end) lists
  pub apart : are_apart lists ≡ true
  pub printed : list_all is_printed_list lists ≡ true
  pub keeping : list_all is_keeper lists ≡ true

-- Where they are applied

-- the list that packets of the entry meet
abbrev pub group_of : Site → List ℕ → ℕ → IosGroup
group_of site leaders entry = record { face = entry; outward = false; list = list_name site leaders (leader leaders entry) }

-- those of so many entries
abbrev pub groups_of : Site → List ℕ → ℕ → List IosGroup
groups_of site leaders most = map (group_of site leaders) (range_with_len 1 most)

-- the leader of each entry is one that isn't later
abbrev pub LeadEarly : List ℕ → Type 0
LeadEarly leaders = (entry : ℕ) → 1 ≤ entry → entry ≤ length leaders → (1 ≤ leader leaders entry) × (leader leaders entry ≤ entry)
