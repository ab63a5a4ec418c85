-- The texts that show walks.
use Rattle.std.specs.Prelude.{◌≡◌, ◌⊎◌, ℕ, Option, Some, None, List, length, if◌then◌else◌}
use Rattle.fws_box.specs.Sides.{IsWithin}
use Rattle.fws_dead.specs.declared.compare.Compare.{Compare}
use Rattle.fws_dead.specs.Compared.{IsComparison}
use Rattle.fws_dead.specs.ComparisonText.{comparison_text}
use Rattle.fws_dead.specs.RuleText.{dead_text}
use Rattle.fws_dead.specs.Unused.{AreUnused}
use Rattle.fws_net.specs.declared.outcome.Outcome.{Outcome}
use Rattle.fws_net.specs.declared.packet.State.{State}
use Rattle.fws_net.specs.declared.site.Site.{Site}
use Rattle.fws_net.specs.Points.{tops_of}
use Rattle.fws_table.specs.QueryText.{asked_leaf, query_text}
use Rattle.fws_table.specs.TableText.{table_text}
use Rattle.fws_top.specs.Asks.{asks_have, asked_verdict}
use Rattle.fws_top.specs.declared.lang.TargetLang.{TargetLang}
use Rattle.fws_top.specs.declared.status.Status.{Status}
use Rattle.fws_top.specs.declared.status.Status.TheVariants as status
use Rattle.fws_top.specs.Loads.{IsLoad}
use Rattle.fws_top.specs.Translations.{IsTranslation}
use Rattle.fws_top.specs.Walked.{Uses, Walk, walked_at}
use Rattle.fws_tree.specs.Plain.{Plain, value, IsReduced}

-- the table of the reduced tree whose value at each point is what the walk makes of it
pub record IsTable (site : Site) (state : State) (walk : Walk) (t : List ℕ) : Type 0 where
  pub tree : Plain Outcome
  pub reduced : IsReduced (tops_of site) tree
  pub walked : (p : List ℕ) → IsWithin (tops_of site) p → value tree p ≡ Some (walked_at walk state p)
  pub spelled : t ≡ table_text site state tree

-- what the words of a query leave of an outcome: nothing where they don't ask for the point or for the verdict
abbrev pub asked_part : Site → List (List ℕ) → List ℕ → Outcome → Option Outcome
asked_part site asks p outcome = if asks_have site asks p then asked_leaf (asked_verdict asks) outcome else None

-- the paths that hold something of the reduced tree whose value at each point is what the words leave of the walk
pub record IsAskedTable (site : Site) (state : State) (asks : List (List ℕ)) (walk : Walk) (t : List ℕ) : Type 0 where
  pub tree : Plain (Option Outcome)
  pub reduced : IsReduced (tops_of site) tree
  pub asked : (p : List ℕ) → IsWithin (tops_of site) p → value tree p ≡ Some (asked_part site asks p (walked_at walk state p))
  pub spelled : t ≡ query_text site state tree

-- what is said of two walks: that both give every packet of the site and every class the same fate, or a packet with the two fates
-- that they give it, which differ
pub record IsCompared (site : Site) (walk other : Walk) (t : List ℕ) : Type 0 where
  pub comparison : Compare
  pub compared : IsComparison site walk other comparison
  pub spelled : t ≡ comparison_text site comparison

-- what is said of rules with these labels: which of them no packet of the site uses, by the numbers of those that each packet uses
pub record IsUnusedText (site : Site) (used : Uses) (labels : List (List ℕ)) (t : List ℕ) : Type 0 where
  pub numbers : List ℕ
  pub unused : AreUnused used site (length labels) numbers
  pub spelled : t ≡ dead_text labels numbers

-- what shows a policy at a site: the table of its walk for the packets of a state, whole or of what the words of a query ask for; the
-- same policy in another language; whether another walk does the same; which of its rules no packet uses; or what so many rules come to
pub data Wanted : Type 0 where
  table : Site → State → Walk → Wanted
  asked_table : Site → State → List (List ℕ) → Walk → Wanted
  translation : TargetLang → Site → Walk → Wanted
  comparison : Site → Walk → Walk → Wanted
  unused : Site → Uses → List (List ℕ) → Wanted
  loaded : ℕ → Site → Walk → Wanted

-- a text that is shown with this status is the one that is asked for
abbrev pub IsWanted : Wanted → Status → List ℕ → Type 0
IsWanted (table site state walk) s t = (s ≡ status.Ok) × IsTable site state walk t
IsWanted (asked_table site state asks walk) s t = (s ≡ status.Ok) × IsAskedTable site state asks walk t
IsWanted (translation target site walk) s t = IsTranslation target site walk s t
IsWanted (comparison site walk other) s t = (s ≡ status.Ok) × IsCompared site walk other t
IsWanted (unused site used labels) s t = (s ≡ status.Ok) × IsUnusedText site used labels t
IsWanted (loaded n site walk) s t = (s ≡ status.Ok) × IsLoad n site walk t

-- a status with which it may be shown
abbrev pub CanBeShown : Wanted → Status → Type 0
CanBeShown (table site state walk) s = s ≡ status.Ok
CanBeShown (asked_table site state asks walk) s = s ≡ status.Ok
CanBeShown (translation target site walk) s = (s ≡ status.Ok) ⊎ (s ≡ status.NotPlaceable)
CanBeShown (comparison site walk other) s = s ≡ status.Ok
CanBeShown (unused site used labels) s = s ≡ status.Ok
CanBeShown (loaded n site walk) s = s ≡ status.Ok
