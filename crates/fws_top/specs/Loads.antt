-- What `load` answers with: how many rows the tables of a policy have, and how many systems can hold it.
use Rattle.std.specs.Prelude.{◌≡◌, ◌⊎◌, ℕ, suc, Bool, true, false, List, [], ◌∷◌, ◌++◌, length, codes}
use Rattle.std.specs.Fmt.{decimal}
use Rattle.fws_net.specs.declared.outcome.Outcome.{Outcome}
use Rattle.fws_net.specs.declared.site.Site.{Site}
use Rattle.fws_net.specs.Points.{tops_of}
use Rattle.fws_place.specs.Fits.{Fits}
use Rattle.fws_top.specs.declared.lang.TargetLang.{TargetLang}
use Rattle.fws_top.specs.declared.lang.TargetLang.TheVariants.{Iptables, Ipfw, Pf, Ios}
use Rattle.fws_top.specs.Translations.{system_of}
use Rattle.fws_top.specs.Walked.{AreTablesOf, Walk}
use Rattle.fws_tree.specs.declared.tables.Tables.{Tables}
use Rattle.fws_tree.specs.Plain.{Plain}
use Rattle.fws_tree.specs.Rows.{paths_of}

-- a truth value says whether something holds
abbrev pub IsWhether : Bool → Type 0 → Type 0
IsWhether true P = P
IsWhether false P = P → ⊥

-- the target's system can hold the tables
abbrev pub IsHeldOn : Site → Tables → TargetLang → Type 0
IsHeldOn site tables target = Fits (system_of target) site tables

-- the number of these targets whose systems can hold the tables
abbrev pub IsHeldCount : Site → Tables → List TargetLang → ℕ → Type 0
IsHeldCount site tables [] n = n ≡ 0
IsHeldCount site tables (target ∷ targets) n =
    (m : ℕ) × IsHeldCount site tables targets m
    × ((IsHeldOn site tables target × (n ≡ suc m)) ⊎ ((IsHeldOn site tables target → ⊥) × (n ≡ m)))

abbrev pub all_targets : List TargetLang
all_targets = Iptables ∷ Ipfw ∷ Pf ∷ Ios ∷ []

-- the number of a table's rows
abbrev pub row_count : Site → Plain Outcome → ℕ
row_count site t = length (paths_of (tops_of site) t)

-- the line for so many rules: the rows of the table of new packets and of the one of established packets, and the number of
-- targets
abbrev pub load_line : ℕ → ℕ → ℕ → ℕ → List ℕ
load_line n fresh est placed =
    codes "load " ++ decimal n ++ codes " new " ++ decimal fresh ++ codes " est " ++ decimal est ++ codes " placed " ++ decimal placed ++ 10 ∷ []

-- the line of the tables of a walk
pub record IsLoad (n : ℕ) (site : Site) (walk : Walk) (t : List ℕ) : Type 0 where
  pub tables : Tables
  pub made : AreTablesOf site walk tables
  pub placed : ℕ
  pub held : IsHeldCount site tables all_targets placed
  pub says_so : t ≡ load_line n (row_count site tables.fresh.1) (row_count site tables.est.1) placed
