-- Configurations as they are put together.
use Rattle.std.specs.Prelude.{◌≡◌, ℕ, ◌+◌, Bool, true, false, List, ◌++◌, length}
use Rattle.fws_iv.specs.Ivs.{has, IsRegular}
use Rattle.fws_net.specs.declared.site.Site.{Site}
use Rattle.fws_ios.specs.declared.config.IosConfig.{IosConfig}
use Rattle.fws_ios.specs.declared.config.IosList.{IosList}
use Rattle.fws_ios_put_sources.specs.declared.translations.Sources.{Sources}
use Rattle.fws_ios_put_sources.specs.Sources.{is_on, IsSources}
use Rattle.fws_place.specs.Rewritings.{side_of}
use Rattle.fws_tree.specs.declared.tables.Tables.{Tables}
use Rattle.fws_tree.specs.Plain.{Plain}
use Rattle.fws_ios_put.specs.Layout.{AreLists, groups_of}

-- lists for packets that come in at each entry, and behind them translation lists
pub record IsDraft (site : Site) (tables : Tables) (new known : Plain Bool) (leaders : List ℕ) (c : IosConfig) : Type 0 where
  pub own : List IosList
  pub translations : Sources
  pub lists : c.lists ≡ own ++ translations.lists
  pub groups : c.groups ≡ groups_of site leaders (length leaders)
  pub nats : c.nats ≡ translations.nats
  pub are_lists : AreLists site new known leaders (length leaders + 1) own
  pub are_sources : IsSources site tables translations
  pub inside : (n : ℕ) → has c.inside n ≡ is_on false (side_of site n)
  pub outside : (n : ℕ) → has c.outside n ≡ is_on true (side_of site n)
  pub inside_regular : IsRegular c.inside
  pub outside_regular : IsRegular c.outside
