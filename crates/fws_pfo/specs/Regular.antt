-- Walks have in common what the walks of all systems have.
use Rattle.std.specs.Prelude.{◌≡◌, ℕ, true, Ok, List}
use Rattle.fws_net.specs.declared.site.Site.{Site}
use Rattle.fws_net.specs.RegularWalks.{IsRegularWalk}
use Rattle.fws_pfo.specs.declared.config.PfoConfig.{PfoConfig}
use Rattle.fws_pfo.specs.FileText.{spelled}
use Rattle.fws_pfo.specs.Soundness.{is_fitting}
use Rattle.fws_pfo.specs.Walk.{walk}

-- the walk of a fitting configuration is regular
abbrev pub FittingWalksAreRegular : Type 0
FittingWalksAreRegular = (site : Site) (c : PfoConfig) → is_fitting site c ≡ true → IsRegularWalk site (walk c site)

-- the walk of what a text spells is regular
abbrev pub SpelledWalksAreRegular : Type 0
SpelledWalksAreRegular = (site : Site) (text : List ℕ) (c : PfoConfig) → spelled site text ≡ Ok c → IsRegularWalk site (walk c site)
