-- What holds of every configuration that a text spells.
use Rattle.std.specs.Prelude.{◌≡◌, ℕ, suc, Bool, true, false, ◌&&◌, ◌||◌, not, Ok, List, length}
use Rattle.std.specs.List.{list_all}
use Rattle.std.specs.Option.{option_map_or}
use Rattle.fws_net.specs.declared.site.Site.{Site}
use Rattle.fws_pf.specs.Soundness.{cond_fits, tag_fits, end_fits, is_entry}
use Rattle.fws_pfo.specs.declared.config.PfoConfig.{PfoConfig}
use Rattle.fws_pfo.specs.declared.config.PfoKind.{PfoKind}
use Rattle.fws_pfo.specs.declared.config.PfoKind.TheVariants.{Pass, Block, Match}
use Rattle.fws_pfo.specs.declared.config.PfoRule.{PfoRule}
use Rattle.fws_pfo.specs.FileText.{spelled}

-- Conditions, tags and ends fit as they do under FreeBSD's pf.

-- it passes packets, and it decides nothing
abbrev pub passes : PfoKind → Bool
passes Pass = true
passes Block = false
passes Match = false

abbrev pub decides_nothing : PfoKind → Bool
decides_nothing Pass = false
decides_nothing Block = false
decides_nothing Match = true

-- state is kept where packets pass, and no rule is quick that decides nothing
abbrev pub rule_fits : ℕ → PfoRule → Bool
rule_fits tags r =
    cond_fits tags r.cond && tag_fits tags r.tag && option_map_or (end_fits r.cond) r.to true && (not r.keep || passes r.kind)
    && (not r.quick || not (decides_nothing r.kind))

-- the interfaces that are skipped are those of the site
abbrev pub is_fitting : Site → PfoConfig → Bool
is_fitting site c = list_all (is_entry (suc (length site.faces))) c.skip && list_all (rule_fits (length c.tags)) c.rules

-- what a text spells is fitting
abbrev pub SpelledFits : Type 0
SpelledFits = (site : Site) (text : List ℕ) (c : PfoConfig) → spelled site text ≡ Ok c → is_fitting site c ≡ true
