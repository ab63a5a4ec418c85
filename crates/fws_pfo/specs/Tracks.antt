-- Which configurations keep state where they accept.
use Rattle.std.specs.Prelude.{Bool, true, false, ◌&&◌, ◌||◌, not, List, [], ◌∷◌}
use Rattle.std.specs.List.{list_all, list_any}
use Rattle.fws_iv.specs.declared.iv.Iv.{Iv}
use Rattle.fws_net.specs.declared.condition.Lit.{Lit}
use Rattle.fws_net.specs.declared.site.Site.{Site}
use Rattle.fws_pf.specs.declared.config.Way.{Way}
use Rattle.fws_pf.specs.declared.config.Way.TheVariants.{Both, Inward, Outward}
use Rattle.fws_pfo.specs.declared.config.PfoConfig.{PfoConfig}
use Rattle.fws_pfo.specs.declared.config.PfoRule.{PfoRule}
use Rattle.fws_pfo.specs.Soundness.{passes, decides_nothing}

-- no interface is skipped
abbrev pub skips_none : List Iv → Bool
skips_none [] = true
skips_none (iv ∷ skip) = false

abbrev pub is_both : Way → Bool
is_both Both = true
is_both Inward = false
is_both Outward = false

abbrev pub asks_nothing : List Lit → Bool
asks_nothing [] = true
asks_nothing (lit ∷ lits) = false

-- it decides for every packet, on both passes
abbrev pub catches_all : PfoRule → Bool
catches_all r = not (decides_nothing r.kind) && is_both r.way && asks_nothing r.cond

-- it keeps state if it passes packets
abbrev pub keeps_state : PfoRule → Bool
keeps_state r = not (passes r.kind) || r.keep

-- no interface is skipped, each rule that passes packets keeps state, and some rule decides for every packet, so that none passes
-- without a match
abbrev pub tracks : Site → PfoConfig → Bool
tracks site c = skips_none c.skip && list_all keeps_state c.rules && list_any catches_all c.rules
