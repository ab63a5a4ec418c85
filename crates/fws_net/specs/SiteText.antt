-- A site file: its value, or its first refused line with the cause.
use Rattle.std.specs.Prelude.{ℕ, false, Result, Ok, Err, List, []}
use Rattle.fws_num.specs.declared.comments.Comments.TheVariants.{HashLine}
use Rattle.fws_net.specs.declared.cause.SiteCause.{SiteCause}
use Rattle.fws_net.specs.declared.cause.SiteCause.TheVariants.{Syntax}
use Rattle.fws_net.specs.declared.draft.Draft.{Draft}
use Rattle.fws_net.specs.declared.draft.Form.TheVariants.{First}
use Rattle.fws_net.specs.declared.draft.Stage.{Stage}
use Rattle.fws_net.specs.declared.draft.Stage.TheVariants.{Header, Ended}
use Rattle.fws_net.specs.declared.site.Names.{Names}
use Rattle.fws_net.specs.declared.site.Site.{Site}
use Rattle.fws_net.specs.Reading.{Refusal, text_read}
use Rattle.fws_net.specs.SiteLines.{line_step}

abbrev pub no_names : Names
no_names = record { ipt = []; ipfw = []; pf = []; ios = [] }

-- a site of which nothing was read
abbrev pub empty_site : Site
empty_site = record { faces = []; routes = []; lo = no_names; fallback = 0; forwarding = false; one_pass = false }

-- a text before its first line
abbrev pub fresh_draft : Draft
fresh_draft = record { stage = Header; form = First; site = empty_site }

-- the site, where the last line was read
abbrev pub ended_at : Stage → Site → Result Site SiteCause
ended_at Ended site = Ok site
ended_at _ site = Err Syntax

abbrev pub finished : Draft → Result Site SiteCause
finished d = ended_at d.stage d.site

-- the site that a text spells
abbrev pub site_of : List ℕ → Result Site (Refusal SiteCause)
site_of text = text_read HashLine line_step finished fresh_draft text
