-- A translation keeps step with its source: what runs of both have in common.
use Rattle.std.specs.Prelude.{◌≡◌, ℕ, true, Ok, List, []}
use Rattle.fws_events.specs.declared.events.Event.{Event}
use Rattle.fws_events.specs.Runs.{AreMet, answers_to, conns_behind_all, conns_behind_each}
use Rattle.fws_events.specs.RunText.{run_text}
use Rattle.fws_ios.specs.FileText.{spelled as ios_spelled}
use Rattle.fws_ipfw.specs.FileText.{spelled as ipfw_spelled}
use Rattle.fws_ipt.specs.FileText.{spelled as ipt_spelled}
use Rattle.fws_net.specs.declared.connection.Conn.{Conn}
use Rattle.fws_net.specs.declared.site.Site.{Site}
use Rattle.fws_pf.specs.FileText.{spelled as pf_spelled}
use Rattle.fws_top.specs.declared.lang.SourceLang.{SourceLang}
use Rattle.fws_top.specs.declared.lang.TargetLang.{TargetLang}
use Rattle.fws_top.specs.declared.lang.TargetLang.TheVariants.{Iptables, Ipfw, Pf, Ios}
use Rattle.fws_top.specs.Judged.{Policy, Spelling, accepted, ios_meant, ipfw_meant, ipt_meant, judge, pf_meant}
use Rattle.fws_top.specs.Translations.{Emits}
use Rattle.fws_top.specs.Walked.{AreTablesOf}
use Rattle.fws_tree.specs.declared.tables.Tables.{Tables}

-- another policy keeps step with the first one: for every list of events, from whatever list of connections they begin with, it
-- gives the same answers, the same list behind each event and the same list at the end; and from no connections the same text.
-- Each packet is met as one of the site, with ends for which there is room, as those of all runs are that the program makes
pub record KeepsStep (site : Site) (policy other : Policy) : Type 0 where
  pub answers : (conns : List Conn) (events : List Event) → AreMet site policy.tracks policy.walk conns events
      → answers_to policy.tracks policy.walk conns events ≡ answers_to other.tracks other.walk conns events
  pub each : (conns : List Conn) (events : List Event) → AreMet site policy.tracks policy.walk conns events
      → conns_behind_each policy.tracks policy.walk conns events ≡ conns_behind_each other.tracks other.walk conns events
  pub last : (conns : List Conn) (events : List Event) → AreMet site policy.tracks policy.walk conns events
      → conns_behind_all policy.tracks policy.walk conns events ≡ conns_behind_all other.tracks other.walk conns events
  pub texts : (events : List Event) → AreMet site policy.tracks policy.walk [] events
      → run_text policy.tracks policy.walk events ≡ run_text other.tracks other.walk events

-- the text spells a configuration that keeps state where it accepts, and keeps step with the policy
pub record SpellsInStepBy {C : Type 0} (spelled : Spelling C) (meant : C → Policy) (site : Site) (policy : Policy) (t : List ℕ) : Type 0 where
  pub config : C
  pub spells : spelled t ≡ Ok config
  pub tracked : (meant config).tracks ≡ true
  pub in_step : KeepsStep site policy (meant config)

-- in each target
abbrev pub SpellsInStep : TargetLang → Site → Policy → List ℕ → Type 0
SpellsInStep Iptables site policy t = SpellsInStepBy (ipt_spelled site) (ipt_meant site) site policy t
SpellsInStep Ipfw site policy t = SpellsInStepBy (ipfw_spelled site) (ipfw_meant site) site policy t
SpellsInStep Pf site policy t = SpellsInStepBy (pf_spelled site) (pf_meant site) site policy t
SpellsInStep Ios site policy t = SpellsInStepBy (ios_spelled site) (ios_meant site) site policy t

-- every text that may be emitted for the tables of an accepted configuration that keeps state where it accepts keeps step with it
abbrev pub TranslationsKeepStep : Type 0
TranslationsKeepStep = (from : SourceLang) (to : TargetLang) (site : Site) (text emitted : List ℕ) (policy : Policy) (tables : Tables)
    → judge from site text ≡ accepted policy → policy.tracks ≡ true → AreTablesOf site policy.walk tables → Emits to site tables emitted
    → SpellsInStep to site policy emitted
