-- What a command does, step by step: it says something, or reads a file and goes on by what the file holds.
use Rattle.std.specs.Prelude.{ℕ, Result, Ok, Err, List, length, nat_lt, codes, if◌then◌else◌}
use Rattle.fws_events.specs.declared.events.Event.{Event}
use Rattle.fws_events.specs.EventText.{events_of}
use Rattle.fws_events.specs.RunText.{run_text}
use Rattle.fws_load.specs.Load.{filter_text, site_text}
use Rattle.fws_net.specs.declared.cause.SiteCause.{SiteCause}
use Rattle.fws_net.specs.declared.connection.Conn.{Conn}
use Rattle.fws_net.specs.declared.packet.Packet.{Packet}
use Rattle.fws_net.specs.declared.site.Site.{Site}
use Rattle.fws_net.specs.Reading.{Refusal}
use Rattle.fws_net.specs.SiteSpelling.{site2_text}
use Rattle.fws_net.specs.SiteText.{site_of}
use Rattle.fws_top.specs.Asks.{are_known}
use Rattle.fws_top.specs.declared.lang.SourceLang.{SourceLang}
use Rattle.fws_top.specs.declared.lang.SourceLang.TheVariants.{Iptables}
use Rattle.fws_top.specs.declared.status.Status.{Status}
use Rattle.fws_top.specs.declared.status.Status.TheVariants as status
use Rattle.fws_top.specs.Forms.{Command, unknown, help, page, version, synth, query, translate, trace, why, run, same, dead, load, site2}
use Rattle.fws_top.specs.Judged.{Judged, Policy, refused, accepted, judge}
use Rattle.fws_top.specs.Lines.{refused_line, too_long_words, line_words, syntax_words, site_cause_text}
use Rattle.fws_top.specs.Pages.{page_of}
use Rattle.fws_top.specs.Tables.{Wanted, table, asked_table, translation, comparison, unused, loaded}
use Rattle.fws_top.specs.Texts.{file_limit, help_text, usage_text, version_text}
use Rattle.fws_trace.specs.ConnectionText.{conns_of}
use Rattle.fws_trace.specs.PacketText.{packets_of}
use Rattle.fws_trace.specs.TraceText.{trace_text}
use Rattle.fws_why.specs.WhyText.{why_text}

-- a status and a text are said; or a text that is asked for is shown with its status; or the file of a name is read and its bytes decide
pub data Plan : Type 0 where
  says : Status → List ℕ → Plan
  shows : Wanted → Plan
  reads : List ℕ → (List ℕ → Plan) → Plan

-- Pieces

-- the file with this name is refused
abbrev pub refuses : List ℕ → List ℕ → Plan
refuses name words = says status.Refused (refused_line name words)

-- a file that is too long is refused; else its bytes decide
abbrev pub file_plan : List ℕ → (List ℕ → Plan) → Plan
file_plan name next = reads name (λ bytes. if nat_lt file_limit (length bytes) then refuses name too_long_words else next bytes)

-- a bad line of a site is refused; else the site decides
abbrev pub spelled_site : List ℕ → Result Site (Refusal SiteCause) → (Site → Plan) → Plan
spelled_site name (Err r) next = refuses name (line_words r.line (site_cause_text r.cause))
spelled_site name (Ok site) next = next site

abbrev pub site_plan : List ℕ → (Site → Plan) → Plan
site_plan name next = file_plan name (λ bytes. spelled_site name (site_of bytes) next)

-- a configuration that isn't accepted is refused; else what it means decides
abbrev pub judged : List ℕ → Judged → (Policy → Plan) → Plan
judged name (refused words) next = refuses name words
judged name (accepted policy) next = next policy

abbrev pub source_plan : SourceLang → Site → List ℕ → (Policy → Plan) → Plan
source_plan lang site name next = file_plan name (λ bytes. judged name (judge lang site bytes) next)

-- a bad line of a list is refused; else what is listed decides
abbrev pub listed : {A : Type 0} → List ℕ → Result (List A) ℕ → (List A → Plan) → Plan
listed name (Err line) next = refuses name (syntax_words line)
listed name (Ok values) next = next values

abbrev pub conns_plan : List ℕ → (List Conn → Plan) → Plan
conns_plan name next = file_plan name (λ bytes. listed name (conns_of bytes) next)

abbrev pub packets_plan : Site → List ℕ → (List Packet → Plan) → Plan
packets_plan site name next = file_plan name (λ bytes. listed name (packets_of bytes site) next)

abbrev pub events_plan : Site → List ℕ → (List Event → Plan) → Plan
events_plan site name next = file_plan name (λ bytes. listed name (events_of bytes site) next)

-- the words of a query that name an entry which the site lacks are no form of the command line
abbrev pub asks_plan : Site → List (List ℕ) → Plan → Plan
asks_plan site asks next = if are_known site asks then next else says status.Usage usage_text

-- the site of the generator, judged as a file of this name
abbrev pub load_site_plan : (Site → Plan) → Plan
load_site_plan next = spelled_site (codes "load site") (site_of site_text) next

-- its filter with so many rules, judged as a file of iptables of this name
abbrev pub load_text_plan : ℕ → Site → (Policy → Plan) → Plan
load_text_plan n site next = judged (codes "load text") (judge Iptables site (filter_text n)) next

-- Plans

-- what a command does
abbrev pub plan_of : Command → Plan
plan_of unknown = says status.Usage usage_text
plan_of help = says status.Ok help_text
plan_of (page name) = says status.Ok (page_of name)
plan_of version = says status.Ok version_text
plan_of (site2 site) = site_plan site (λ value. says status.Ok (site2_text value))
plan_of (synth lang site file state) = site_plan site (λ value. source_plan lang value file (λ policy. shows (table value state policy.walk)))
plan_of (query lang site file state asks) =
    site_plan site (λ value. asks_plan value asks (source_plan lang value file (λ policy. shows (asked_table value state asks policy.walk))))
plan_of (translate from to site file) = site_plan site (λ value. source_plan from value file (λ policy. shows (translation to value policy.walk)))
plan_of (load n) = load_site_plan (λ value. load_text_plan n value (λ policy. shows (loaded n value policy.walk)))
plan_of (trace lang site file conns packets) =
    site_plan site (λ value. source_plan lang value file (λ policy. conns_plan conns (λ tracked. packets_plan value packets (λ sent.
    says status.Ok (trace_text policy.walk tracked sent)))))
plan_of (why lang site file conns packets) =
    site_plan site (λ value. source_plan lang value file (λ policy. conns_plan conns (λ tracked. packets_plan value packets (λ sent.
    says status.Ok (why_text policy.walk policy.used policy.labels tracked sent)))))
plan_of (run lang site file events) =
    site_plan site (λ value. source_plan lang value file (λ policy. events_plan value events (λ given.
    says status.Ok (run_text policy.tracks policy.walk given))))
plan_of (same lang site file other_lang other) =
    site_plan site (λ value. source_plan lang value file (λ policy. source_plan other_lang value other (λ second.
    shows (comparison value policy.walk second.walk))))
plan_of (dead lang site file) = site_plan site (λ value. source_plan lang value file (λ policy. shows (unused value policy.used policy.labels)))
