-- Parts of plans: what commands do once they have a site, code or connections.
use Rattle.std.specs.Prelude.{ℕ, Bool, List}
use Rattle.fws_events.specs.RunText.{run_text}
use Rattle.fws_net.specs.declared.connection.Conn.{Conn}
use Rattle.fws_net.specs.declared.packet.State.{State}
use Rattle.fws_net.specs.declared.site.Site.{Site}
use Rattle.fws_top.specs.declared.lang.SourceLang.{SourceLang}
use Rattle.fws_top.specs.declared.lang.TargetLang.{TargetLang}
use Rattle.fws_top.specs.declared.status.Status.TheVariants as status
use Rattle.fws_top.specs.Judged.{Policy}
use Rattle.fws_top.specs.Plan.{Plan, says, shows, asks_plan, source_plan, conns_plan, packets_plan, events_plan, load_text_plan}
use Rattle.fws_top.specs.Tables.{table, asked_table, translation, comparison, unused, loaded}
use Rattle.fws_top.specs.Walked.{Walk}
use Rattle.fws_trace.specs.TraceText.{trace_text}
use Rattle.fws_why.specs.WhyText.{why_text}

-- `synth` at a site
abbrev pub table_part : SourceLang → Site → List ℕ → State → Plan
table_part lang site file state = source_plan lang site file (λ policy. shows (table site state policy.walk))

-- `query` at a site
abbrev pub query_part : SourceLang → Site → List ℕ → State → List (List ℕ) → Plan
query_part lang site file state asks = asks_plan site asks (source_plan lang site file (λ policy. shows (asked_table site state asks policy.walk)))

-- `translate` at a site
abbrev pub translation_part : SourceLang → TargetLang → Site → List ℕ → Plan
translation_part from to site file = source_plan from site file (λ policy. shows (translation to site policy.walk))

-- `load` at a site
abbrev pub load_part : ℕ → Site → Plan
load_part n site = load_text_plan n site (λ policy. shows (loaded n site policy.walk))

-- `trace` of a walk against connections
abbrev pub packets_part : Site → Walk → List Conn → List ℕ → Plan
packets_part site walk tracked packets = packets_plan site packets (λ sent. says status.Ok (trace_text walk tracked sent))

-- `trace` of a walk
abbrev pub conns_part : Site → Walk → List ℕ → List ℕ → Plan
conns_part site walk conns packets = conns_plan conns (λ tracked. packets_part site walk tracked packets)

-- `trace` at a site
abbrev pub trace_part : SourceLang → Site → List ℕ → List ℕ → List ℕ → Plan
trace_part lang site file conns packets = source_plan lang site file (λ policy. conns_part site policy.walk conns packets)

-- `why` of a policy against connections
abbrev pub why_packets_part : Site → Policy → List Conn → List ℕ → Plan
why_packets_part site policy tracked packets =
    packets_plan site packets (λ sent. says status.Ok (why_text policy.walk policy.used policy.labels tracked sent))

-- `why` of a policy
abbrev pub why_conns_part : Site → Policy → List ℕ → List ℕ → Plan
why_conns_part site policy conns packets = conns_plan conns (λ tracked. why_packets_part site policy tracked packets)

-- `why` at a site
abbrev pub why_part : SourceLang → Site → List ℕ → List ℕ → List ℕ → Plan
why_part lang site file conns packets = source_plan lang site file (λ policy. why_conns_part site policy conns packets)

-- `run` of a walk, in a configuration that tracks or doesn't
abbrev pub events_part : Site → Bool → Walk → List ℕ → Plan
events_part site tracks walk events = events_plan site events (λ given. says status.Ok (run_text tracks walk given))

-- `run` at a site
abbrev pub run_part : SourceLang → Site → List ℕ → List ℕ → Plan
run_part lang site file events = source_plan lang site file (λ policy. events_part site policy.tracks policy.walk events)

-- `same` of a walk
abbrev pub other_part : Site → Walk → SourceLang → List ℕ → Plan
other_part site walk lang file = source_plan lang site file (λ policy. shows (comparison site walk policy.walk))

-- `same` at a site
abbrev pub same_part : SourceLang → Site → List ℕ → SourceLang → List ℕ → Plan
same_part lang site file other_lang other = source_plan lang site file (λ policy. other_part site policy.walk other_lang other)

-- `dead` at a site
abbrev pub dead_part : SourceLang → Site → List ℕ → Plan
dead_part lang site file = source_plan lang site file (λ policy. shows (unused site policy.used policy.labels))
