-- What commands answer where every step gives its value, and where one stops them.
use Rattle.std.proofs.Common.{◌≡◌, ℕ, Bool, true, Option, List, refl, sym, subst}
use Rattle.fws_events.specs.declared.events.Event.{Event}
use Rattle.fws_events.specs.RunText.{run_text}
use Rattle.fws_net.specs.declared.connection.Conn.{Conn}
use Rattle.fws_net.specs.declared.packet.Packet.{Packet}
use Rattle.fws_net.specs.declared.packet.State.{State}
use Rattle.fws_net.specs.declared.site.Site.{Site}
use Rattle.fws_net.specs.SiteSpelling.{site2_text}
use Rattle.fws_top.specs.Answered.{Answered, Stopped}
use Rattle.fws_top.specs.Asks.{are_known}
use Rattle.fws_top.specs.Codes.{Does, IsCode, IsTakenCode}
use Rattle.fws_top.specs.declared.answer.Stop.{Stop}
use Rattle.fws_top.specs.declared.lang.SourceLang.{SourceLang}
use Rattle.fws_top.specs.declared.lang.TargetLang.{TargetLang}
use Rattle.fws_top.specs.declared.policy.PolicyCode.{PolicyCode}
use Rattle.fws_top.specs.declared.status.Status.{Status}
use Rattle.fws_top.specs.declared.status.Status.TheVariants as status
use Rattle.fws_top.specs.Due.{Contents, Faults}
use Rattle.fws_top.specs.Forms.{site2}
use Rattle.fws_top.specs.Judged.{Policy}
use Rattle.fws_top.specs.Loads.{IsLoad}
use Rattle.fws_top.specs.Parts.{events_part, load_part, other_part, packets_part, query_part, table_part, translation_part, why_packets_part}
use Rattle.fws_top.specs.Plan.{Plan, says, shows, plan_of, site_plan, source_plan, load_site_plan, load_text_plan, packets_plan, events_plan}
use Rattle.fws_top.specs.Steps.{AsksStopped, EndsIn, GoesOn, StopsAt}
use Rattle.fws_top.specs.Tables.{IsTable, IsAskedTable, IsCompared, table, asked_table, translation, comparison, loaded}
use Rattle.fws_top.proofs.Chosen.{asks_on, asks_stopped, ended_at, stopped_on}
use Rattle.fws_top.specs.Translations.{IsTranslation}
use Rattle.fws_top.specs.Walked.{Walk}
use Rattle.fws_trace.specs.TraceText.{trace_text}
use Rattle.fws_why.specs.WhyText.{why_text}

-- the table of code is shown
pub table_shown : (lang : SourceLang) (file : List ℕ) (site : Site) (state : State) (source : PolicyCode) (told : Option Contents) (old new : Faults) (text : List ℕ)
    → IsTakenCode (source_plan lang site file) told site source → new ≡ old
    → ((walk : Walk) → Does source.flat site walk → IsTable site state walk text)
    → Answered (table_part lang site file state) told old new status.Ok text
table_shown lang file site state source told old new text code quiet made =
    code.goes_on (λ policy. shows (table site state policy.walk)) old new status.Ok text (quiet, (refl, made code.policy.walk code.does))

-- the asked part of that table is shown
pub asked_table_shown : (lang : SourceLang) (file : List ℕ) (site : Site) (state : State) (asks : List (List ℕ)) (source : PolicyCode) (told : Option Contents) (old new : Faults) (text : List ℕ)
    → are_known site asks ≡ true → IsTakenCode (source_plan lang site file) told site source → new ≡ old
    → ((walk : Walk) → Does source.flat site walk → IsAskedTable site state asks walk text)
    → Answered (query_part lang site file state asks) told old new status.Ok text
asked_table_shown lang file site state asks source told old new text known code quiet made =
    let shown : Policy → Plan = λ policy. shows (asked_table site state asks policy.walk) in
    subst (λ plan. Answered plan told old new status.Ok text) (sym (asks_on site asks (source_plan lang site file shown) known))
    (code.goes_on shown old new status.Ok text (quiet, (refl, made code.policy.walk code.does)))

-- the translation of code is shown
pub translation_shown : (from : SourceLang) (to : TargetLang) (file : List ℕ) (site : Site) (source : PolicyCode) (told : Option Contents) (old new : Faults) (s : Status) (text : List ℕ)
    → IsTakenCode (source_plan from site file) told site source → new ≡ old
    → ((walk : Walk) → Does source.flat site walk → IsTranslation to site walk s text)
    → Answered (translation_part from to site file) told old new s text
translation_shown from to file site source told old new s text code quiet made =
    code.goes_on (λ policy. shows (translation to site policy.walk)) old new s text (quiet, made code.policy.walk code.does)

-- the trace is said
pub trace_said : (name : List ℕ) (site : Site) (walk : Walk) (conns : List Conn) (packets : List Packet) (told : Option Contents) (old new : Faults) (text : List ℕ)
    → GoesOn (packets_plan site name) told packets → new ≡ old → text ≡ trace_text walk conns packets → Answered (packets_part site walk conns name) told old new status.Ok text
trace_said name site walk conns packets told old new text on quiet made =
    on (λ sent. says status.Ok (trace_text walk conns sent)) old new status.Ok text (tt, quiet, refl, made)

-- what rules decide is said
pub why_said : (name : List ℕ) (site : Site) (policy : Policy) (conns : List Conn) (packets : List Packet) (told : Option Contents) (old new : Faults) (text : List ℕ)
    → GoesOn (packets_plan site name) told packets → new ≡ old → text ≡ why_text policy.walk policy.used policy.labels conns packets
    → Answered (why_packets_part site policy conns name) told old new status.Ok text
why_said name site policy conns packets told old new text on quiet made =
    on (λ sent. says status.Ok (why_text policy.walk policy.used policy.labels conns sent)) old new status.Ok text (tt, quiet, refl, made)

-- the run is said
pub run_said : (name : List ℕ) (site : Site) (tracks : Bool) (walk : Walk) (events : List Event) (told : Option Contents) (old new : Faults) (text : List ℕ)
    → GoesOn (events_plan site name) told events → new ≡ old → text ≡ run_text tracks walk events → Answered (events_part site tracks walk name) told old new status.Ok text
run_said name site tracks walk events told old new text on quiet made =
    on (λ given. says status.Ok (run_text tracks walk given)) old new status.Ok text (tt, quiet, refl, made)

-- the comparison with code is shown
pub comparison_shown : (lang : SourceLang) (file : List ℕ) (site : Site) (walk : Walk) (source : PolicyCode) (told : Option Contents) (old new : Faults) (text : List ℕ)
    → IsTakenCode (source_plan lang site file) told site source → new ≡ old
    → ((other : Walk) → Does source.flat site other → IsCompared site walk other text)
    → Answered (other_part site walk lang file) told old new status.Ok text
comparison_shown lang file site walk source told old new text code quiet made =
    code.goes_on (λ policy. shows (comparison site walk policy.walk)) old new status.Ok text (quiet, (refl, made code.policy.walk code.does))

-- what the generated policy comes to is shown
pub load_shown : (n : ℕ) (site : Site) (source : PolicyCode) (told : Option Contents) (faults : Faults) (text : List ℕ)
    → IsCode (load_text_plan n site) site source → ((walk : Walk) → Does source.flat site walk → IsLoad n site walk text)
    → Answered (load_part n site) told faults faults status.Ok text
load_shown n site source told faults text code made =
    subst (λ plan. Answered plan told faults faults status.Ok text) (sym (code.chooses (λ policy. shows (loaded n site policy.walk)))) (refl, (refl, made code.policy.walk code.does))

-- the second form of a site is said
pub second_form_said : (name : List ℕ) (site : Site) (told : Option Contents) (old new : Faults) (text : List ℕ)
    → GoesOn (site_plan name) told site → new ≡ old → text ≡ site2_text site → Answered (plan_of (site2 name)) told old new status.Ok text
second_form_said name site told old new text on quiet made = on (λ value. says status.Ok (site2_text value)) old new status.Ok text (tt, quiet, refl, made)

-- Commands that are stopped

-- a step stops what would follow
pub step_stops : {X : Type 0} → (plan : (X → Plan) → Plan) (told : Option Contents) (old new : Faults) (stop : Stop) (next : X → Plan)
    → StopsAt plan told old new stop → Stopped (plan next) told old new stop
step_stops plan told old new stop next stops = stopped_on plan told told old old new stop next refl refl stops

-- the site stops a command
pub site_stops : (name : List ℕ) (told : Option Contents) (old new : Faults) (stop : Stop) (next : Site → Plan)
    → StopsAt (site_plan name) told old new stop → Stopped (site_plan name next) told old new stop
site_stops name told old new stop next stops = step_stops (site_plan name) told old new stop next stops

-- the generated site stops the command
pub load_site_stops : (told : Option Contents) (faults : Faults) (stop : Stop) (next : Site → Plan) → EndsIn load_site_plan stop → Stopped (load_site_plan next) told faults faults stop
load_site_stops told faults stop next ends = ended_at load_site_plan told faults stop next ends

-- so does the generated filter
pub load_text_stops : (n : ℕ) (site : Site) (told : Option Contents) (faults : Faults) (stop : Stop)
    → EndsIn (load_text_plan n site) stop → Stopped (load_part n site) told faults faults stop
load_text_stops n site told faults stop ends = ended_at (load_text_plan n site) told faults stop (λ policy. shows (loaded n site policy.walk)) ends

-- the configuration stops a query
pub asked_source_stops : (lang : SourceLang) (file : List ℕ) (site : Site) (state : State) (asks : List (List ℕ)) (told : Option Contents) (old new : Faults) (stop : Stop)
    → are_known site asks ≡ true → StopsAt (source_plan lang site file) told old new stop → Stopped (query_part lang site file state asks) told old new stop
asked_source_stops lang file site state asks told old new stop known stops =
    let shown : Policy → Plan = λ policy. shows (asked_table site state asks policy.walk) in
    subst (λ plan. Stopped plan told old new stop) (sym (asks_on site asks (source_plan lang site file shown) known)) (step_stops (source_plan lang site file) told old new stop shown stops)

-- the words of a query stop it
pub asks_stop : (lang : SourceLang) (file : List ℕ) (site : Site) (state : State) (asks : List (List ℕ)) (told : Option Contents) (faults : Faults) (stop : Stop)
    → AsksStopped site asks stop → Stopped (query_part lang site file state asks) told faults faults stop
asks_stop lang file site state asks told faults stop unknown =
    asks_stopped site asks told faults faults stop (source_plan lang site file (λ policy. shows (asked_table site state asks policy.walk))) refl unknown
