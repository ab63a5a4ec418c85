-- The forms of a command line.
use Rattle.std.specs.Prelude.{◌≡◌, ◌≤◌, ℕ, Bool, true, false, ◌&&◌, nat_eq, Option, Some, None, List, [], ◌∷◌, codes, if◌then◌else◌}
use Rattle.std.specs.Option.{option_map_or}
use Rattle.std.specs.Str.{bytes_eq}
use Rattle.fws_num.specs.Numbers.{dec_of}
use Rattle.fws_net.specs.declared.packet.State.{State}
use Rattle.fws_net.specs.declared.packet.State.TheVariants.{Fresh, Est}
use Rattle.fws_top.specs.Asks.{are_asks, are_shown}
use Rattle.fws_top.specs.declared.command_name.CommandName.{CommandName}
use Rattle.fws_top.specs.declared.form.Form.{Form}
use Rattle.fws_top.specs.declared.form.Form.TheVariants.{Unknown, Help, Page, Version, Synth, Query, Translate, Trace, Why, Run, Same, Dead, Load, SecondForm}
use Rattle.fws_top.specs.declared.lang.SourceLang.{SourceLang}
use Rattle.fws_top.specs.declared.lang.SourceLang.TheVariants.{Iptables, Ipfw, Pf, Ios, Openbsd}
use Rattle.fws_top.specs.declared.lang.TargetLang.{TargetLang}
use Rattle.fws_top.specs.declared.lang.TargetLang.TheVariants as targets
use Rattle.fws_top.specs.Pages.{named_command}

-- What the words ask for, each file by its name

-- nothing that is known, the list of commands, the page of one or the version; of a configuration at a site, for the packets of a state,
-- the table, whole or for what further words ask; the same policy in another language; what becomes of listed packets
-- against listed connections, alone or with the rules that decide it, or of listed events one after the other; whether two
-- configurations do the same at a site; which rules no packet uses; what a generated policy of so many rules comes to; or a site in
-- its second form
pub data Command : Type 0 where
  unknown : Command
  help : Command
  page : CommandName → Command
  version : Command
  synth : SourceLang → List ℕ → List ℕ → State → Command
  query : SourceLang → List ℕ → List ℕ → State → List (List ℕ) → Command
  translate : SourceLang → TargetLang → List ℕ → List ℕ → Command
  trace : SourceLang → List ℕ → List ℕ → List ℕ → List ℕ → Command
  why : SourceLang → List ℕ → List ℕ → List ℕ → List ℕ → Command
  run : SourceLang → List ℕ → List ℕ → List ℕ → Command
  same : SourceLang → List ℕ → List ℕ → SourceLang → List ℕ → Command
  dead : SourceLang → List ℕ → List ℕ → Command
  load : ℕ → Command
  site2 : List ℕ → Command

-- the language of a configuration
abbrev pub lang_of : List ℕ → Option SourceLang
lang_of word =
    if bytes_eq word (codes "iptables") then Some Iptables
    else if bytes_eq word (codes "ipfw") then Some Ipfw
    else if bytes_eq word (codes "pf") then Some Pf
    else if bytes_eq word (codes "ios") then Some Ios
    else if bytes_eq word (codes "openbsd") then Some Openbsd
    else None

-- `why` and `dead` can name the rules of this language
abbrev pub tells_of_rules : SourceLang → Bool
tells_of_rules Iptables = true
tells_of_rules Ipfw = true
tells_of_rules Pf = true
tells_of_rules Ios = true
tells_of_rules Openbsd = false

-- a language in which policies are written
abbrev pub target_of : List ℕ → Option TargetLang
target_of word =
    if bytes_eq word (codes "iptables") then Some targets.Iptables
    else if bytes_eq word (codes "ipfw") then Some targets.Ipfw
    else if bytes_eq word (codes "pf") then Some targets.Pf
    else if bytes_eq word (codes "ios") then Some targets.Ios
    else None

-- which packets a table is about
abbrev pub state_of : List ℕ → Option State
state_of word = if bytes_eq word (codes "new") then Some Fresh else if bytes_eq word (codes "est") then Some Est else None

-- `--help` and `--version` are forms as the only word
abbrev pub single_command : List ℕ → Command
single_command word = if bytes_eq word (codes "--help") then help else if bytes_eq word (codes "--version") then version else unknown

-- `load N`, N from 1 to 4000
abbrev pub load_command : List ℕ → Command
load_command number = option_map_or (λ n. if nat_eq n 0 then unknown else load n) (dec_of number 4000) unknown

-- `COMMAND --help`
abbrev pub page_command : List ℕ → Command
page_command command = option_map_or page (named_command command) unknown

-- `COMMAND --help`, or else `load N` or `site2 SITE`
abbrev pub short_command : List ℕ → List ℕ → Command
short_command command word =
    if bytes_eq word (codes "--help") then page_command command
    else if bytes_eq command (codes "load") then load_command word
    else if bytes_eq command (codes "site2") then site2 word
    else unknown

-- `synth` takes no further words
abbrev pub synth_command : SourceLang → List ℕ → List ℕ → State → List (List ℕ) → Command
synth_command lang site file state [] = synth lang site file state
synth_command lang site file state (word ∷ words) = unknown

-- the further words of `query` are well spelled, and ask about fields that the table shows
abbrev pub query_command : SourceLang → List ℕ → List ℕ → State → List (List ℕ) → Command
query_command lang site file state asks = if are_asks asks && are_shown state asks then query lang site file state asks else unknown

-- the commands that ask for the packets of a state
abbrev pub state_command : List ℕ → SourceLang → List ℕ → List ℕ → State → List (List ℕ) → Command
state_command command lang site file state rest =
    if bytes_eq command (codes "synth") then synth_command lang site file state rest
    else if bytes_eq command (codes "query") then query_command lang site file state rest
    else unknown

-- `synth LANG SITE FILE STATE`, or `query LANG SITE FILE STATE` and `FIELD=SET` words
abbrev pub table_command : List ℕ → SourceLang → List ℕ → List ℕ → List (List ℕ) → Command
table_command command lang site file [] = unknown
table_command command lang site file (word ∷ rest) = option_map_or (λ state. state_command command lang site file state rest) (state_of word) unknown

-- `trace LANG SITE FILE CONNS PACKETS`
abbrev pub trace_command : SourceLang → List ℕ → List ℕ → List (List ℕ) → Command
trace_command lang site file (conns ∷ packets ∷ []) = trace lang site file conns packets
trace_command lang site file _ = unknown

-- `why LANG SITE FILE CONNS PACKETS`, in a language whose rules it can name
abbrev pub why_command : SourceLang → List ℕ → List ℕ → List (List ℕ) → Command
why_command lang site file (conns ∷ packets ∷ []) = if tells_of_rules lang then why lang site file conns packets else unknown
why_command lang site file _ = unknown

-- `run LANG SITE FILE EVENTS`
abbrev pub run_command : SourceLang → List ℕ → List ℕ → List (List ℕ) → Command
run_command lang site file (events ∷ []) = run lang site file events
run_command lang site file _ = unknown

-- `same LANG SITE FILE LANG2 FILE2`
abbrev pub same_command : SourceLang → List ℕ → List ℕ → List (List ℕ) → Command
same_command lang site file (word ∷ other ∷ []) = option_map_or (λ other_lang. same lang site file other_lang other) (lang_of word) unknown
same_command lang site file _ = unknown

-- `dead LANG SITE FILE`, in such a language
abbrev pub unused_command : SourceLang → List ℕ → List ℕ → Command
unused_command lang site file = if tells_of_rules lang then dead lang site file else unknown

-- it takes no further words
abbrev pub dead_command : SourceLang → List ℕ → List ℕ → List (List ℕ) → Command
dead_command lang site file [] = unused_command lang site file
dead_command lang site file (word ∷ words) = unknown

-- `translate FROM TO SITE FILE`, behind FROM and TO
abbrev pub translate_command : SourceLang → List ℕ → List ℕ → List (List ℕ) → Command
translate_command from to site (file ∷ []) = option_map_or (λ target. translate from target site file) (target_of to) unknown
translate_command from to site _ = unknown

-- the commands that ask something of a configuration at a site
abbrev pub source_command : List ℕ → SourceLang → List ℕ → List ℕ → List (List ℕ) → Command
source_command command lang site file rest =
    if bytes_eq command (codes "translate") then translate_command lang site file rest
    else if bytes_eq command (codes "trace") then trace_command lang site file rest
    else if bytes_eq command (codes "why") then why_command lang site file rest
    else if bytes_eq command (codes "run") then run_command lang site file rest
    else if bytes_eq command (codes "same") then same_command lang site file rest
    else if bytes_eq command (codes "dead") then dead_command lang site file rest
    else table_command command lang site file rest

-- the command of the words of a command line
abbrev pub command_of : List (List ℕ) → Command
command_of (word ∷ []) = single_command word
command_of (command ∷ word ∷ []) = short_command command word
command_of (command ∷ word ∷ site ∷ file ∷ rest) = option_map_or (λ lang. source_command command lang site file rest) (lang_of word) unknown
command_of _ = unknown

-- Forms in code

-- the command that a form is
abbrev pub asked : Form → Command
asked Unknown = unknown
asked Help = help
asked (Page name) = page name
asked Version = version
asked (Synth lang site file state) = synth lang site.now file.now state
asked (Query lang site file state asks) = query lang site.now file.now state asks.now
asked (Translate from to site file) = translate from to site.now file.now
asked (Trace lang site file conns packets) = trace lang site.now file.now conns.now packets.now
asked (Why lang site file conns packets) = why lang site.now file.now conns.now packets.now
asked (Run lang site file events) = run lang site.now file.now events.now
asked (Same lang site file other_lang other) = same lang site.now file.now other_lang other.now
asked (Dead lang site file) = dead lang site.now file.now
asked (Load n) = load n
asked (SecondForm site) = site2 site.now

-- the further words of a query are well spelled, and the number of rules is one that `load` takes
abbrev pub IsSpelled : Form → Type 0
IsSpelled (Query lang site file state asks) = are_asks asks.now ≡ true
IsSpelled (Load n) = (1 ≤ n) × (n ≤ 4000)
IsSpelled _ = Unit {0}
