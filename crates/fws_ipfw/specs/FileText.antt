-- A text of rules as `ipfw list` prints them and scripts add them (ipfw(8)): its configuration, or its first refused line
-- with the cause.
use Rattle.std.specs.Prelude.{ℕ, ◌+◌, Bool, true, false, ◌&&◌, ◌||◌, nat_eq, nat_le, nat_lt, max, Option, None, is_some, option_map, Result, Ok, Err, List, [], ◌∷◌, ◌++◌, length, codes, if◌then◌else◌}
use Rattle.std.specs.List.{list_any}
use Rattle.std.specs.Option.{option_map_or}
use Rattle.std.specs.Str.{bytes_eq}
use Rattle.fws_num.specs.declared.comments.Comments.TheVariants.{Ipfw}
use Rattle.fws_num.specs.declared.lines.Line.{Line}
use Rattle.fws_num.specs.declared.word.Word.{Word}
use Rattle.fws_num.specs.Lines.{read_of}
use Rattle.fws_num.specs.Words.{is_sound}
use Rattle.fws_net.specs.declared.cause.Cause.{Cause}
use Rattle.fws_net.specs.declared.cause.Cause.TheVariants.{Syntax, LeftOut}
use Rattle.fws_net.specs.declared.site.Site.{Site}
use Rattle.fws_net.specs.Causes.{checked, judged}
use Rattle.fws_net.specs.Reading.{Refusal, and_then, text_read}
use Rattle.fws_ipfw.specs.declared.config.IpfwAct.{IpfwAct}
use Rattle.fws_ipfw.specs.declared.config.IpfwAct.TheVariants as acts
use Rattle.fws_ipfw.specs.declared.config.IpfwRule.{IpfwRule}
use Rattle.fws_ipfw.specs.declared.config.IpfwNat.{IpfwNat}
use Rattle.fws_ipfw.specs.declared.config.IpfwConfig.{IpfwConfig}
use Rattle.fws_ipfw.specs.declared.draft.Defined.{Defined}
use Rattle.fws_ipfw.specs.declared.draft.IpfwDraft.{IpfwDraft}
use Rattle.fws_ipfw.specs.declared.draft.RuleDraft.{RuleDraft}
use Rattle.fws_ipfw.specs.NatText.{nat_of}
use Rattle.fws_ipfw.specs.Options.{action_word, misplaced, misspelled}
use Rattle.fws_ipfw.specs.RuleText.{is_defined, rule_checks, rule_draft, rule_drawn}
use Rattle.fws_ipfw.specs.Values.{counted}

-- The instances that lines define

-- the word is `-q` or `-f`
abbrev pub is_quiet : List ℕ → Bool
is_quiet text = bytes_eq text (codes "-q") || bytes_eq text (codes "-f")

-- the words behind `-q` or `-f`, where one stands
abbrev pub behind_quiet : List Word → List Word
behind_quiet [] = []
behind_quiet (w ∷ ws) = if is_quiet w.text then ws else w ∷ ws

-- the words behind `ipfw` and `-q` or `-f`, where they stand
abbrev pub behind_program : List Word → List Word
behind_program [] = []
behind_program (w ∷ ws) = if bytes_eq w.text (codes "ipfw") then behind_quiet ws else w ∷ ws

-- how many redirects an instance has; none where it is refused
abbrev pub redirects_of : Result IpfwNat Cause → ℕ
redirects_of (Ok nat) = length nat.redirects
redirects_of (Err cause) = 0

-- the instance that words define: `nat`, a number and `config`, whatever stands behind
abbrev pub defined_behind : Site → List Word → Option Defined
defined_behind site (a ∷ b ∷ c ∷ ws) =
    if bytes_eq a.text (codes "nat") && bytes_eq c.text (codes "config") && is_sound a && is_sound b && is_sound c
    then option_map (λ n. record { number = n; redirects = redirects_of (nat_of site n ws) }) (counted 65535 b.text) else None
defined_behind site _ = None

abbrev pub defined_by : Site → Line → Option Defined
defined_by site line = defined_behind site (behind_program line.words)

-- an instance beside others, unless one of them has its number
abbrev pub with_defined : Defined → List Defined → List Defined
with_defined each known = if is_defined known each.number then known else known ++ each ∷ []

-- the instances that the lines define beside others, refused lines among them; the first of equal number counts
abbrev pub defined_from : Site → List Defined → List Line → List Defined
defined_from site known [] = known
defined_from site known (line ∷ lines) =
    defined_from site (option_map_or (λ each. with_defined each known) (defined_by site line) known) lines

abbrev pub all_defined : Site → List Line → List Defined
all_defined site lines = defined_from site [] lines

-- the redirects of the instance with a number
abbrev pub redirects_at : List Defined → ℕ → ℕ
redirects_at [] n = 0
redirects_at (each ∷ known) n = if nat_eq each.number n then each.redirects else redirects_at known n

-- Rules

-- a rule ahead of those whose number isn't less
abbrev pub ahead : IpfwRule → List IpfwRule → List IpfwRule
ahead r [] = r ∷ []
ahead r (s ∷ ss) = if nat_le r.number s.number then r ∷ s ∷ ss else s ∷ ahead r ss

-- the rules by their numbers, those with equal ones in the order of their entry
abbrev pub by_number : List IpfwRule → List IpfwRule
by_number [] = []
by_number (r ∷ rs) = ahead r (by_number rs)

-- the number of a rule that has none: 100 more than the greatest so far, or that number where this passes 65534
abbrev pub next_number : ℕ → ℕ
next_number greatest = if nat_le (greatest + 100) 65534 then greatest + 100 else greatest

-- the redirects of the instance that an act names
abbrev pub redirects_named : List Defined → IpfwAct → ℕ
redirects_named known (acts.Nat n) = redirects_at known n
redirects_named known _ = 0

-- an act that names an instance, where the redirects of all that are named so far are too many
abbrev pub is_full : IpfwAct → ℕ → Bool
is_full (acts.Nat n) redirects = nat_lt 200000 redirects
is_full _ redirects = false

abbrev pub with_rule : IpfwRule → ℕ → IpfwDraft → IpfwDraft
with_rule rule redirects d = record d {
  begun = true;
  greatest = max d.greatest rule.number;
  redirects = redirects;
  rules = d.rules ++ rule ∷ [];
}

-- a rule with its number, behind the rules so far
abbrev pub rule_put : ℕ → List Defined → IpfwDraft → RuleDraft → Result IpfwDraft Cause
rule_put number known d rule =
    and_then (checked (rule_checks number (is_full rule.act (d.redirects + redirects_named known rule.act)) rule) (rule_drawn number rule))
    (λ drawn. Ok (with_rule drawn (d.redirects + redirects_named known rule.act) d))

-- the words of a rule behind its number
abbrev pub rule_line : Site → List Defined → ℕ → List Word → IpfwDraft → Result IpfwDraft Cause
rule_line site known number ws d = and_then (rule_draft site known ws) (rule_put number known d)

-- the number of a rule; 65535 is judged with the whole line
abbrev pub rule_number : List ℕ → Option ℕ
rule_number text = counted 65535 text

-- a rule without a number begins with an action
abbrev pub unnumbered : Site → List Defined → Word → List Word → IpfwDraft → Result IpfwDraft Cause
unnumbered site known w ws d =
    if is_some (action_word w.text) then rule_line site known (next_number d.greatest) (w ∷ ws) d else Err (misspelled w.text)

-- behind `add`
abbrev pub add_line : Site → List Defined → List Word → IpfwDraft → Result IpfwDraft Cause
add_line site known [] d = Err Syntax
add_line site known (w ∷ ws) d =
    judged w (option_map_or (λ n. rule_line site known n ws d) (rule_number w.text) (unnumbered site known w ws d))

-- the words are just these
abbrev pub are_words : List (List ℕ) → List Word → Bool
are_words [] [] = true
are_words (text ∷ texts) (w ∷ ws) = bytes_eq w.text text && is_sound w && are_words texts ws
are_words _ _ = false

-- the rule that stands behind all others, without effect
abbrev pub last_rule : List (List ℕ)
last_rule = codes "deny" ∷ codes "ip" ∷ codes "from" ∷ codes "any" ∷ codes "to" ∷ codes "any" ∷ []

abbrev pub begun : IpfwDraft → IpfwDraft
begun d = record d { begun = true }

-- behind a number, as `ipfw list` prints a rule
abbrev pub listed_line : Site → List Defined → ℕ → List Word → IpfwDraft → Result IpfwDraft Cause
listed_line site known n ws d =
    if nat_eq n 65535 && are_words last_rule ws then Ok (begun d) else rule_line site known n ws d

-- Instances

-- an instance with this number is there
abbrev pub has_nat : List IpfwNat → ℕ → Bool
has_nat nats n = list_any (λ nat. nat_eq nat.number n) nats

abbrev pub with_nat : IpfwNat → IpfwDraft → IpfwDraft
with_nat nat d = record d { begun = true; nats = d.nats ++ nat ∷ [] }

-- behind the number of an instance
abbrev pub config_line : Site → ℕ → List Word → IpfwDraft → Result IpfwDraft Cause
config_line site n [] d = Err Syntax
config_line site n (w ∷ ws) d =
    judged w (if bytes_eq w.text (codes "config") then and_then (nat_of site n ws) (λ nat. Ok (with_nat nat d)) else Err (misplaced w.text))

-- the number of an instance, which no other has
abbrev pub fresh_number : List ℕ → IpfwDraft → Result ℕ Cause
fresh_number text d = option_map_or (λ n. if has_nat d.nats n then Err Syntax else Ok n) (counted 65535 text) (Err Syntax)

-- behind `nat`
abbrev pub nat_line : Site → List Word → IpfwDraft → Result IpfwDraft Cause
nat_line site [] d = Err Syntax
nat_line site (w ∷ ws) d = judged w (and_then (fresh_number w.text d) (λ n. config_line site n ws d))

-- Lines

-- no word stands behind
abbrev pub alone : List Word → IpfwDraft → Result IpfwDraft Cause
alone [] d = Ok d
alone (w ∷ ws) d = Err Syntax

-- `flush` stands before all other lines
abbrev pub flush_line : List Word → IpfwDraft → Result IpfwDraft Cause
flush_line ws d = if d.begun then Err LeftOut else alone ws d

-- a line by its first word behind `ipfw` and `-q` or `-f`
abbrev pub command_step : Site → List Defined → List ℕ → List Word → IpfwDraft → Result IpfwDraft Cause
command_step site known text ws d =
    if bytes_eq text (codes "add") then add_line site known ws d
    else if bytes_eq text (codes "nat") then nat_line site ws d
    else if bytes_eq text (codes "flush") then flush_line ws d
    else option_map_or (λ n. listed_line site known n ws d) (rule_number text) (Err (misspelled text))

abbrev pub command_line : Site → List Defined → List Word → IpfwDraft → Result IpfwDraft Cause
command_line site known [] d = Err Syntax
command_line site known (w ∷ ws) d = judged w (command_step site known w.text ws d)

-- behind `ipfw`
abbrev pub quiet_line : Site → List Defined → List Word → IpfwDraft → Result IpfwDraft Cause
quiet_line site known [] d = Err Syntax
quiet_line site known (w ∷ ws) d =
    judged w (if is_quiet w.text then command_line site known ws d else command_step site known w.text ws d)

abbrev pub words_step : Site → List Defined → List Word → IpfwDraft → Result IpfwDraft Cause
words_step site known [] d = Ok d
words_step site known (w ∷ ws) d =
    judged w (if bytes_eq w.text (codes "ipfw") then quiet_line site known ws d else command_step site known w.text ws d)

-- a line of the text, after those before it
abbrev pub line_step : Site → List Defined → IpfwDraft → Line → Result IpfwDraft Cause
line_step site known d line = words_step site known line.words d

-- a text before its first line
abbrev pub fresh_text : IpfwDraft
fresh_text = record { begun = false; greatest = 0; redirects = 0; rules = []; nats = [] }

abbrev pub ended : IpfwDraft → Result IpfwConfig Cause
ended d = Ok (record { rules = by_number d.rules; nats = d.nats })

-- the configuration that a text spells on a site
abbrev pub spelled : Site → List ℕ → Result IpfwConfig (Refusal Cause)
spelled site text = text_read Ipfw (line_step site (all_defined site (read_of Ipfw text).lines)) ended fresh_text text
