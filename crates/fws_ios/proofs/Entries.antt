-- An entry, word by word, fits.
use Rattle.std.proofs.Common.{◌≡◌, ℕ, Bool, true, false, ◌&&◌, ◌||◌, not, nat_le, Option, Some, None, is_some, Ok, Err, List, [], codes, IfOk, refl, ap}
use Rattle.std.proofs.lemmas.Bool.{false≢true, and_parts, or_right, cond_both}
use Rattle.fws_num.specs.declared.word.Word.{Word}
use Rattle.fws_num.specs.Numbers.{quad_of}
use Rattle.fws_num.specs.Services.{port_of}
use Rattle.fws_net.specs.declared.cause.Cause.{Cause}
use Rattle.fws_net.specs.declared.cause.Cause.TheVariants.{Syntax, LeftOut}
use Rattle.fws_net.specs.Causes.{checked, words_read}
use Rattle.fws_ios.specs.declared.config.IosEntry.{IosEntry}
use Rattle.fws_ios.specs.declared.draft.EntryDraft.{EntryDraft}
use Rattle.fws_ios.specs.declared.draft.Expects.{Expects}
use Rattle.fws_ios.specs.declared.draft.Expects.TheVariants as expect
use Rattle.fws_ios.specs.declared.draft.Place.{Place}
use Rattle.fws_ios.specs.declared.draft.Place.TheVariants.{Source, Destination}
use Rattle.fws_ios.specs.declared.words.PortWord.{PortWord}
use Rattle.fws_ios.specs.declared.words.PortWord.TheVariants as ports
use Rattle.fws_ios.specs.EntryText.{fresh_entry, expecting, with_literal, may_reflect, deciding, evaluate_step, action_step, sequence_step, with_protocol, protocol_step, behind_address, with_host, with_address, address_step, host_step, with_wildcard, wildcard_step, is_log, log_step, timeout_step, timeout_value_step, reflect_step, maybe_wildcard_step, with_established, established_step, code_step, with_type, type_step, behind_ports, behind_ports_step, ports_step, compared, port_step, last_port_step, further_port_step, expected_step, entry_step, may_end, entry_checks, entry_drawn, entry_made, entry_of}
use Rattle.fws_ios.specs.Keywords.{begins_with_digit, is, misplaced, misspelled, port_word}
use Rattle.fws_ios.specs.Soundness.{entry_fits}
use Rattle.fws_ios.specs.Values.{icmp_type_of, is_number, protocol_value, range_literal, wildcard_len}
use Rattle.fws_ios.proofs.Outcomes.{then_known, either_holds, found_holds, passed_holds, words_hold}

-- What holds of an entry so far

-- state is kept where it permits
abbrev KeptWhere : Bool → Bool → Type 0
KeptWhere permit reflect = (not reflect || permit) ≡ true

-- by what the next word is taken for
abbrev At : Expects → Bool → Bool → Type 0
At expect.Sequence permit reflect = reflect ≡ false
At expect.Action permit reflect = reflect ≡ false
At expect.ReflectName permit reflect = permit ≡ true
At _ permit reflect = KeptWhere permit reflect

abbrev Begun : EntryDraft → Type 0
Begun d = At d.expects d.permit d.reflect

abbrev Keeps : EntryDraft → Type 0
Keeps d = KeptWhere d.permit d.reflect

not_kept : (permit reflect : Bool) → reflect ≡ false → KeptWhere permit reflect
not_kept permit reflect h = ap (λ b. not b || permit) h

-- What an entry begins with

begins : (permit : Bool) (d : EntryDraft) → d.reflect ≡ false → Begun (deciding permit d)
begins permit d h =
    cond_both d.extended expect.Protocol (expect.Address Source) (λ next. At next permit d.reflect) (λ e. not_kept permit d.reflect h)
    (λ e. not_kept permit d.reflect h)

action_fits : (text : List ℕ) (d : EntryDraft) → d.reflect ≡ false → IfOk (action_step text d) Begun
action_fits text d h =
    either_holds Begun (is text (codes "permit")) (Ok (deciding true d)) _ (λ e. begins true d h)
    (λ e. either_holds Begun (is text (codes "deny")) (Ok (deciding false d)) _ (λ k. begins false d h)
    (λ k. either_holds Begun (is text (codes "evaluate")) (evaluate_step d) (Err (misplaced text))
    (λ l. either_holds Begun (may_reflect d) (Ok (expecting expect.EvaluateName d)) (Err LeftOut) (λ m. not_kept d.permit d.reflect h) (λ m. tt)) (λ l. tt)))

sequence_fits : (text : List ℕ) (d : EntryDraft) → d.reflect ≡ false → IfOk (sequence_step text d) Begun
sequence_fits text d h =
    either_holds Begun (begins_with_digit text) _ (action_step text d)
    (λ e. either_holds Begun (is_number text) (Ok (expecting expect.Action d)) (Err Syntax) (λ k. h) (λ k. tt)) (λ e. action_fits text d h)

-- Protocols and addresses

protocol_fits : (text : List ℕ) (d : EntryDraft) → Keeps d → IfOk (protocol_step text d) Begun
protocol_fits text d h = found_holds Begun (protocol_value text) (λ protocol. Ok (with_protocol protocol d)) (Err (misspelled text)) (λ protocol. h) tt

-- behind an address
behind : (place : Place) (d : EntryDraft) → Keeps d → At (behind_address place d) d.permit d.reflect
behind place d h = cond_both d.extended (expect.Ports place) expect.Reflect (λ next. At next d.permit d.reflect) (λ e. h) (λ e. h)

addressed : (place : Place) (addr : ℕ) (d : EntryDraft) → Keeps d → Begun (with_address place addr d)
addressed place addr d h =
    cond_both d.extended (expecting (expect.Wildcard place addr) d) (expecting (expect.MaybeWildcard addr) (with_host place addr d)) Begun (λ e. h) (λ e. h)

address_fits : (place : Place) (text : List ℕ) (d : EntryDraft) → Keeps d → IfOk (address_step place text d) Begun
address_fits place text d h =
    either_holds Begun (is text (codes "any")) (Ok (expecting (behind_address place d) d)) _ (λ e. behind place d h)
    (λ e. either_holds Begun (is text (codes "host")) (Ok (expecting (expect.Host place) d)) _ (λ k. h)
    (λ k. found_holds Begun (quad_of text) (λ addr. Ok (with_address place addr d)) (Err (misspelled text)) (λ addr. addressed place addr d h) tt))

host_fits : (place : Place) (text : List ℕ) (d : EntryDraft) → Keeps d → IfOk (host_step place text d) Begun
host_fits place text d h = found_holds Begun (quad_of text) (λ addr. Ok (with_host place addr d)) (Err Syntax) (λ addr. behind place d h) tt

covered : (place : Place) (addr : ℕ) (len : Option ℕ) (d : EntryDraft) → Keeps d → Begun (with_wildcard place addr len d)
covered place addr None d h = behind place d h
covered place addr (Some n) d h = behind place d h

wildcard_fits : (place : Place) (addr : ℕ) (text : List ℕ) (d : EntryDraft) → Keeps d → IfOk (wildcard_step place addr text d) Begun
wildcard_fits place addr text d h =
    found_holds Begun (quad_of text) (λ wildcard. Ok (with_wildcard place addr (wildcard_len wildcard) d)) (Err Syntax)
    (λ wildcard. covered place addr (wildcard_len wildcard) d h) tt

-- What stands behind the destination

log_fits : (cause : Cause) (text : List ℕ) (d : EntryDraft) → Keeps d → IfOk (log_step cause text d) Begun
log_fits cause text d h = either_holds Begun (is_log d.extended text) (Ok (expecting expect.Nothing d)) (Err cause) (λ e. h) (λ e. tt)

timeout_fits : (text : List ℕ) (d : EntryDraft) → Keeps d → IfOk (timeout_step text d) Begun
timeout_fits text d h =
    either_holds Begun (is text (codes "timeout")) (Ok (expecting expect.TimeoutValue d)) (log_step (misplaced text) text d) (λ e. h)
    (λ e. log_fits (misplaced text) text d h)

timeout_value_fits : (text : List ℕ) (d : EntryDraft) → Keeps d → IfOk (timeout_value_step text d) Begun
timeout_value_fits text d h = either_holds Begun (is_number text) (Ok (expecting expect.Log d)) (Err Syntax) (λ e. h) (λ e. tt)

reflect_fits : (cause : Cause) (text : List ℕ) (d : EntryDraft) → Keeps d → IfOk (reflect_step cause text d) Begun
reflect_fits cause text d h =
    either_holds Begun (is text (codes "reflect")) _ (log_step cause text d)
    (λ e. either_holds Begun (may_reflect d && d.permit) (Ok (expecting expect.ReflectName d)) (Err LeftOut) (λ k. (and_parts (may_reflect d) d.permit k).1) (λ k. tt))
    (λ e. log_fits cause text d h)

maybe_wildcard_fits : (addr : ℕ) (text : List ℕ) (d : EntryDraft) → Keeps d → IfOk (maybe_wildcard_step addr text d) Begun
maybe_wildcard_fits addr text d h =
    found_holds Begun (quad_of text) (λ wildcard. Ok (with_wildcard Source addr (wildcard_len wildcard) (record d { cond = [] }))) (reflect_step (misspelled text) text d)
    (λ wildcard. covered Source addr (wildcard_len wildcard) (record d { cond = [] }) h) (reflect_fits (misspelled text) text d h)

established_fits : (cause : Cause) (text : List ℕ) (d : EntryDraft) → Keeps d → IfOk (established_step cause text d) Begun
established_fits cause text d h =
    either_holds Begun (is text (codes "established")) (Ok (with_established d)) (reflect_step cause text d) (λ e. h) (λ e. reflect_fits cause text d h)

code_fits : (text : List ℕ) (d : EntryDraft) → Keeps d → IfOk (code_step text d) Begun
code_fits text d h =
    either_holds Begun (is_number text) (Err LeftOut) (established_step (misplaced text) text d) (λ e. tt) (λ e. established_fits (misplaced text) text d h)

type_fits : (text : List ℕ) (d : EntryDraft) → Keeps d → IfOk (type_step text d) Begun
type_fits text d h =
    found_holds Begun (icmp_type_of text) (λ n. Ok (with_type n d)) (established_step (misspelled text) text d) (λ n. h) (established_fits (misspelled text) text d h)

-- Ports

-- behind the ports of an end
at_behind_ports : (place : Place) (permit reflect : Bool) → KeptWhere permit reflect → At (behind_ports place) permit reflect
at_behind_ports Source permit reflect h = h
at_behind_ports Destination permit reflect h = h

behind_ports_fit : (place : Place) (text : List ℕ) (d : EntryDraft) → Keeps d → IfOk (behind_ports_step place text d) Begun
behind_ports_fit Source text d h = address_fits Destination text d h
behind_ports_fit Destination text d h = type_fits text d h

ports_fit : (place : Place) (text : List ℕ) (d : EntryDraft) → Keeps d → IfOk (ports_step place text d) Begun
ports_fit place text d h =
    found_holds Begun (port_word text) (λ word. Ok (expecting (expect.Port place word) (record d { has_ports = true }))) (behind_ports_step place text d) (λ word. h)
    (behind_ports_fit place text d h)

compared_fits : (place : Place) (word : PortWord) (port : ℕ) (d : EntryDraft) → Keeps d → Begun (compared place word port d)
compared_fits place ports.Equal port d h = h
compared_fits place ports.Range port d h = h
compared_fits place _ port d h = at_behind_ports place d.permit d.reflect h

port_fits : (place : Place) (word : PortWord) (text : List ℕ) (d : EntryDraft) → Keeps d → IfOk (port_step place word text d) Begun
port_fits place word text d h = found_holds Begun (port_of text) (λ port. Ok (compared place word port d)) (Err Syntax) (λ port. compared_fits place word port d h) tt

last_port_fits : (place : Place) (first : ℕ) (text : List ℕ) (d : EntryDraft) → Keeps d → IfOk (last_port_step place first text d) Begun
last_port_fits place first text d h =
    found_holds Begun (port_of text) _ (Err Syntax)
    (λ last. either_holds Begun (nat_le first last) (Ok (expecting (behind_ports place) (with_literal (range_literal place first last) d))) (Err Syntax)
    (λ e. at_behind_ports place d.permit d.reflect h) (λ e. tt)) tt

further_port_fits : (place : Place) (text : List ℕ) (d : EntryDraft) → Keeps d → IfOk (further_port_step place text d) Begun
further_port_fits place text d h =
    either_holds Begun (is_some (port_of text)) (Err LeftOut) (behind_ports_step place text d) (λ e. tt) (λ e. behind_ports_fit place text d h)

-- Words

expected_fits : (expects : Expects) (text : List ℕ) (d : EntryDraft) → At expects d.permit d.reflect → IfOk (expected_step expects text d) Begun
expected_fits expect.Sequence text d h = sequence_fits text d h
expected_fits expect.Action text d h = action_fits text d h
expected_fits expect.EvaluateName text d h = or_right (not d.reflect) true refl
expected_fits expect.Protocol text d h = protocol_fits text d h
expected_fits (expect.Address place) text d h = address_fits place text d h
expected_fits (expect.Host place) text d h = host_fits place text d h
expected_fits (expect.Wildcard place addr) text d h = wildcard_fits place addr text d h
expected_fits (expect.MaybeWildcard addr) text d h = maybe_wildcard_fits addr text d h
expected_fits (expect.Ports place) text d h = ports_fit place text d h
expected_fits (expect.Port place word) text d h = port_fits place word text d h
expected_fits (expect.LastPort place first) text d h = last_port_fits place first text d h
expected_fits (expect.FurtherPort place) text d h = further_port_fits place text d h
expected_fits expect.Type text d h = type_fits text d h
expected_fits expect.Code text d h = code_fits text d h
expected_fits expect.Reflect text d h = reflect_fits (misplaced text) text d h
expected_fits expect.ReflectName text d h = h
expected_fits expect.Timeout text d h = timeout_fits text d h
expected_fits expect.TimeoutValue text d h = timeout_value_fits text d h
expected_fits expect.Log text d h = log_fits (misplaced text) text d h
expected_fits expect.Nothing text d h = tt

-- The whole entry

begins_fresh : (extended opened : Bool) → Begun (fresh_entry extended opened)
begins_fresh extended opened = cond_both opened expect.Sequence expect.Action (λ next. At next false false) (λ e. refl) (λ e. refl)

kept_at_end : (expects : Expects) (permit reflect : Bool) → At expects permit reflect → may_end expects ≡ true → KeptWhere permit reflect
kept_at_end expect.Sequence permit reflect h e = absurd (false≢true e)
kept_at_end expect.Action permit reflect h e = absurd (false≢true e)
kept_at_end expect.ReflectName permit reflect h e = absurd (false≢true e)
kept_at_end _ permit reflect h e = h

abbrev pub EntryFits : IosEntry → Type 0
EntryFits entry = entry_fits entry ≡ true

made_fits : (d : EntryDraft) → Begun d → IfOk (entry_made d) EntryFits
made_fits d h =
    either_holds EntryFits (may_end d.expects) (checked (entry_checks d) (entry_drawn d)) (Err Syntax)
    (λ e. passed_holds EntryFits (entry_checks d) (entry_drawn d) (kept_at_end d.expects d.permit d.reflect h e)) (λ e. tt)

pub entry_is_fitting : (extended opened : Bool) (ws : List Word) → IfOk (entry_of extended opened ws) EntryFits
entry_is_fitting extended opened ws =
    then_known Begun EntryFits (words_read entry_step (fresh_entry extended opened) ws) entry_made
    (words_hold Begun entry_step (λ d w h. expected_fits d.expects w.text d h) (fresh_entry extended opened) ws (begins_fresh extended opened)) made_fits
