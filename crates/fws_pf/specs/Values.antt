-- Values and lists of values in braces: interfaces, protocols, addresses, ports and types of ICMP messages (pf.conf(5)).
use Rattle.std.specs.Prelude.{ℕ, ◌+◌, ◌-◌, Bool, true, false, ◌&&◌, ◌||◌, nat_le, nat_lt, Option, Some, None, option_map, option_and_then, Result, Ok, Err, List, [], ◌∷◌, ◌++◌, codes, if◌then◌else◌}
use Rattle.std.specs.List.{list_any}
use Rattle.std.specs.Option.{option_map_or, option_or, ok_or}
use Rattle.std.specs.Str.{bytes_eq}
use Rattle.fws_iv.specs.declared.iv.Iv.{Iv}
use Rattle.fws_iv.specs.Ivs.{with_range, with_ranges}
use Rattle.fws_num.specs.declared.word.Word.{Word}
use Rattle.fws_num.specs.Named.{named_in}
use Rattle.fws_num.specs.Numbers.{dec_of, is_digit, prefix_of, quad_of, split_once}
use Rattle.fws_num.specs.Protocols.{protocol_of}
use Rattle.fws_num.specs.Services.{port_of, ports_between}
use Rattle.fws_net.specs.declared.cause.Cause.{Cause}
use Rattle.fws_net.specs.declared.cause.Cause.TheVariants.{Syntax, LeftOut, NoInterface, NoName}
use Rattle.fws_net.specs.declared.packet.Lang.TheVariants.{Pf}
use Rattle.fws_net.specs.declared.site.Site.{Site}
use Rattle.fws_net.specs.Faces.{all_own_ranges, entry_named, face_addrs, face_nets, loopback_addr, prefix_parts}
use Rattle.fws_net.specs.Ports.{in_order}
use Rattle.fws_net.specs.Reading.{and_then}
use Rattle.fws_rules.specs.Literals.{one}
use Rattle.fws_pf.specs.declared.tables.Table.{Table}
use Rattle.fws_pf.specs.declared.value_draft.ValueKind.{ValueKind}
use Rattle.fws_pf.specs.declared.value_draft.ValueKind.TheVariants as kinds
use Rattle.fws_pf.specs.declared.value_draft.Part.{Part}
use Rattle.fws_pf.specs.declared.value_draft.Part.TheVariants as parts
use Rattle.fws_pf.specs.declared.value_draft.Operator.{Operator}
use Rattle.fws_pf.specs.declared.value_draft.Operator.TheVariants as operators
use Rattle.fws_pf.specs.declared.value_draft.ValueExpects.{ValueExpects}
use Rattle.fws_pf.specs.declared.value_draft.ValueExpects.TheVariants as expect
use Rattle.fws_pf.specs.declared.value_draft.ValueDraft.{ValueDraft}
use Rattle.fws_pf.specs.Statements.{is_mark}
use Rattle.fws_pf.specs.Tables.{has_table}

-- where words are read: at a site, among the tables that the text defines, if they are known yet, of which those ahead have
-- taken their names
pub record Setting : Type 0 where
  pub site : Site
  pub tables : Option (List Table)
  pub taken : List (List ℕ)

-- a table has this name; while they aren't known each name may be one
abbrev pub is_table : Setting → List ℕ → Bool
is_table setting name = option_map_or (λ tables. has_table tables name) setting.tables true

abbrev pub is_taken : Setting → List ℕ → Bool
is_taken setting name = list_any (bytes_eq name) setting.taken

-- Drafts

abbrev pub fresh_value : ValueKind → ValueDraft
fresh_value kind = record { kind = kind; expects = expect.Value; in_list = false; negated = false; items = [] }

abbrev pub value_expecting : ValueExpects → ValueDraft → ValueDraft
value_expecting next d = record d { expects = next }

-- a value stands there, and behind it comes what stands behind a value
abbrev pub with_part : Part → ValueDraft → ValueDraft
with_part part d = record d {
  expects = if d.in_list then expect.Next else expect.Nothing;
  negated = false;
  items = d.items ++ (record { negated = d.negated; part = part }) ∷ [];
}

-- A word is taken, or it isn't one of the value, which has ended ahead of it

abbrev pub taken : ValueDraft → Result (ValueDraft × Bool) Cause
taken d = Ok (d, true)

abbrev pub passed : ValueDraft → Result (ValueDraft × Bool) Cause
passed d = Ok (d, false)

abbrev pub taking : Part → ValueDraft → Result (ValueDraft × Bool) Cause
taking part d = taken (with_part part d)

-- a value that is read of a word
abbrev pub part_taken : Result Part Cause → ValueDraft → Result (ValueDraft × Bool) Cause
part_taken read d = and_then read (λ part. taking part d)

abbrev pub begins_with_digit : List ℕ → Bool
begins_with_digit [] = false
begins_with_digit (c ∷ cs) = is_digit c

-- punctuation outside quotes
abbrev pub marks : List (List ℕ)
marks =
    codes "{" ∷ codes "}" ∷ codes "(" ∷ codes ")" ∷ codes "<" ∷ codes ">" ∷ codes "," ∷ codes "=" ∷ codes "!" ∷ codes "->" ∷ codes "><" ∷
    codes "<>" ∷ codes "!=" ∷ codes "<=" ∷ codes ">=" ∷ []

abbrev pub is_any_mark : Word → Bool
is_any_mark w = list_any (is_mark w) marks

-- what a word that isn't punctuation is read as
abbrev pub no_mark : {X : Type 0} → Word → Result X Cause → Result X Cause
no_mark w read = if is_any_mark w then Err Syntax else read

-- Interfaces

-- the entry of the interface that pf calls so; `lo` stands for loopback where no interface has this name
abbrev pub entry_of : Site → List ℕ → Option ℕ
entry_of site text = option_or (entry_named Pf site text) (if bytes_eq text (codes "lo") then Some 1 else None)

abbrev pub interface_part : Site → List ℕ → Result Part Cause
interface_part site text = ok_or (option_map (λ entry. parts.Set (one entry entry)) (entry_of site text)) NoInterface

-- Protocols and types of ICMP messages

abbrev pub protocol_part : List ℕ → Result Part Cause
protocol_part text = ok_or (option_map (λ n. parts.Set (one n n)) (protocol_of text)) Syntax

abbrev pub icmp_types : List (List ℕ × ℕ)
icmp_types = (codes "echorep", 0) ∷ (codes "unreach", 3) ∷ (codes "echoreq", 8) ∷ (codes "timex", 11) ∷ []

unfoldable pub icmp_type_named : List ℕ → Option ℕ
icmp_type_named text = named_in icmp_types text

abbrev pub icmp_type_of : List ℕ → Option ℕ
icmp_type_of text = option_map_or Some (dec_of text 255) (icmp_type_named text)

abbrev pub icmp_type_part : List ℕ → Result Part Cause
icmp_type_part text =
    if bytes_eq text (codes "code") then Err LeftOut else ok_or (option_map (λ n. parts.Set (one n n)) (icmp_type_of text)) Syntax

-- Addresses

-- the addresses of all interfaces, and 127.0.0.1
abbrev pub self_set : Site → List Iv
self_set site = with_range loopback_addr loopback_addr (with_ranges [] (all_own_ranges site.faces))

-- what stands behind a colon is left out, or it is no form of an address
abbrev pub modified : List ℕ → Cause
modified text = if list_any (bytes_eq text) (codes "broadcast" ∷ codes "peer" ∷ codes "0" ∷ []) then LeftOut else Syntax

-- the networks of an interface, whose name begins with no digit
abbrev pub networks_part : Site → List ℕ → Result Part Cause
networks_part site name =
    if begins_with_digit name then Err Syntax else ok_or (option_map (λ entry. parts.Set (face_nets site entry)) (entry_named Pf site name)) NoInterface

abbrev pub modified_part : Site → List ℕ × List ℕ → Result Part Cause
modified_part site halves =
    if bytes_eq halves.1 (codes "network") then networks_part site halves.0 else Err (modified halves.1)

-- the addresses of an interface
abbrev pub face_part : Site → List ℕ → Result Part Cause
face_part site name = ok_or (option_map (λ entry. parts.Set (face_addrs site entry)) (entry_named Pf site name)) NoInterface

-- a network, or the name of an interface
abbrev pub network_part : Site → List ℕ → Result Part Cause
network_part site text =
    option_map_or (λ net. Ok (parts.Set (prefix_parts net))) (prefix_of text) (if begins_with_digit text then Err Syntax else face_part site text)

-- words that say where a packet has no route, or the wrong one
abbrev pub is_route_word : List ℕ → Bool
is_route_word text = bytes_eq text (codes "no-route") || bytes_eq text (codes "urpf-failed")

-- addresses, but for an address by itself
abbrev pub host_part : Site → List ℕ → Result Part Cause
host_part site text =
    if bytes_eq text (codes "any") then Ok parts.Every
    else if bytes_eq text (codes "self") then Ok (parts.Set (self_set site))
    else if is_route_word text then Err LeftOut
    else option_map_or (modified_part site) (split_once 58 text) (network_part site text)

-- an address may begin a range
abbrev pub host_word : Site → List ℕ → ValueDraft → Result (ValueDraft × Bool) Cause
host_word site text d =
    option_map_or (λ addr. taken (value_expecting (expect.RangeSign addr) d)) (quad_of text) (part_taken (host_part site text) d)

-- addresses by a word, the name of a table or that of an interface
abbrev pub host_step : Site → Word → ValueDraft → Result (ValueDraft × Bool) Cause
host_step site w d =
    if is_mark w (codes "<") then taken (value_expecting expect.TableName d)
    else if is_mark w (codes "(") then taken (value_expecting expect.FaceName d)
    else no_mark w (host_word site w.text d)

abbrev pub table_name_step : Setting → Word → ValueDraft → Result (ValueDraft × Bool) Cause
table_name_step setting w d =
    no_mark w (if is_table setting w.text then taken (record (with_part (parts.Table w.text) d) { expects = expect.TableEnd }) else Err NoName)

-- the name of an interface alone stands in parentheses
abbrev pub face_name_part : Site → List ℕ → Result Part Cause
face_name_part site text = option_map_or (λ halves. Err (modified halves.1)) (split_once 58 text) (face_part site text)

abbrev pub face_name_step : Setting → Word → ValueDraft → Result (ValueDraft × Bool) Cause
face_name_step setting w d =
    no_mark w (and_then (face_name_part setting.site w.text) (λ part. taken (record (with_part part d) { expects = expect.FaceEnd })))

-- behind a value: nothing more of it, or in a list what follows
abbrev pub behind_value : ValueDraft → ValueDraft
behind_value d = record d { expects = if d.in_list then expect.Next else expect.Nothing }

-- this punctuation, behind which the value has ended
abbrev pub end_step : List ℕ → Word → ValueDraft → Result (ValueDraft × Bool) Cause
end_step mark w d = if is_mark w mark then taken (behind_value d) else Err Syntax

-- the last address of a range, no less than the first
abbrev pub range_part : ℕ → List ℕ → Result Part Cause
range_part lo text = option_map_or (λ hi. if nat_le lo hi then Ok (parts.Set (one lo hi)) else Err Syntax) (quad_of text) (Err Syntax)

abbrev pub range_end_step : ℕ → Word → ValueDraft → Result (ValueDraft × Bool) Cause
range_end_step lo w d = part_taken (range_part lo w.text) d

-- Ports

-- the numbers from lo on and below the end
abbrev pub from_below : ℕ → ℕ → List Iv
from_below lo end = if nat_lt lo end then one lo (end - 1) else []

-- the ports that an operator compares so with n
abbrev pub compared_ports : Operator → ℕ → List Iv
compared_ports operators.Equal n = one n n
compared_ports operators.Unequal n = from_below 0 n ++ from_below (n + 1) 65536
compared_ports operators.Less n = from_below 0 n
compared_ports operators.AtMost n = from_below 0 (n + 1)
compared_ports operators.Greater n = from_below (n + 1) 65536
compared_ports operators.AtLeast n = from_below n 65536

-- the ports less than a or greater than b, of which each may be the greater one
abbrev pub ports_outside : ℕ → ℕ → List Iv
ports_outside a b = if nat_le a b then from_below 0 a ++ from_below (b + 1) 65536 else one 0 65535

-- the ports greater than a and less than b, or else outside of these
abbrev pub ports_by_ends : Bool → ℕ → ℕ → List Iv
ports_by_ends true a b = ports_outside a b
ports_by_ends false a b = from_below (a + 1) b

abbrev pub operators_by_mark : List (List ℕ × Operator)
operators_by_mark =
    (codes "=", operators.Equal) ∷ (codes "!=", operators.Unequal) ∷ (codes "<", operators.Less) ∷ (codes "<=", operators.AtMost) ∷
    (codes ">", operators.Greater) ∷ (codes ">=", operators.AtLeast) ∷ []

unfoldable pub operator_named : List ℕ → Option Operator
operator_named text = named_in operators_by_mark text

-- the operator that punctuation stands for
abbrev pub operator_of : Word → Option Operator
operator_of w = if w.quoted then None else operator_named w.text

-- two ports with a colon between
abbrev pub port_range_part : List ℕ → Result Part Cause
port_range_part text = ok_or (option_map (λ range. parts.Set (one range.0 range.1)) (option_and_then in_order (ports_between 58 text))) Syntax

-- a port may stand before `><` and `<>`
abbrev pub port_word : List ℕ → ValueDraft → Result (ValueDraft × Bool) Cause
port_word text d =
    option_map_or (λ n. taken (value_expecting (expect.PortSign n) d)) (port_of text) (part_taken (port_range_part text) d)

abbrev pub port_step : Word → ValueDraft → Result (ValueDraft × Bool) Cause
port_step w d = option_map_or (λ operator. taken (value_expecting (expect.Operand operator) d)) (operator_of w) (no_mark w (port_word w.text d))

-- a port with the ports that it stands for; punctuation is none
abbrev pub port_taken : (ℕ → List Iv) → Word → ValueDraft → Result (ValueDraft × Bool) Cause
port_taken ports w d = part_taken (ok_or (option_map (λ n. parts.Set (ports n)) (port_of w.text)) Syntax) d

-- Values by their kinds

-- a value that isn't negated here
abbrev pub plain_step : Setting → Word → ValueDraft → ValueKind → Result (ValueDraft × Bool) Cause
plain_step setting w d kinds.Interface = no_mark w (part_taken (interface_part setting.site w.text) d)
plain_step setting w d kinds.Protocol = no_mark w (part_taken (protocol_part w.text) d)
plain_step setting w d kinds.Host = host_step setting.site w d
plain_step setting w d kinds.Member = host_step setting.site w d
plain_step setting w d kinds.Port = port_step w d
plain_step setting w d kinds.IcmpType = no_mark w (part_taken (icmp_type_part w.text) d)

-- what `!` does ahead of a value of a kind
abbrev pub negating : ValueKind → ValueDraft → Result (ValueDraft × Bool) Cause
negating kinds.Interface d = taken (record d { negated = true; expects = expect.Negated })
negating kinds.Host d = taken (record d { negated = true; expects = expect.Negated })
negating kinds.Member d = Err LeftOut
negating _ d = Err Syntax

-- a value of a list, or one that stands alone
abbrev pub item_step : Setting → Word → ValueDraft → Result (ValueDraft × Bool) Cause
item_step setting w d = if is_mark w (codes "!") then negating d.kind d else plain_step setting w d d.kind

abbrev pub begin_step : Setting → Word → ValueDraft → Result (ValueDraft × Bool) Cause
begin_step setting w d =
    if is_mark w (codes "{") then taken (record d { in_list = true; expects = expect.First }) else item_step setting w d

-- a list of this kind may be empty
abbrev pub may_be_empty : ValueKind → Bool
may_be_empty kinds.Member = true
may_be_empty _ = false

abbrev pub first_step : Setting → Word → ValueDraft → Result (ValueDraft × Bool) Cause
first_step setting w d =
    if is_mark w (codes "}") && may_be_empty d.kind then taken (value_expecting expect.Nothing d) else item_step setting w d

-- behind a value of a list
abbrev pub next_step : Setting → Word → ValueDraft → Result (ValueDraft × Bool) Cause
next_step setting w d =
    if is_mark w (codes ",") then taken (value_expecting expect.Item d)
    else if is_mark w (codes "}") then taken (value_expecting expect.Nothing d) else item_step setting w d

-- behind a value that has ended without knowing it
abbrev pub after_part : Setting → Part → Word → ValueDraft → Result (ValueDraft × Bool) Cause
after_part setting part w d = if d.in_list then next_step setting w (with_part part d) else passed (with_part part d)

abbrev pub range_sign_step : Setting → ℕ → Word → ValueDraft → Result (ValueDraft × Bool) Cause
range_sign_step setting addr w d =
    if bytes_eq w.text (codes "-") then taken (value_expecting (expect.RangeEnd addr) d)
    else after_part setting (parts.Set (one addr addr)) w d

abbrev pub port_sign_step : Setting → ℕ → Word → ValueDraft → Result (ValueDraft × Bool) Cause
port_sign_step setting n w d =
    if is_mark w (codes "><") then taken (value_expecting (expect.PortEnd false n) d)
    else if is_mark w (codes "<>") then taken (value_expecting (expect.PortEnd true n) d)
    else after_part setting (parts.Set (one n n)) w d

-- a word of a value, or the one behind it
abbrev pub value_expected_step : Setting → ValueExpects → Word → ValueDraft → Result (ValueDraft × Bool) Cause
value_expected_step setting expect.Value w d = begin_step setting w d
value_expected_step setting expect.First w d = first_step setting w d
value_expected_step setting expect.Item w d = item_step setting w d
value_expected_step setting expect.Next w d = next_step setting w d
value_expected_step setting expect.Negated w d = plain_step setting w d d.kind
value_expected_step setting expect.TableName w d = table_name_step setting w d
value_expected_step setting expect.TableEnd w d = end_step (codes ">") w d
value_expected_step setting expect.FaceName w d = face_name_step setting w d
value_expected_step setting expect.FaceEnd w d = end_step (codes ")") w d
value_expected_step setting (expect.RangeSign addr) w d = range_sign_step setting addr w d
value_expected_step setting (expect.RangeEnd addr) w d = range_end_step addr w d
value_expected_step setting (expect.Operand operator) w d = port_taken (compared_ports operator) w d
value_expected_step setting (expect.PortSign n) w d = port_sign_step setting n w d
value_expected_step setting (expect.PortEnd outside n) w d = port_taken (ports_by_ends outside n) w d
value_expected_step setting expect.Nothing w d = passed d

abbrev pub value_step : Setting → Word → ValueDraft → Result (ValueDraft × Bool) Cause
value_step setting w d = value_expected_step setting d.expects w d

-- the value has ended
abbrev pub has_ended : ValueExpects → Bool
has_ended expect.Nothing = true
has_ended _ = false

-- a value that stands alone, behind which nothing follows
abbrev pub alone : Part → ValueDraft → Option ValueDraft
alone part d = if d.in_list then None else Some (with_part part d)

-- the value where the statement ends; none where a word lacks
abbrev pub ended_value : ValueExpects → ValueDraft → Option ValueDraft
ended_value expect.Nothing d = Some d
ended_value (expect.RangeSign addr) d = alone (parts.Set (one addr addr)) d
ended_value (expect.PortSign n) d = alone (parts.Set (one n n)) d
ended_value _ d = None
