-- What a translation writes, behind its arrow (pf.conf(5)).
use Rattle.std.specs.Prelude.{ℕ, Bool, true, false, ◌&&◌, ◌||◌, not, nat_eq, Some, None, is_some, option_map, Result, Ok, Err, List, codes, if◌then◌else◌}
use Rattle.std.specs.Option.{option_map_or, ok_or}
use Rattle.std.specs.Str.{bytes_eq}
use Rattle.fws_num.specs.declared.prefix.Prefix.{Prefix}
use Rattle.fws_num.specs.declared.word.Word.{Word}
use Rattle.fws_num.specs.Numbers.{prefix_of, quad_of, split_once}
use Rattle.fws_num.specs.Services.{port_of, ports_between}
use Rattle.fws_net.specs.declared.cause.Cause.{Cause}
use Rattle.fws_net.specs.declared.cause.Cause.TheVariants.{Syntax, LeftOut, NoInterface}
use Rattle.fws_net.specs.declared.packet.Lang.TheVariants.{Pf}
use Rattle.fws_net.specs.declared.site.Site.{Site}
use Rattle.fws_net.specs.Faces.{entry_named, face_addr}
use Rattle.fws_net.specs.Reading.{and_then}
use Rattle.fws_pf.specs.declared.rule_draft.Expects.{Expects}
use Rattle.fws_pf.specs.declared.rule_draft.Expects.TheVariants as expect
use Rattle.fws_pf.specs.declared.rule_draft.RuleDraft.{RuleDraft}
use Rattle.fws_pf.specs.declared.rule_draft.Target.{Target}
use Rattle.fws_pf.specs.declared.rule_draft.Verb.{Verb}
use Rattle.fws_pf.specs.declared.rule_draft.Verb.TheVariants as verbs
use Rattle.fws_pf.specs.Drafts.{going, is, misplaced_word}
use Rattle.fws_pf.specs.Statements.{is_mark}
use Rattle.fws_pf.specs.Values.{begins_with_digit, modified, no_mark}

-- Addresses

abbrev pub with_target : Target → Expects → RuleDraft → RuleDraft
with_target target next d = record d { target = Some target; expects = next }

-- an address, which may be that of an interface, or a network
abbrev pub target_at : Prefix → Bool → Target
target_at net is_face = record { net = net; is_face = is_face; is_mapped = false; is_static = false; port = None }

abbrev pub host_net : ℕ → Prefix
host_net addr = record { addr = addr; len = 32 }

-- the first address of an interface
abbrev pub face_target : Site → List ℕ → Result Target Cause
face_target site name = ok_or (option_map (λ entry. target_at (host_net (face_addr site entry)) true) (entry_named Pf site name)) NoInterface

-- an interface by its name, behind which no colon stands
abbrev pub named_target : Site → List ℕ → Result Target Cause
named_target site text = option_map_or (λ halves. Err (modified halves.1)) (split_once 58 text) (face_target site text)

-- a network is left out where it has every address
abbrev pub network_target : Prefix → RuleDraft → Result RuleDraft Cause
network_target net d = if nat_eq net.len 0 then Err LeftOut else Ok (with_target (target_at net false) expect.Bitmask d)

-- the name of an interface
abbrev pub name_target : Site → List ℕ → RuleDraft → Result RuleDraft Cause
name_target site text d =
    if begins_with_digit text then option_map_or (λ halves. Err (modified halves.1)) (split_once 58 text) (Err Syntax)
    else and_then (named_target site text) (λ target. Ok (with_target target expect.Targeted d))

abbrev pub target_word : Site → List ℕ → RuleDraft → Result RuleDraft Cause
target_word site text d =
    option_map_or (λ addr. Ok (with_target (target_at (host_net addr) false) expect.Targeted d)) (quad_of text)
    (option_map_or (λ net. network_target net d) (prefix_of text) (name_target site text d))

-- behind the arrow
abbrev pub target_step : Site → Word → RuleDraft → Result RuleDraft Cause
target_step site w d =
    if is_mark w (codes "(") then going expect.TargetName d
    else if is_mark w (codes "{") then Err LeftOut
    else no_mark w (target_word site w.text d)

-- the name of an interface in parentheses
abbrev pub target_name_step : Site → Word → RuleDraft → Result RuleDraft Cause
target_name_step site w d = no_mark w (and_then (named_target site w.text) (λ target. Ok (with_target target expect.TargetEnd d)))

abbrev pub target_end_step : Word → RuleDraft → Result RuleDraft Cause
target_end_step w d = if is_mark w (codes ")") then going expect.Targeted d else Err Syntax

-- What stands behind an address

abbrev pub mapped : Target → Target
mapped t = record t { is_mapped = true }

abbrev pub kept_static : Target → Target
kept_static t = record t { is_static = true }

-- the target of a rule that has one
abbrev pub by_target : RuleDraft → (Target → Result RuleDraft Cause) → Result RuleDraft Cause
by_target d f = option_map_or f d.target (Err Syntax)

-- a network is left out without `bitmask`, whatever follows
abbrev pub bitmask_of : Verb → Word → RuleDraft → Target → Result RuleDraft Cause
bitmask_of verbs.Nat w d t =
    if is w (codes "bitmask") then Ok (with_target (mapped t) expect.Targeted d)
    else if is w (codes "static-port") && not t.is_static then Ok (with_target (kept_static t) expect.Bitmask d)
    else Err LeftOut
bitmask_of _ w d t = if is w (codes "bitmask") then Ok (with_target (mapped t) expect.Targeted d) else Err LeftOut

abbrev pub bitmask_step : Word → RuleDraft → Result RuleDraft Cause
bitmask_step w d = by_target d (bitmask_of d.verb w d)

-- `bitmask` may stand behind the target
abbrev pub may_be_mapped : Target → Bool
may_be_mapped t = not t.is_face && not t.is_mapped

-- no more words may stand behind the source that a translation writes
abbrev pub is_complete : Target → Bool
is_complete t = t.is_static && not (may_be_mapped t)

-- a mapped network has no port, and nothing more
abbrev pub rdr_targeted : Word → RuleDraft → Target → Result RuleDraft Cause
rdr_targeted w d t =
    if t.is_mapped then Err (if is w (codes "port") then LeftOut else Syntax)
    else if is w (codes "port") then going expect.TargetPort d
    else if is w (codes "bitmask") && may_be_mapped t then Ok (with_target (mapped t) expect.Targeted d)
    else misplaced_word w

-- a source keeps its port, whether `static-port` stands there or not
abbrev pub nat_targeted : Word → RuleDraft → Target → Result RuleDraft Cause
nat_targeted w d t =
    if is w (codes "port") then Err LeftOut
    else if is_complete t then Err Syntax
    else if is w (codes "static-port") && not t.is_static then Ok (with_target (kept_static t) expect.Targeted d)
    else if is w (codes "bitmask") && may_be_mapped t then Ok (with_target (mapped t) expect.Targeted d)
    else misplaced_word w

abbrev pub targeted_by : Verb → Word → RuleDraft → Target → Result RuleDraft Cause
targeted_by verbs.Nat w d t = nat_targeted w d t
targeted_by _ w d t = rdr_targeted w d t

abbrev pub targeted_step : Word → RuleDraft → Result RuleDraft Cause
targeted_step w d = by_target d (targeted_by d.verb w d)

-- ranges of ports: two with a colon between, or one and `*`
abbrev pub is_port_range : List ℕ → Bool
is_port_range text =
    is_some (ports_between 58 text)
    || option_map_or (λ halves. is_some (port_of halves.0) && bytes_eq halves.1 (codes "*")) (split_once 58 text) false

abbrev pub with_port : ℕ → Target → Target
with_port n t = record t { port = Some n }

abbrev pub target_port : List ℕ → Result ℕ Cause
target_port text = ok_or (port_of text) (if is_port_range text then LeftOut else Syntax)

-- the port of a destination
abbrev pub target_port_step : Word → RuleDraft → Result RuleDraft Cause
target_port_step w d =
    no_mark w (by_target d (λ t. and_then (target_port w.text) (λ n. Ok (with_target (with_port n t) expect.Ended d))))

-- behind a port: ranges and `bitmask` are left out
abbrev pub ended_step : Word → RuleDraft → Result RuleDraft Cause
ended_step w d = Err (if is_mark w (codes "><") || is_mark w (codes "<>") || is w (codes "bitmask") then LeftOut else Syntax)
