-- An instance of address translation behind its number: an address or an interface, and redirects (ipfw(8)).
use Rattle.std.specs.Prelude.{ℕ, Bool, true, false, ◌&&◌, nat_eq, Option, Some, None, is_some, is_none, Result, Ok, Err, List, [], ◌∷◌, ◌++◌, map, codes, if◌then◌else◌}
use Rattle.std.specs.List.{list_any}
use Rattle.std.specs.Option.{option_map_or, ok_or}
use Rattle.std.specs.Str.{bytes_eq}
use Rattle.fws_num.specs.declared.word.Word.{Word}
use Rattle.fws_num.specs.Named.{named_in}
use Rattle.fws_num.specs.Numbers.{quad_of, split_once}
use Rattle.fws_num.specs.Services.{port_of, ports_between}
use Rattle.fws_net.specs.declared.cause.Cause.{Cause}
use Rattle.fws_net.specs.declared.cause.Cause.TheVariants.{Syntax, LeftOut, NoInterface}
use Rattle.fws_net.specs.declared.cause.Checks.{Checks}
use Rattle.fws_net.specs.declared.outcome.End.{End}
use Rattle.fws_net.specs.declared.packet.Lang.TheVariants.{Ipfw}
use Rattle.fws_net.specs.declared.site.Site.{Site}
use Rattle.fws_net.specs.Causes.{checked, words_read}
use Rattle.fws_net.specs.Ends.{host_end}
use Rattle.fws_net.specs.Faces.{entry_named, face_addr}
use Rattle.fws_net.specs.Reading.{and_then}
use Rattle.fws_ipfw.specs.declared.config.IpfwNat.{IpfwNat}
use Rattle.fws_ipfw.specs.declared.config.Redirect.{Redirect}
use Rattle.fws_ipfw.specs.declared.words.NatWord.{NatWord}
use Rattle.fws_ipfw.specs.declared.words.NatWord.TheVariants as options
use Rattle.fws_ipfw.specs.declared.draft.NatExpects.{NatExpects}
use Rattle.fws_ipfw.specs.declared.draft.NatExpects.TheVariants as expect
use Rattle.fws_ipfw.specs.declared.draft.NatDraft.{NatDraft}
use Rattle.fws_ipfw.specs.declared.draft.RedirectDraft.{RedirectDraft}
use Rattle.fws_ipfw.specs.Options.{nat_word, misplaced}

-- an instance before its first option
abbrev pub fresh_nat : NatDraft
fresh_nat = record { expects = expect.Option; given = []; alias = None; redirects = [] }

abbrev pub nat_expecting : NatExpects → NatDraft → NatDraft
nat_expecting next d = record d { expects = next }

-- an option that may come once
abbrev pub nat_once : List ℕ → NatDraft → Result NatDraft Cause
nat_once text d = if list_any (bytes_eq text) d.given then Err Syntax else Ok (record d { given = d.given ++ text ∷ [] })

-- the address is given once, by `ip` or by `if`
abbrev pub alias_begun : NatExpects → NatDraft → Result NatDraft Cause
alias_begun next d = if is_some d.alias then Err Syntax else Ok (nat_expecting next d)

abbrev pub nat_option : List ℕ → NatWord → NatDraft → Result NatDraft Cause
nat_option text options.Address d = alias_begun expect.Address d
nat_option text options.Interface d = alias_begun expect.Interface d
nat_option text options.Plain d = nat_once text d
nat_option text options.RedirectPort d = Ok (nat_expecting expect.Protocol d)
nat_option text options.RedirectAddress d = Ok (nat_expecting expect.LocalAddress d)

abbrev pub nat_option_step : List ℕ → NatDraft → Result NatDraft Cause
nat_option_step text d = option_map_or (λ word. nat_option text word d) (nat_word text) (Err (misplaced text))

abbrev pub with_alias : ℕ → NatDraft → NatDraft
with_alias addr d = record d { alias = Some addr; expects = expect.Option }

abbrev pub alias_step : List ℕ → NatDraft → Result NatDraft Cause
alias_step text d = option_map_or (λ addr. Ok (with_alias addr d)) (quad_of text) (Err Syntax)

-- the first address of the interface
abbrev pub interface_step : Site → List ℕ → NatDraft → Result NatDraft Cause
interface_step site text d = option_map_or (λ entry. Ok (with_alias (face_addr site entry) d)) (entry_named Ipfw site text) (Err NoInterface)

-- Redirects

-- the protocols whose ports are redirected
abbrev pub port_protocols : List (List ℕ × ℕ)
port_protocols = (codes "tcp", 6) ∷ (codes "udp", 17) ∷ []

unfoldable pub port_protocol : List ℕ → Option ℕ
port_protocol text = named_in port_protocols text

abbrev pub redirect_protocol_step : List ℕ → NatDraft → Result NatDraft Cause
redirect_protocol_step text d = option_map_or (λ proto. Ok (nat_expecting (expect.LocalEnd proto) d)) (port_protocol text) (Err Syntax)

-- a port, or a range of ports, which is left out
abbrev pub redirected_port : List ℕ → Result ℕ Cause
redirected_port text = option_map_or Ok (port_of text) (if is_some (ports_between 45 text) then Err LeftOut else Err Syntax)

-- an address and a port with a colon between
abbrev pub address_and_port : List ℕ × List ℕ → Result (ℕ × ℕ) Cause
address_and_port parts = option_map_or (λ addr. and_then (redirected_port parts.1) (λ port. Ok (addr, port))) (quad_of parts.0) (Err Syntax)

abbrev pub local_end_step : ℕ → List ℕ → NatDraft → Result NatDraft Cause
local_end_step proto text d =
    and_then (and_then (ok_or (split_once 58 text) Syntax) address_and_port)
    (λ end. Ok (nat_expecting (expect.PublicEnd proto (host_end end.0 (Some end.1))) d))

abbrev pub with_redirect : RedirectDraft → NatDraft → NatDraft
with_redirect redirect d = record d { redirects = d.redirects ++ redirect ∷ []; expects = expect.Option }

-- an outer address is left out where it is 0.0.0.0
abbrev pub public_addr : ℕ → Result ℕ Cause
public_addr addr = if nat_eq addr 0 then Err LeftOut else Ok addr

-- an outer end: a port, and maybe an address before it
abbrev pub public_end : List ℕ → Result (Option ℕ × ℕ) Cause
public_end text =
    option_map_or (λ parts. and_then (address_and_port parts) (λ end. and_then (public_addr end.0) (λ addr. Ok (Some addr, end.1)))) (split_once 58 text)
    (and_then (redirected_port text) (λ port. Ok (None, port)))

abbrev pub public_end_step : ℕ → End → List ℕ → NatDraft → Result NatDraft Cause
public_end_step proto local text d =
    and_then (public_end text) (λ end. Ok (with_redirect (record { proto = Some proto; local = local; public = end.0; port = Some end.1 }) d))

abbrev pub local_address_step : List ℕ → NatDraft → Result NatDraft Cause
local_address_step text d = option_map_or (λ addr. Ok (nat_expecting (expect.PublicAddress (host_end addr None)) d)) (quad_of text) (Err Syntax)

abbrev pub public_address_step : End → List ℕ → NatDraft → Result NatDraft Cause
public_address_step local text d =
    and_then (and_then (ok_or (quad_of text) Syntax) public_addr)
    (λ addr. Ok (with_redirect (record { proto = None; local = local; public = Some addr; port = None }) d))

-- Words

abbrev pub nat_expected_step : Site → NatExpects → List ℕ → NatDraft → Result NatDraft Cause
nat_expected_step site expect.Option text d = nat_option_step text d
nat_expected_step site expect.Address text d = alias_step text d
nat_expected_step site expect.Interface text d = interface_step site text d
nat_expected_step site expect.Protocol text d = redirect_protocol_step text d
nat_expected_step site (expect.LocalEnd proto) text d = local_end_step proto text d
nat_expected_step site (expect.PublicEnd proto local) text d = public_end_step proto local text d
nat_expected_step site expect.LocalAddress text d = local_address_step text d
nat_expected_step site (expect.PublicAddress local) text d = public_address_step local text d

abbrev pub nat_step : Site → NatDraft → Word → Result NatDraft Cause
nat_step site d w = nat_expected_step site d.expects w.text d

-- The whole instance

abbrev pub is_option_next : NatExpects → Bool
is_option_next expect.Option = true
is_option_next _ = false

-- a redirect whose outer address is that of the instance
abbrev pub takes_alias : RedirectDraft → Bool
takes_alias redirect = is_none redirect.public

-- the checks of the whole line: redirects to 0.0.0.0 are left out, and an instance has an address
abbrev pub nat_checks : NatDraft → Checks
nat_checks d = record {
  left_out = option_map_or (nat_eq 0) d.alias false && list_any takes_alias d.redirects;
  backward = false;
  shape = is_none d.alias;
  expand = false;
}

-- a redirect of an instance with this address
abbrev pub redirect_made : ℕ → RedirectDraft → Redirect
redirect_made alias r = record { proto = r.proto; local = r.local; public = host_end (option_map_or (λ addr. addr) r.public alias) r.port }

abbrev pub nat_drawn : ℕ → NatDraft → IpfwNat
nat_drawn number d = record {
  number = number;
  alias = option_map_or (λ addr. addr) d.alias 0;
  redirects = map (redirect_made (option_map_or (λ addr. addr) d.alias 0)) d.redirects;
}

abbrev pub nat_made : ℕ → NatDraft → Result IpfwNat Cause
nat_made number d = if is_option_next d.expects then checked (nat_checks d) (nat_drawn number d) else Err Syntax

-- the instance of these words, which stand behind its number and `config`
abbrev pub nat_of : Site → ℕ → List Word → Result IpfwNat Cause
nat_of site number ws = and_then (words_read (nat_step site) fresh_nat ws) (nat_made number)
