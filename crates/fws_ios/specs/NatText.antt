-- Pools, and translations of addresses (Cisco IOS).
use Rattle.std.specs.Prelude.{ℕ, Bool, true, false, nat_eq, Option, Some, None, option_map, Result, Ok, Err, List, [], ◌∷◌, codes, if◌then◌else◌}
use Rattle.std.specs.List.{find}
use Rattle.std.specs.Option.{option_map_or, ok_or}
use Rattle.std.specs.Str.{bytes_eq}
use Rattle.fws_num.specs.declared.word.Word.{Word}
use Rattle.fws_num.specs.Named.{named_in}
use Rattle.fws_num.specs.Numbers.{quad_of}
use Rattle.fws_num.specs.Services.{port_of}
use Rattle.fws_net.specs.declared.cause.Cause.{Cause}
use Rattle.fws_net.specs.declared.cause.Cause.TheVariants.{Syntax, LeftOut, NoInterface, NoName}
use Rattle.fws_net.specs.declared.outcome.End.{End}
use Rattle.fws_net.specs.declared.packet.Lang.TheVariants.{Ios}
use Rattle.fws_net.specs.declared.site.Site.{Site}
use Rattle.fws_net.specs.Causes.{words_read}
use Rattle.fws_net.specs.Ends.{host_end}
use Rattle.fws_net.specs.Faces.{entry_named, face_addr}
use Rattle.fws_net.specs.Reading.{and_then}
use Rattle.fws_ios.specs.declared.config.IosNat.{IosNat}
use Rattle.fws_ios.specs.declared.config.IosNat.TheVariants as nats
use Rattle.fws_ios.specs.declared.draft.NatDraft.{NatDraft}
use Rattle.fws_ios.specs.declared.draft.NatExpects.{NatExpects}
use Rattle.fws_ios.specs.declared.draft.NatExpects.TheVariants as expect
use Rattle.fws_ios.specs.declared.draft.Pool.{Pool}
use Rattle.fws_ios.specs.declared.draft.PoolExpects.{PoolExpects}
use Rattle.fws_ios.specs.declared.draft.PoolExpects.TheVariants as pools
use Rattle.fws_ios.specs.Keywords.{is, misplaced, misspelled}
use Rattle.fws_ios.specs.Values.{is_netmask, is_prefix_length}

-- Pools

abbrev pub first_step : List ℕ → Result PoolExpects Cause
first_step text = option_map_or (λ addr. Ok (pools.Last addr)) (quad_of text) (Err Syntax)

-- a pool of more than one address is left out
abbrev pub last_step : ℕ → List ℕ → Result PoolExpects Cause
last_step first text = option_map_or (λ last. if nat_eq last first then Ok pools.Length else Err LeftOut) (quad_of text) (Err Syntax)

abbrev pub length_step : List ℕ → Result PoolExpects Cause
length_step text =
    if is text (codes "netmask") then Ok pools.Netmask
    else if is text (codes "prefix-length") then Ok pools.PrefixLength
    else Err (misplaced text)

-- a word of a pool behind its name, by what it is taken for
abbrev pub pool_expected : PoolExpects → List ℕ → Result PoolExpects Cause
pool_expected pools.First text = first_step text
pool_expected (pools.Last first) text = last_step first text
pool_expected pools.Length text = length_step text
pool_expected pools.Netmask text = if is_netmask text then Ok pools.Nothing else Err Syntax
pool_expected pools.PrefixLength text = if is_prefix_length text then Ok pools.Nothing else Err Syntax
pool_expected pools.Nothing text = Err Syntax

abbrev pub pool_step : PoolExpects → Word → Result PoolExpects Cause
pool_step expects w = pool_expected expects w.text

abbrev pub is_whole_pool : PoolExpects → Bool
is_whole_pool pools.Nothing = true
is_whole_pool _ = false

-- the words behind a pool's name are those of a pool
abbrev pub pool_checked : List Word → Result PoolExpects Cause
pool_checked ws = and_then (words_read pool_step pools.First ws) (λ expects. if is_whole_pool expects then Ok expects else Err Syntax)

-- the pool of this name
abbrev pub pool_named : List ℕ → List Pool → Option Pool
pool_named name known = find (λ pool. bytes_eq pool.name name) known

-- Translations

-- a translation before the words behind `ip nat inside source`
abbrev pub fresh_nat : NatDraft
fresh_nat = record { expects = expect.Kind; list = []; nat = None }

-- the next word is taken for this
abbrev pub going : NatExpects → NatDraft → Result NatDraft Cause
going next d = Ok (record d { expects = next })

-- the translation is known whole
abbrev pub known : IosNat → NatExpects → NatDraft → NatDraft
known nat next d = record d { nat = Some nat; expects = next }

abbrev pub kind_step : List ℕ → NatDraft → Result NatDraft Cause
kind_step text d =
    if is text (codes "list") then going expect.List d else if is text (codes "static") then going expect.Static d else Err LeftOut

-- Lists

abbrev pub with_list : List ℕ → NatDraft → NatDraft
with_list name d = record d { list = name; expects = expect.Source }

abbrev pub source_step : List ℕ → NatDraft → Result NatDraft Cause
source_step text d =
    if is text (codes "interface") then going expect.Interface d
    else if is text (codes "pool") then going expect.Pool d
    else Err (misplaced text)

-- what the list permits gets this address
abbrev pub with_address : ℕ → NatDraft → NatDraft
with_address addr d = known (nats.List d.list addr) expect.Overload d

-- the first address of the interface
abbrev pub interface_addr : Site → List ℕ → Result ℕ Cause
interface_addr site text = ok_or (option_map (face_addr site) (entry_named Ios site text)) NoInterface

abbrev pub interface_step : Site → List ℕ → NatDraft → Result NatDraft Cause
interface_step site text d = and_then (interface_addr site text) (λ addr. Ok (with_address addr d))

abbrev pub pool_name_step : List Pool → List ℕ → NatDraft → Result NatDraft Cause
pool_name_step defined text d = option_map_or (λ pool. Ok (with_address pool.addr d)) (pool_named text defined) (Err NoName)

abbrev pub overload_step : List ℕ → NatDraft → Result NatDraft Cause
overload_step text d = if is text (codes "overload") then going expect.Nothing d else Err (misplaced text)

-- Statics

-- the protocols whose ports are translated
abbrev pub port_protocols : List (List ℕ × ℕ)
port_protocols = (codes "tcp", 6) ∷ (codes "udp", 17) ∷ []

unfoldable pub port_protocol : List ℕ → Option ℕ
port_protocol text = named_in port_protocols text

-- an inner address without ports
abbrev pub inner_step : List ℕ → NatDraft → Result NatDraft Cause
inner_step text d = option_map_or (λ addr. going (expect.Global None (host_end addr None)) d) (quad_of text) (Err Syntax)

-- a protocol, or an inner address without ports; whole networks are left out
abbrev pub static_step : List ℕ → NatDraft → Result NatDraft Cause
static_step text d =
    if is text (codes "network") then Err LeftOut
    else option_map_or (λ proto. going (expect.Local proto) d) (port_protocol text) (inner_step text d)

abbrev pub local_step : ℕ → List ℕ → NatDraft → Result NatDraft Cause
local_step proto text d = option_map_or (λ addr. going (expect.LocalPort proto addr) d) (quad_of text) (Err Syntax)

abbrev pub local_port_step : ℕ → ℕ → List ℕ → NatDraft → Result NatDraft Cause
local_port_step proto addr text d =
    option_map_or (λ port. going (expect.Global (Some proto) (host_end addr (Some port))) d) (port_of text) (Err Syntax)

-- an outer address, behind which a port stands where the inner end has one
abbrev pub with_global : Option ℕ → End → ℕ → NatDraft → NatDraft
with_global None local addr d = known (nats.Static None local (host_end addr None)) expect.Extendable d
with_global (Some proto) local addr d = record d { expects = expect.GlobalPort proto local addr }

-- an outer address, or `interface` for that of one
abbrev pub global_step : Option ℕ → End → List ℕ → NatDraft → Result NatDraft Cause
global_step proto local text d =
    if is text (codes "interface") then going (expect.GlobalInterface proto local) d
    else option_map_or (λ addr. Ok (with_global proto local addr d)) (quad_of text) (Err (misspelled text))

abbrev pub global_interface_step : Site → Option ℕ → End → List ℕ → NatDraft → Result NatDraft Cause
global_interface_step site proto local text d = and_then (interface_addr site text) (λ addr. Ok (with_global proto local addr d))

abbrev pub global_port_step : ℕ → End → ℕ → List ℕ → NatDraft → Result NatDraft Cause
global_port_step proto local addr text d =
    option_map_or (λ port. Ok (known (nats.Static (Some proto) local (host_end addr (Some port))) expect.Extendable d)) (port_of text) (Err Syntax)

abbrev pub extendable_step : List ℕ → NatDraft → Result NatDraft Cause
extendable_step text d = if is text (codes "extendable") then going expect.Nothing d else Err (misplaced text)

-- Words

-- a word of a translation, by what it is taken for
abbrev pub nat_expected : Site → List Pool → NatExpects → List ℕ → NatDraft → Result NatDraft Cause
nat_expected site defined expect.Kind text d = kind_step text d
nat_expected site defined expect.List text d = Ok (with_list text d)
nat_expected site defined expect.Source text d = source_step text d
nat_expected site defined expect.Interface text d = interface_step site text d
nat_expected site defined expect.Pool text d = pool_name_step defined text d
nat_expected site defined expect.Overload text d = overload_step text d
nat_expected site defined expect.Static text d = static_step text d
nat_expected site defined (expect.Local proto) text d = local_step proto text d
nat_expected site defined (expect.LocalPort proto addr) text d = local_port_step proto addr text d
nat_expected site defined (expect.Global proto local) text d = global_step proto local text d
nat_expected site defined (expect.GlobalInterface proto local) text d = global_interface_step site proto local text d
nat_expected site defined (expect.GlobalPort proto local addr) text d = global_port_step proto local addr text d
nat_expected site defined expect.Extendable text d = extendable_step text d
nat_expected site defined expect.Nothing text d = Err Syntax

abbrev pub nat_step : Site → List Pool → NatDraft → Word → Result NatDraft Cause
nat_step site defined d w = nat_expected site defined d.expects w.text d

-- The whole translation

-- a line that ends ahead of `overload` is left out; any other that ends too early is Syntax
abbrev pub early_end : NatExpects → Cause
early_end expect.Overload = LeftOut
early_end _ = Syntax

abbrev pub may_end : NatExpects → Bool
may_end expect.Extendable = true
may_end expect.Nothing = true
may_end _ = false

abbrev pub nat_made : NatDraft → Result IosNat Cause
nat_made d = if may_end d.expects then ok_or d.nat Syntax else Err (early_end d.expects)

-- the translation of the words behind `ip nat inside source`
abbrev pub nat_of : Site → List Pool → List Word → Result IosNat Cause
nat_of site defined ws = and_then (words_read (nat_step site defined) fresh_nat ws) nat_made
