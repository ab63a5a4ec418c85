-- A translation, word by word, fits.
use Rattle.std.proofs.Common.{◌≡◌, ℕ, Bool, true, false, ◌&&◌, ◌||◌, Option, Some, None, is_some, is_none, Ok, Err, List, [], ◌∷◌, codes, bytes_eq, ok_or, IfOk, IfSome, refl}
use Rattle.std.specs.List.{list_all}
use Rattle.std.specs.Option.{option_map_or}
use Rattle.std.proofs.lemmas.Bool.{and_parts, and_from, or_left, cond_both}
use Rattle.fws_num.specs.declared.word.Word.{Word}
use Rattle.fws_num.specs.Named.{named_in}
use Rattle.fws_num.specs.Numbers.{quad_of}
use Rattle.fws_num.specs.Services.{port_of}
use Rattle.fws_net.specs.declared.cause.Cause.TheVariants.{Syntax, LeftOut, NoName}
use Rattle.fws_net.specs.declared.outcome.End.{End}
use Rattle.fws_net.specs.declared.site.Site.{Site}
use Rattle.fws_net.specs.Causes.{words_read}
use Rattle.fws_net.specs.Ends.{host_end}
use Rattle.fws_ios.specs.declared.config.IosNat.{IosNat}
use Rattle.fws_ios.specs.declared.draft.NatDraft.{NatDraft}
use Rattle.fws_ios.specs.declared.draft.NatExpects.{NatExpects}
use Rattle.fws_ios.specs.declared.draft.NatExpects.TheVariants as expect
use Rattle.fws_ios.specs.declared.draft.Pool.{Pool}
use Rattle.fws_ios.specs.Keywords.{is, misplaced, misspelled}
use Rattle.fws_ios.specs.NatText.{pool_named, fresh_nat, going, kind_step, source_step, with_address, interface_addr, interface_step, pool_name_step, overload_step, port_protocols, port_protocol, inner_step, static_step, local_step, local_port_step, with_global, global_step, global_interface_step, global_port_step, extendable_step, nat_expected, nat_step, early_end, may_end, nat_made, nat_of}
use Rattle.fws_ios.specs.Soundness.{is_whole, nat_fits}
use Rattle.fws_ios.specs.Values.{has_ports}
use Rattle.fws_ios.proofs.Outcomes.{then_holds, then_known, either_holds, found_holds, known_holds, words_hold}

-- What holds of a translation so far

-- the inner end is whole, and has a port where ports are translated
abbrev is_inner : Option ℕ → End → Bool
is_inner proto local = is_whole local && ((has_ports proto && is_some local.port) || (is_none proto && is_none local.port))

-- by what the next word is taken for
abbrev stands : NatExpects → Bool
stands (expect.Local proto) = has_ports (Some proto)
stands (expect.LocalPort proto addr) = has_ports (Some proto)
stands (expect.Global proto local) = is_inner proto local
stands (expect.GlobalInterface proto local) = is_inner proto local
stands (expect.GlobalPort proto local addr) = is_inner (Some proto) local
stands _ = true

-- a translation that is known whole fits
record Drafted (d : NatDraft) : Type 0 where
  expected : stands d.expects ≡ true
  nat : option_map_or nat_fits d.nat true ≡ true

goes : (next : NatExpects) (d : NatDraft) → stands next ≡ true → Drafted d → IfOk (going next d) Drafted
goes next d e h = record { expected = e; nat = h.nat }

kind_fits : (text : List ℕ) (d : NatDraft) → Drafted d → IfOk (kind_step text d) Drafted
kind_fits text d h =
    either_holds Drafted (is text (codes "list")) (going expect.List d) _ (λ e. goes expect.List d refl h)
    (λ e. either_holds Drafted (is text (codes "static")) (going expect.Static d) (Err LeftOut) (λ k. goes expect.Static d refl h) (λ k. tt))

-- Lists

source_fits : (text : List ℕ) (d : NatDraft) → Drafted d → IfOk (source_step text d) Drafted
source_fits text d h =
    either_holds Drafted (is text (codes "interface")) (going expect.Interface d) _ (λ e. goes expect.Interface d refl h)
    (λ e. either_holds Drafted (is text (codes "pool")) (going expect.Pool d) (Err (misplaced text)) (λ k. goes expect.Pool d refl h) (λ k. tt))

listed : (addr : ℕ) (d : NatDraft) → Drafted (with_address addr d)
listed addr d = record { expected = refl; nat = refl }

interface_fits : (site : Site) (text : List ℕ) (d : NatDraft) → IfOk (interface_step site text d) Drafted
interface_fits site text d = then_holds Drafted (interface_addr site text) (λ addr. Ok (with_address addr d)) (λ addr. listed addr d)

pool_fits : (defined : List Pool) (text : List ℕ) (d : NatDraft) → IfOk (pool_name_step defined text d) Drafted
pool_fits defined text d = found_holds Drafted (pool_named text defined) (λ pool. Ok (with_address pool.addr d)) (Err NoName) (λ pool. listed pool.addr d) tt

overload_fits : (text : List ℕ) (d : NatDraft) → Drafted d → IfOk (overload_step text d) Drafted
overload_fits text d h =
    either_holds Drafted (is text (codes "overload")) (going expect.Nothing d) (Err (misplaced text)) (λ e. goes expect.Nothing d refl h) (λ e. tt)

-- Statics

named_passes : {X : Type 0} (test : X → Bool) (rows : List (List ℕ × X)) (text : List ℕ) → list_all (λ row. test row.1) rows ≡ true
    → IfSome (named_in rows text) (λ x. test x ≡ true)
named_passes test [] text all = tt
named_passes test (row ∷ rows) text all =
    let both = and_parts (test row.1) (list_all (λ other. test other.1) rows) all in
    cond_both (bytes_eq text row.0) (Some row.1) (named_in rows text) (λ o. IfSome o (λ x. test x ≡ true)) (λ e. both.0)
    (λ e. named_passes test rows text both.1)

protocol_has_ports : (text : List ℕ) → IfSome (port_protocol text) (λ n. has_ports (Some n) ≡ true)
unfolding port_protocol
protocol_has_ports text = named_passes (λ n. has_ports (Some n)) port_protocols text refl

inner_fits : (text : List ℕ) (d : NatDraft) → Drafted d → IfOk (inner_step text d) Drafted
inner_fits text d h =
    found_holds Drafted (quad_of text) (λ addr. going (expect.Global None (host_end addr None)) d) (Err Syntax)
    (λ addr. goes (expect.Global None (host_end addr None)) d refl h) tt

static_fits : (text : List ℕ) (d : NatDraft) → Drafted d → IfOk (static_step text d) Drafted
static_fits text d h =
    either_holds Drafted (is text (codes "network")) (Err LeftOut) _ (λ e. tt)
    (λ e. known_holds (λ n. has_ports (Some n) ≡ true) Drafted (port_protocol text) (λ proto. going (expect.Local proto) d) (inner_step text d) (protocol_has_ports text)
    (λ proto k. goes (expect.Local proto) d k h) (inner_fits text d h))

local_fits : (proto : ℕ) (text : List ℕ) (d : NatDraft) → has_ports (Some proto) ≡ true → Drafted d → IfOk (local_step proto text d) Drafted
local_fits proto text d own h =
    found_holds Drafted (quad_of text) (λ addr. going (expect.LocalPort proto addr) d) (Err Syntax) (λ addr. goes (expect.LocalPort proto addr) d own h) tt

local_port_fits : (proto addr : ℕ) (text : List ℕ) (d : NatDraft) → has_ports (Some proto) ≡ true → Drafted d → IfOk (local_port_step proto addr text d) Drafted
local_port_fits proto addr text d own h =
    found_holds Drafted (port_of text) (λ port. going (expect.Global (Some proto) (host_end addr (Some port))) d) (Err Syntax)
    (λ port. goes (expect.Global (Some proto) (host_end addr (Some port))) d
    (or_left (has_ports (Some proto) && true) _ (and_from (has_ports (Some proto)) true own refl)) h) tt

-- a static of whole addresses
addresses_fit : (whole here there : Bool) → (whole && (false && there || (true && here))) ≡ true → (whole && true && (false && there && false || (true && here && true))) ≡ true
addresses_fit true true there e = refl
addresses_fit true false there e = e
addresses_fit false here there e = e

ports_fit : (whole ported here there : Bool) → (whole && (ported && here || (false && there))) ≡ true
    → (whole && true && (ported && here && true || (false && there && false))) ≡ true
ports_fit true true true there e = refl
ports_fit true true false there e = e
ports_fit true false here there e = e
ports_fit false ported here there e = e

global_fits : (proto : Option ℕ) (local : End) (addr : ℕ) (d : NatDraft) → is_inner proto local ≡ true → Drafted d → Drafted (with_global proto local addr d)
global_fits None local addr d own h = record { expected = refl; nat = addresses_fit (is_whole local) (is_none local.port) (is_some local.port) own }
global_fits (Some proto) local addr d own h = record { expected = own; nat = h.nat }

global_step_fits : (proto : Option ℕ) (local : End) (text : List ℕ) (d : NatDraft) → is_inner proto local ≡ true → Drafted d → IfOk (global_step proto local text d) Drafted
global_step_fits proto local text d own h =
    either_holds Drafted (is text (codes "interface")) (going (expect.GlobalInterface proto local) d) _ (λ e. goes (expect.GlobalInterface proto local) d own h)
    (λ e. found_holds Drafted (quad_of text) (λ addr. Ok (with_global proto local addr d)) (Err (misspelled text)) (λ addr. global_fits proto local addr d own h) tt)

global_interface_fits : (site : Site) (proto : Option ℕ) (local : End) (text : List ℕ) (d : NatDraft) → is_inner proto local ≡ true → Drafted d
    → IfOk (global_interface_step site proto local text d) Drafted
global_interface_fits site proto local text d own h =
    then_holds Drafted (interface_addr site text) (λ addr. Ok (with_global proto local addr d)) (λ addr. global_fits proto local addr d own h)

global_port_fits : (proto : ℕ) (local : End) (addr : ℕ) (text : List ℕ) (d : NatDraft) → is_inner (Some proto) local ≡ true → IfOk (global_port_step proto local addr text d) Drafted
global_port_fits proto local addr text d own =
    found_holds Drafted (port_of text) _ (Err Syntax)
    (λ port. record { expected = refl; nat = ports_fit (is_whole local) (has_ports (Some proto)) (is_some local.port) (is_none local.port) own }) tt

extendable_fits : (text : List ℕ) (d : NatDraft) → Drafted d → IfOk (extendable_step text d) Drafted
extendable_fits text d h =
    either_holds Drafted (is text (codes "extendable")) (going expect.Nothing d) (Err (misplaced text)) (λ e. goes expect.Nothing d refl h) (λ e. tt)

-- Words

expected_fits : (site : Site) (defined : List Pool) (expects : NatExpects) (text : List ℕ) (d : NatDraft) → stands expects ≡ true → Drafted d
    → IfOk (nat_expected site defined expects text d) Drafted
expected_fits site defined expect.Kind text d own h = kind_fits text d h
expected_fits site defined expect.List text d own h = record { expected = refl; nat = h.nat }
expected_fits site defined expect.Source text d own h = source_fits text d h
expected_fits site defined expect.Interface text d own h = interface_fits site text d
expected_fits site defined expect.Pool text d own h = pool_fits defined text d
expected_fits site defined expect.Overload text d own h = overload_fits text d h
expected_fits site defined expect.Static text d own h = static_fits text d h
expected_fits site defined (expect.Local proto) text d own h = local_fits proto text d own h
expected_fits site defined (expect.LocalPort proto addr) text d own h = local_port_fits proto addr text d own h
expected_fits site defined (expect.Global proto local) text d own h = global_step_fits proto local text d own h
expected_fits site defined (expect.GlobalInterface proto local) text d own h = global_interface_fits site proto local text d own h
expected_fits site defined (expect.GlobalPort proto local addr) text d own h = global_port_fits proto local addr text d own
expected_fits site defined expect.Extendable text d own h = extendable_fits text d h
expected_fits site defined expect.Nothing text d own h = tt

-- The whole translation

abbrev pub NatFits : IosNat → Type 0
NatFits nat = nat_fits nat ≡ true

known_nat : (o : Option IosNat) → option_map_or nat_fits o true ≡ true → IfOk (ok_or o Syntax) NatFits
known_nat None h = tt
known_nat (Some nat) h = h

made_fits : (d : NatDraft) → Drafted d → IfOk (nat_made d) NatFits
made_fits d h = either_holds NatFits (may_end d.expects) (ok_or d.nat Syntax) (Err (early_end d.expects)) (λ e. known_nat d.nat h.nat) (λ e. tt)

pub nat_is_fitting : (site : Site) (defined : List Pool) (ws : List Word) → IfOk (nat_of site defined ws) NatFits
nat_is_fitting site defined ws =
    then_known Drafted NatFits (words_read (nat_step site defined) fresh_nat ws) nat_made
    (words_hold Drafted (nat_step site defined) (λ d w h. expected_fits site defined d.expects w.text d h.expected h) fresh_nat ws (record { expected = refl; nat = refl }))
    made_fits
