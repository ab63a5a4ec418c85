-- An instance, word by word, fits.
use Rattle.std.proofs.Common.{◌≡◌, ℕ, Bool, true, ◌&&◌, ◌||◌, nat_lt, nat_le, Some, None, is_some, is_none, Ok, Err, List, [], ◌∷◌, ◌++◌, bytes_eq, ok_or, IfOk, IfSome, refl, sym, subst, ◌∙◌}
use Rattle.std.specs.List.{list_all, list_any}
use Rattle.std.specs.Option.{option_map_or}
use Rattle.std.proofs.lemmas.Bool.{and_parts, and_from, or_left, cond_both}
use Rattle.std.proofs.lemmas.List.Folds.{list_all-map}
use Rattle.fws_num.specs.declared.word.Word.{Word}
use Rattle.fws_num.specs.Named.{named_in}
use Rattle.fws_num.specs.Numbers.{quad_of, split_once}
use Rattle.fws_net.specs.declared.cause.Cause.TheVariants.{Syntax, NoInterface}
use Rattle.fws_net.specs.declared.outcome.End.{End}
use Rattle.fws_net.specs.declared.packet.Lang.TheVariants.{Ipfw}
use Rattle.fws_net.specs.declared.site.Site.{Site}
use Rattle.fws_net.specs.Causes.{checked, words_read}
use Rattle.fws_net.specs.Ends.{host_end}
use Rattle.fws_net.specs.Faces.{entry_named, face_addr}
use Rattle.fws_net.specs.Reading.{and_then}
use Rattle.fws_ipfw.specs.declared.config.IpfwNat.{IpfwNat}
use Rattle.fws_ipfw.specs.declared.words.NatWord.{NatWord}
use Rattle.fws_ipfw.specs.declared.words.NatWord.TheVariants as options
use Rattle.fws_ipfw.specs.declared.draft.NatExpects.{NatExpects}
use Rattle.fws_ipfw.specs.declared.draft.NatExpects.TheVariants as expect
use Rattle.fws_ipfw.specs.declared.draft.NatDraft.{NatDraft}
use Rattle.fws_ipfw.specs.declared.draft.RedirectDraft.{RedirectDraft}
use Rattle.fws_ipfw.specs.NatText.{fresh_nat, nat_expecting, alias_begun, nat_option, nat_option_step, with_alias, alias_step, interface_step, port_protocols, port_protocol, redirect_protocol_step, address_and_port, local_end_step, with_redirect, public_addr, public_end, public_end_step, local_address_step, public_address_step, nat_expected_step, nat_step, is_option_next, nat_checks, redirect_made, nat_drawn, nat_made, nat_of}
use Rattle.fws_ipfw.specs.Options.{nat_word, misplaced}
use Rattle.fws_ipfw.specs.RuleText.{has_ports}
use Rattle.fws_ipfw.specs.Soundness.{redirect_fits, nat_fits}
use Rattle.fws_ipfw.proofs.Lists.{all_longer}
use Rattle.fws_ipfw.proofs.Outcomes.{then_holds, then_known, either_holds, found_holds, known_holds, passed_holds, words_hold}

-- a redirect that fits, before its outer address is known
abbrev drafted : RedirectDraft → Bool
drafted r =
    (has_ports r.proto && is_some r.local.port && is_some r.port)
    || (is_none r.proto && is_none r.local.port && is_none r.port)

-- what stands of a redirect fits, by what the next word is taken for
abbrev stands : NatExpects → Bool
stands (expect.LocalEnd proto) = has_ports (Some proto)
stands (expect.PublicEnd proto local) = has_ports (Some proto) && is_some local.port
stands (expect.PublicAddress local) = is_none local.port
stands _ = true

-- what holds of an instance so far
record Drafted (d : NatDraft) : Type 0 where
  expected : stands d.expects ≡ true
  redirects : list_all drafted d.redirects ≡ true

-- Options and addresses

begun_fits : (next : NatExpects) (d : NatDraft) → stands next ≡ true → Drafted d → IfOk (alias_begun next d) Drafted
begun_fits next d e h = either_holds Drafted (is_some d.alias) (Err Syntax) (Ok (nat_expecting next d)) (λ k. tt) (λ k. record { expected = e; redirects = h.redirects })

option_fits : (text : List ℕ) (word : NatWord) (d : NatDraft) → Drafted d → IfOk (nat_option text word d) Drafted
option_fits text options.Address d h = begun_fits expect.Address d refl h
option_fits text options.Interface d h = begun_fits expect.Interface d refl h
option_fits text options.Plain d h =
    either_holds Drafted (list_any (bytes_eq text) d.given) (Err Syntax) (Ok (record d { given = d.given ++ text ∷ [] })) (λ k. tt)
    (λ k. record { expected = h.expected; redirects = h.redirects })
option_fits text options.RedirectPort d h = record { expected = refl; redirects = h.redirects }
option_fits text options.RedirectAddress d h = record { expected = refl; redirects = h.redirects }

option_step_fits : (text : List ℕ) (d : NatDraft) → Drafted d → IfOk (nat_option_step text d) Drafted
option_step_fits text d h = found_holds Drafted (nat_word text) (λ word. nat_option text word d) (Err (misplaced text)) (λ word e. option_fits text word d h) tt

alias_fits : (text : List ℕ) (d : NatDraft) → Drafted d → IfOk (alias_step text d) Drafted
alias_fits text d h =
    found_holds Drafted (quad_of text) (λ addr. Ok (with_alias addr d)) (Err Syntax) (λ addr e. record { expected = refl; redirects = h.redirects }) tt

interface_fits : (site : Site) (text : List ℕ) (d : NatDraft) → Drafted d → IfOk (interface_step site text d) Drafted
interface_fits site text d h =
    found_holds Drafted (entry_named Ipfw site text) (λ entry. Ok (with_alias (face_addr site entry) d)) (Err NoInterface)
    (λ entry e. record { expected = refl; redirects = h.redirects }) tt

-- Redirects

named_passes : {X : Type 0} (test : X → Bool) (rows : List (List ℕ × X)) (text : List ℕ) → list_all (λ row. test row.1) rows ≡ true
    → IfSome (named_in rows text) (λ x. test x ≡ true)
named_passes test [] text all = tt
named_passes test (row ∷ rows) text all =
    let both = and_parts (test row.1) (list_all (λ other. test other.1) rows) all in
    cond_both (bytes_eq text row.0) (Some row.1) (named_in rows text) (λ o. IfSome o (λ x. test x ≡ true)) (λ e. both.0)
    (λ e. named_passes test rows text both.1)

protocol_has_ports : (text : List ℕ) → IfSome (port_protocol text) (λ n. has_ports (Some n) ≡ true)
unfolding port_protocol
protocol_has_ports text = named_passes (λ n. has_ports (Some n)) port_protocols text refl

protocol_fits : (text : List ℕ) (d : NatDraft) → Drafted d → IfOk (redirect_protocol_step text d) Drafted
protocol_fits text d h =
    known_holds (λ n. has_ports (Some n) ≡ true) Drafted (port_protocol text) (λ proto. Ok (nat_expecting (expect.LocalEnd proto) d)) (Err Syntax) (protocol_has_ports text)
    (λ proto k. record { expected = k; redirects = h.redirects }) tt

local_end_fits : (proto : ℕ) (text : List ℕ) (d : NatDraft) → has_ports (Some proto) ≡ true → Drafted d → IfOk (local_end_step proto text d) Drafted
local_end_fits proto text d own h =
    then_holds Drafted (and_then (ok_or (split_once 58 text) Syntax) address_and_port)
    (λ end. Ok (nat_expecting (expect.PublicEnd proto (host_end end.0 (Some end.1))) d))
    (λ end. record { expected = and_from (has_ports (Some proto)) true own refl; redirects = h.redirects })

public_end_fits : (proto : ℕ) (local : End) (text : List ℕ) (d : NatDraft) → (has_ports (Some proto) && is_some local.port) ≡ true → Drafted d
    → IfOk (public_end_step proto local text d) Drafted
public_end_fits proto local text d own h =
    then_holds Drafted (public_end text) (λ end. Ok (with_redirect (record { proto = Some proto; local = local; public = end.0; port = Some end.1 }) d))
    (λ end.
    let here = and_from (has_ports (Some proto) && is_some local.port) true own refl in
    record {
      expected = refl;
      redirects = all_longer drafted d.redirects (record { proto = Some proto; local = local; public = end.0; port = Some end.1 }) h.redirects
          (or_left (has_ports (Some proto) && is_some local.port && true) _ here);
    })

local_address_fits : (text : List ℕ) (d : NatDraft) → Drafted d → IfOk (local_address_step text d) Drafted
local_address_fits text d h =
    found_holds Drafted (quad_of text) (λ addr. Ok (nat_expecting (expect.PublicAddress (host_end addr None)) d)) (Err Syntax)
    (λ addr e. record { expected = refl; redirects = h.redirects }) tt

public_address_fits : (local : End) (text : List ℕ) (d : NatDraft) → is_none local.port ≡ true → Drafted d → IfOk (public_address_step local text d) Drafted
public_address_fits local text d own h =
    then_holds Drafted (and_then (ok_or (quad_of text) Syntax) public_addr)
    (λ addr. Ok (with_redirect (record { proto = None; local = local; public = Some addr; port = None }) d))
    (λ addr. record {
      expected = refl;
      redirects = all_longer drafted d.redirects (record { proto = None; local = local; public = Some addr; port = None }) h.redirects
          (and_from (is_none local.port) true own refl);
    })

-- Words

expected_fits : (site : Site) (expects : NatExpects) (text : List ℕ) (d : NatDraft) → stands expects ≡ true → Drafted d
    → IfOk (nat_expected_step site expects text d) Drafted
expected_fits site expect.Option text d own h = option_step_fits text d h
expected_fits site expect.Address text d own h = alias_fits text d h
expected_fits site expect.Interface text d own h = interface_fits site text d h
expected_fits site expect.Protocol text d own h = protocol_fits text d h
expected_fits site (expect.LocalEnd proto) text d own h = local_end_fits proto text d own h
expected_fits site (expect.PublicEnd proto local) text d own h = public_end_fits proto local text d own h
expected_fits site expect.LocalAddress text d own h = local_address_fits text d h
expected_fits site (expect.PublicAddress local) text d own h = public_address_fits local text d own h

-- The whole instance

-- it has its number, and fits where that does
pub record Numbered (n : ℕ) (nat : IpfwNat) : Type 0 where
  pub number : nat.number ≡ n
  pub redirects : list_all redirect_fits nat.redirects ≡ true

made_fits : (number : ℕ) (d : NatDraft) → Drafted d → IfOk (nat_made number d) (Numbered number)
made_fits number d h =
    let alias = option_map_or (λ addr. addr) d.alias 0 in
    either_holds (Numbered number) (is_option_next d.expects) (checked (nat_checks d) (nat_drawn number d)) (Err Syntax)
    (λ e. passed_holds (Numbered number) (nat_checks d) (nat_drawn number d)
    (λ k l. record { number = refl; redirects = list_all-map redirect_fits (redirect_made alias) d.redirects ∙ h.redirects }))
    (λ e. tt)

pub nat_is_numbered : (site : Site) (number : ℕ) (ws : List Word) → IfOk (nat_of site number ws) (Numbered number)
nat_is_numbered site number ws =
    then_known Drafted (Numbered number) (words_read (nat_step site) fresh_nat ws) (nat_made number)
    (words_hold Drafted (nat_step site) (λ d w h. expected_fits site d.expects w.text d h.expected h) fresh_nat ws (record { expected = refl; redirects = refl }))
    (made_fits number)

-- an instance of a number that fits
pub numbered_fits : (number : ℕ) (nat : IpfwNat) → (nat_lt 0 number && nat_le number 65535) ≡ true → Numbered number nat → nat_fits nat ≡ true
numbered_fits number nat h k =
    and_from (nat_lt 0 nat.number && nat_le nat.number 65535) (list_all redirect_fits nat.redirects)
    (subst (λ n. (nat_lt 0 n && nat_le n 65535) ≡ true) (sym k.number) h) k.redirects
