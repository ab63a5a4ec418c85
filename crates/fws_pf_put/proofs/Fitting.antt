-- Ends that fit, and packets over which they are written.
use Rattle.std.proofs.Common.{◌≡◌, ℕ, ◌+◌, ◌-◌, ◌*◌, ◌%◌, ◌^◌, ◌<◌, ◌≤◌, Bool, true, false, cond, ◌&&◌, not, nat_eq, nat_le, nat_lt, Option, Some, None, unwrap_or, List, [], ◌∷◌, arith, refl, sym, ap, ◌∙◌, subst}
use Rattle.std.proofs.lemmas.Bool.{and_parts, eq-eqb, false≢true, leb-true, ltb-true}
use Rattle.std.proofs.lemmas.Nat.{pow-add, pow_pos}
use Rattle.std.specs.List.{find, list_all}
use Rattle.std.specs.Option.{option_map_or}
use Rattle.fws_net.specs.declared.condition.Lit.{Lit}
use Rattle.fws_net.specs.declared.outcome.End.{End}
use Rattle.fws_net.specs.declared.outcome.Rewrite.{Rewrite}
use Rattle.fws_net.specs.declared.packet.Packet.{Packet}
use Rattle.fws_net.specs.declared.site.Site.{Site}
use Rattle.fws_net.specs.Fates.{has_ports, sent_port, written_addr, written_port}
use Rattle.fws_net.specs.Transits.{rewritten}
use Rattle.fws_pf.specs.declared.config.PfNat.{PfNat}
use Rattle.fws_pf.specs.Drawn.{is_port_protocol}
use Rattle.fws_pf_print.specs.Printable.{is_block, is_printed_cond, is_printed_end, is_printed_port, is_printed_translation, is_translation_test, place_written, protocol_tested, tested}
use Rattle.fws_place.specs.Meaning.{IsPacketOf}
use Rattle.fws_pf_put.proofs.Sizes.{multiple_fits}

-- Ends

-- a port has 16 bits, and only a destination has one
abbrev pub FitsPort : Bool → Option ℕ → Type 0
FitsPort redirects None = Unit {0}
FitsPort redirects (Some port) = (port ≤ 65535) × (redirects ≡ true)

-- an end that is written, over a destination or a source
abbrev pub FitsEnd : Bool → Option End → Type 0
FitsEnd redirects None = Unit {0}
FitsEnd redirects (Some e) = (e.addr < 2 ^ 32) × FitsPort redirects e.port

port_fits : (redirects : Bool) (lits : List Lit) (port : Option ℕ) → is_printed_port redirects lits port ≡ true → FitsPort redirects port
port_fits redirects lits None h = tt
port_fits redirects lits (Some n) h =
    let all = and_parts (redirects && nat_le n 65535) (is_port_protocol (protocol_tested lits)) h in
    let first = and_parts redirects (nat_le n 65535) all.0 in
    (leb-true n 65535 first.1, first.0)

no_port : (redirects : Bool) (port : Option ℕ) → port ≡ None → FitsPort redirects port
no_port redirects port none = subst (FitsPort redirects) (sym none) tt

end_fits : (redirects : Bool) (lits : List Lit) (e : End) → is_printed_end redirects lits e ≡ true → FitsEnd redirects (Some e)
end_fits redirects lits e h =
    let both = and_parts (nat_lt e.addr (2 ^ 32)) (cond (nat_eq e.len 32) (is_printed_port redirects lits e.port) (is_block e.len (tested (place_written redirects) lits))) h in
    (ltb-true e.addr (2 ^ 32) both.0, by_length (nat_eq e.len 32) refl both.1) where
      shorter : nat_eq e.len 32 ≡ false → e.len < 32
      shorter off =
          let high = e.len_high in
          let other : e.len ≡ 32 → ⊥ = λ same. false≢true (sym off ∙ eq-eqb e.len 32 same) in
          omega (arith, high, other)

      by_length : (b : Bool) → nat_eq e.len 32 ≡ b → cond b (is_printed_port redirects lits e.port) (is_block e.len (tested (place_written redirects) lits)) ≡ true → FitsPort redirects e.port
      by_length true whole h = port_fits redirects lits e.port h
      by_length false off h = no_port redirects e.port (e.port_on_whole (shorter off))

to_fits : (redirects : Bool) (lits : List Lit) (to : Option End) → option_map_or (is_printed_end redirects lits) to true ≡ true → FitsEnd redirects to
to_fits redirects lits None h = tt
to_fits redirects lits (Some e) h = end_fits redirects lits e h

-- what a printed translation writes
pub translation_fits : (site : Site) (redirects : Bool) (nat : PfNat) → is_printed_translation site redirects nat ≡ true → FitsEnd redirects nat.to
translation_fits site redirects nat h =
    let all = and_parts (not nat.past && is_printed_cond site nat.cond && list_all (λ (lit : Lit). is_translation_test lit.test) nat.cond)
    (option_map_or (is_printed_end redirects nat.cond) nat.to true) h in
    to_fits redirects nat.cond nat.to all.1

-- what is found of a list of which all pass a test
pub found_passes : {X : Type 0} (p q : X → Bool) (xs : List X) (x : X) → find p xs ≡ Some x → list_all q xs ≡ true → q x ≡ true
found_passes p q [] x found all = absurd (none_is found) where
  none_is : None ≡ Some x → ⊥
  none_is h = cc
found_passes p q (y ∷ xs) x found all = by_test (p y) found (and_parts (q y) (list_all q xs) all) (found_passes p q xs x) where
  some_is : Some y ≡ Some x → y ≡ x
  some_is h = cc

  by_test : (b : Bool) → cond b (Some y) (find p xs) ≡ Some x → (q y ≡ true) × (list_all q xs ≡ true) → (find p xs ≡ Some x → list_all q xs ≡ true → q x ≡ true) → q x ≡ true
  by_test true found both later = ap q (sym (some_is found)) ∙ both.0
  by_test false found both later = later found both.1

-- Addresses and ports

addr_low : (e : End) (a : ℕ) → e.addr < 2 ^ 32 → e.addr + a % 2 ^ (32 - e.len) ≤ 2 ^ 32 - 1
addr_low e a fits =
    let high : e.len ≤ 32 = e.len_high in
    let both : e.len + (32 - e.len) ≡ 32 = omega (arith, high) in
    let whole : 2 ^ e.len * 2 ^ (32 - e.len) ≡ 2 ^ 32 = sym (pow-add 2 e.len (32 - e.len)) ∙ ap (λ k. 2 ^ k) both in
    let pos : 0 < 2 ^ (32 - e.len) = pow_pos (32 - e.len) in
    let size = 2 ^ (32 - e.len) in
    let small : a % size < size = omega (arith, pos) in
    let P : ℕ → Type 0 = λ t. e.addr + a % 2 ^ (32 - e.len) < t in
    let Q : ℕ → Type 0 = λ t. e.addr < t in
    let below : e.addr + a % 2 ^ (32 - e.len) < 2 ^ 32 = subst P whole (multiple_fits (2 ^ e.len) (2 ^ (32 - e.len)) e.addr (a % 2 ^ (32 - e.len)) (subst Q (sym whole) fits) e.clear small) in
    omega (arith, below)

pub written_low : (redirects : Bool) (end : Option End) (a : ℕ) → FitsEnd redirects end → a ≤ 2 ^ 32 - 1 → written_addr end a ≤ 2 ^ 32 - 1
written_low redirects None a fits low = low
written_low redirects (Some e) a fits low = addr_low e a fits.0

by_port : (redirects : Bool) (port : Option ℕ) (n : ℕ) (e : End) → e.port ≡ port → FitsPort redirects port → n ≤ 65535 → written_port (Some e) n ≤ 65535
by_port redirects None n e is fits low = subst (λ (o : Option ℕ). unwrap_or o n ≤ 65535) (sym is) low
by_port redirects (Some k) n e is fits low = subst (λ (o : Option ℕ). unwrap_or o n ≤ 65535) (sym is) fits.0

pub port_low : (redirects : Bool) (proto : ℕ) (end : Option End) (n : ℕ) → FitsEnd redirects end → n ≤ 65535 → sent_port proto end n ≤ 65535
port_low redirects proto end n fits low = by_protocol (has_ports proto) where
  with_end : (end : Option End) → FitsEnd redirects end → written_port end n ≤ 65535
  with_end None fits = low
  with_end (Some e) fits = by_port redirects e.port n e refl fits.1 low

  by_protocol : (b : Bool) → cond b (written_port end n) n ≤ 65535
  by_protocol true = with_end end fits
  by_protocol false = low

-- Packets

-- the packet with ends over its fields is one of the site
pub rewritten_of : (site : Site) (p : Packet) (w : Rewrite) → IsPacketOf site p → FitsEnd false w.src → FitsEnd true w.dst → IsPacketOf site (rewritten p w)
rewritten_of site p w of_site src dst =
    let after_entry = of_site.1 in
    let after_proto = after_entry.1 in
    let after_dst = after_proto.1 in
    let after_dport = after_dst.1 in
    let after_src = after_dport.1 in
    let after_sport = after_src.1 in (
      of_site.0,
      (
        after_entry.0,
        (
          written_low true w.dst p.dst dst after_proto.0,
          (
            port_low true p.proto w.dst p.dport dst after_dst.0,
            (written_low false w.src p.src src after_dport.0, (port_low false p.proto w.src p.sport src after_src.0, after_sport)),
          ),
        ),
      ),
    )

pub same_port : (proto n : ℕ) → sent_port proto None n ≡ n
same_port proto n = by_protocol (has_ports proto) where
  by_protocol : (b : Bool) → cond b n n ≡ n
  by_protocol true = refl
  by_protocol false = refl

-- an end over a source has no port
pub source_port : (proto n : ℕ) (e : End) → FitsEnd false (Some e) → sent_port proto (Some e) n ≡ n
source_port proto n e fits = by_protocol (has_ports proto) where
  kept : (port : Option ℕ) → FitsPort false port → unwrap_or port n ≡ n
  kept None h = refl
  kept (Some k) h = absurd (false≢true h.1)

  by_protocol : (b : Bool) → cond b (written_port (Some e) n) n ≡ n
  by_protocol true = kept e.port fits.1
  by_protocol false = refl
