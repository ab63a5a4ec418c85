-- The words of an entry are read as this entry.
use Rattle.std.proofs.Common.{◌≡◌, ℕ, ◌+◌, ◌-◌, ◌^◌, ◌<◌, ◌≤◌, Bool, true, false, cond, ◌&&◌, ◌||◌, not, nat_eq, nat_le, Option, Some, None, is_some, Result, Ok, Err, List, [], ◌∷◌, ◌++◌, map, codes, decimal, refl, ap, ap₂, sym, ◌∙◌, append_assoc, append-nil, arith, subst, inl, inr}
use Rattle.std.proofs.lemmas.Bool.{and_parts, and_right, or_from, leb-true, eqb-true, not-true, cases_Bool, cond_both}
use Rattle.std.specs.List.{list_all}
use Rattle.std.specs.Option.{option_map_or}
use Rattle.std.specs.Str.{bytes_eq}
use Rattle.fws_num.specs.Comments.{is_exclamation}
use Rattle.fws_num.specs.Numbers.{dotted}
use Rattle.fws_num.specs.Services.{service_of}
use Rattle.fws_num.specs.Words.{is_printed, plain_word}
use Rattle.fws_num.specs.Written.{is_plain}
use Rattle.fws_iv.specs.declared.iv.Iv.{Iv}
use Rattle.fws_net.specs.declared.cause.Cause.{Cause}
use Rattle.fws_net.specs.declared.cause.Cause.TheVariants.{Syntax, LeftOut, Shape}
use Rattle.fws_net.specs.declared.condition.Lit.{Lit}
use Rattle.fws_net.specs.declared.condition.Test.{Test}
use Rattle.fws_net.specs.declared.condition.Test.TheVariants as tests
use Rattle.fws_net.specs.Causes.{unless, words_read}
use Rattle.fws_net.specs.Reading.{and_then}
use Rattle.fws_rules.specs.Literals.{one, positive}
use Rattle.fws_ios.specs.declared.config.IosEntry.{IosEntry}
use Rattle.fws_ios.specs.declared.draft.EntryDraft.{EntryDraft}
use Rattle.fws_ios.specs.declared.draft.Expects.{Expects}
use Rattle.fws_ios.specs.declared.draft.Expects.TheVariants as expect
use Rattle.fws_ios.specs.declared.draft.Place.{Place}
use Rattle.fws_ios.specs.declared.draft.Place.TheVariants.{Source, Destination}
use Rattle.fws_ios.specs.declared.words.PortWord.TheVariants as ports
use Rattle.fws_ios.specs.EntryText.{address_step, behind_ports, compared, entry_made, entry_of, entry_step, established_step, expected_step, fresh_entry, is_protocol, type_step, with_address, with_host, with_protocol, with_type, with_wildcard}
use Rattle.fws_ios.specs.Keywords.{misspelled, port_word}
use Rattle.fws_ios.specs.Values.{address_test, has_ports, icmp_type_named, port_test, wildcard_len}
use Rattle.fws_print.specs.Sets.{first_number, is_number as is_one, is_range}
use Rattle.fws_ios_print.specs.Printable.{is_block, is_class, is_port_protocol, is_prefix, is_printed_cond, is_printed_entry, is_state, protocol_tested, state_name, tested}
use Rattle.fws_print.specs.Words.{protocol_name}
use Rattle.fws_ios_print.specs.PrintedText.{action_word, addresses_words, entry_words, options_words, ports_words, prefix_words, protocol_word, range_words, reflect_words, test_words}
use Rattle.fws_ios_print.proofs.Basics.{if_true, if_false, never}
use Rattle.fws_ios_print.proofs.Laws.{Laws}
use Rattle.fws_ios_print.proofs.LinesTaken.{plain_sound, words_append, words_more}
use Rattle.fws_ios_print.proofs.Shapes.{AreOptions, divided, established, IsDivided, lits_at, no_option, one_type, Printed}
use Rattle.fws_ios_print.proofs.ValuesRead.{address_free, address_off, address_plain, host_block, IsFree, IsNetwork, network_block, network_wildcard, number_no_word, number_plain, port_read, prefix_known, protocol_plain, protocol_read, type_read, wildcard_read}

-- Drafts

-- what was read of an entry of an extended list that was opened
abbrev at : Expects → Bool → List Lit → Option ℕ → Bool → Bool → Bool → Bool → EntryDraft
at e permit c p hp ht he reflect = record {
  expects = e;
  extended = true;
  opened = true;
  permit = permit;
  cond = c;
  protocol = p;
  scattered = false;
  has_ports = hp;
  has_type = ht;
  has_established = he;
  reflect = reflect;
}

abbrev read : ℕ → EntryDraft → List (List ℕ) → Result EntryDraft Cause
read n d words = words_read entry_step d (map (plain_word n) words)

go : (n : ℕ) (d next : EntryDraft) (text : List ℕ) (ws : List (List ℕ)) → is_plain text ≡ true → expected_step d.expects text d ≡ Ok next → read n d (text ∷ ws) ≡ read n next ws
go n d next text ws plain step =
    ap (λ o. and_then o (λ s. read n s ws)) (if_true (list_all is_printed text) (expected_step d.expects text d) (Err Syntax) (plain_sound text plain) ∙ step)

action_read : (n : ℕ) (permit : Bool) (ws : List (List ℕ)) → read n (fresh_entry true true) (action_word permit ∷ ws) ≡ read n (at expect.Protocol permit [] None false false false false) ws
action_read n true ws = go n (fresh_entry true true) (at expect.Protocol true [] None false false false false) (codes "permit") ws refl refl
action_read n false ws = go n (fresh_entry true true) (at expect.Protocol false [] None false false false false) (codes "deny") ws refl refl

-- Protocols

-- the protocol that is asked for
abbrev protocol_of : List Iv → Option ℕ
protocol_of [] = None
protocol_of (iv ∷ set) = Some iv.lo

-- what is known of a protocol by its number
ports_protocol : (set : List Iv) → is_port_protocol (first_number set) ≡ true → has_ports (protocol_of set) ≡ true
ports_protocol [] h = never h
ports_protocol (iv ∷ set) h = h

this_protocol : (k : ℕ) (set : List Iv) → nat_eq 0 k ≡ false → nat_eq k k ≡ true → nat_eq (first_number set) k ≡ true → is_protocol k (protocol_of set) ≡ true
this_protocol k [] some same h = never (sym some ∙ h)
this_protocol k (iv ∷ set) some same h = ap (nat_eq k) (eqb-true iv.lo k h) ∙ same

-- Ends of an entry

-- where an entry has come to behind its destination
data Tail : Expects → Type 0 where
  on_ports : Tail (expect.Ports Destination)
  on_further : Tail (expect.FurtherPort Destination)
  on_type : Tail expect.Type
  on_code : Tail expect.Code
  on_reflect : Tail expect.Reflect

abbrev made : Bool → List Lit → Bool → Result IosEntry Cause
made permit c reflect = Ok (record { permit = permit; cond = c; reflect = reflect })

abbrev misshapen : Option ℕ → Bool → Bool → Bool → Bool
misshapen p hp ht he = (hp && not (has_ports p)) || (he && not (is_protocol 6 p)) || (ht && not (is_protocol 1 p))

ended : (e : Expects) → Tail e → (permit : Bool) (c : List Lit) (p : Option ℕ) (hp ht he : Bool) → misshapen p hp ht he ≡ false → entry_made (at e permit c p hp ht he false) ≡ made permit c false
ended e on_ports permit c p hp ht he h = ap (λ b. unless (cond b (Some Shape) None) (let x : IosEntry = record { permit = permit; cond = c; reflect = false } in x)) h
ended e on_further permit c p hp ht he h = ap (λ b. unless (cond b (Some Shape) None) (let x : IosEntry = record { permit = permit; cond = c; reflect = false } in x)) h
ended e on_type permit c p hp ht he h = ap (λ b. unless (cond b (Some Shape) None) (let x : IosEntry = record { permit = permit; cond = c; reflect = false } in x)) h
ended e on_code permit c p hp ht he h = ap (λ b. unless (cond b (Some Shape) None) (let x : IosEntry = record { permit = permit; cond = c; reflect = false } in x)) h
ended e on_reflect permit c p hp ht he h = ap (λ b. unless (cond b (Some Shape) None) (let x : IosEntry = record { permit = permit; cond = c; reflect = false } in x)) h

reflect_taken : (e : Expects) → Tail e → (c : List Lit) (p : Option ℕ) (hp ht he : Bool) → expected_step e (codes "reflect") (at e true c p hp ht he false) ≡ Ok (at expect.ReflectName true c p hp ht he false)
unfolding port_word service_of icmp_type_named
reflect_taken e on_ports c p hp ht he = refl
reflect_taken e on_further c p hp ht he = refl
reflect_taken e on_type c p hp ht he = refl
reflect_taken e on_code c p hp ht he = refl
reflect_taken e on_reflect c p hp ht he = refl

finished : (n : ℕ) (e : Expects) → Tail e → (permit : Bool) (c : List Lit) (p : Option ℕ) (hp ht he reflect : Bool) → (not reflect || permit) ≡ true → misshapen p hp ht he ≡ false
    → and_then (read n (at e permit c p hp ht he false) (reflect_words reflect)) entry_made ≡ made permit c reflect
finished n e tail permit c p hp ht he false may h = ended e tail permit c p hp ht he h
finished n e tail false c p hp ht he true may h = never may
finished n e tail true c p hp ht he true may h =
    ap (λ o. and_then o entry_made)
    (go n (at e true c p hp ht he false) (at expect.ReflectName true c p hp ht he false) (codes "reflect") (state_name ∷ []) refl (reflect_taken e tail c p hp ht he)
    ∙ go n (at expect.ReflectName true c p hp ht he false) (at expect.Timeout true c p hp ht he true) state_name [] refl refl)
    ∙ ap (λ b. unless (cond b (Some Shape) None) (let x : IosEntry = record { permit = true; cond = c; reflect = true } in x)) h

-- Options

-- what stands behind the ports of an end
abbrev behind : Place → List Iv → Expects
behind place [] = expect.Ports place
behind place (iv ∷ set) = cond (nat_eq iv.lo iv.hi) (expect.FurtherPort place) (behind_ports place)

tail_behind : (set : List Iv) → Tail (behind Destination set)
tail_behind [] = on_ports
tail_behind (iv ∷ set) = cond_both (nat_eq iv.lo iv.hi) (expect.FurtherPort Destination) expect.Type Tail (λ e. on_further) (λ e. on_type)

established_taken : (set : List Iv) (permit : Bool) (c : List Lit) (p : Option ℕ) (hp : Bool)
    → expected_step (behind Destination set) (codes "established") (at (behind Destination set) permit c p hp false false false)
    ≡ Ok (at expect.Reflect permit (c ++ positive (tests.AnyFlag 20) ∷ []) p hp false true false)
unfolding port_word service_of icmp_type_named
established_taken [] permit c p hp = refl
established_taken (iv ∷ set) permit c p hp =
    cond_both (nat_eq iv.lo iv.hi) (expect.FurtherPort Destination) expect.Type
    (λ (e : Expects). expected_step e (codes "established") (at e permit c p hp false false false) ≡ Ok (at expect.Reflect permit (c ++ positive (tests.AnyFlag 20) ∷ []) p hp false true false)) (λ e. refl) (λ e. refl)

-- ports are asked for
abbrev ports_flag : Bool → List Iv → Bool
ports_flag hp [] = hp
ports_flag hp (iv ∷ set) = true

module _ (laws : Laws) where
  protocol_taken : (n : ℕ) (permit : Bool) (set : List Iv) (ws : List (List ℕ)) → Printed set (is_one 255 set)
      → read n (at expect.Protocol permit [] None false false false false) (protocol_word set ∷ ws)
      ≡ read n (at (expect.Address Source) permit (lits_at tests.Proto set) (protocol_of set) false false false false) ws
  protocol_taken n permit [] ws h = go n (at expect.Protocol permit [] None false false false false) (at (expect.Address Source) permit [] None false false false false) (codes "ip") ws refl refl
  protocol_taken n permit (iv ∷ []) ws h =
      let p = and_parts (nat_eq iv.lo iv.hi) (nat_le iv.hi 255) (h (λ e. absurd cc)) in
      let same : iv.lo ≡ iv.hi = eqb-true iv.lo iv.hi p.0 in
      let high : iv.hi ≤ 255 = leb-true iv.hi 255 p.1 in
      let d = at expect.Protocol permit [] None false false false false in
      let text = protocol_name iv.lo in
      go n d (at (expect.Address Source) permit (positive (tests.Proto (iv ∷ [])) ∷ []) (Some iv.lo) false false false false) text ws (protocol_plain laws iv.lo)
      (ap (λ o. option_map_or (λ protocol. Ok (with_protocol protocol d)) o (Err (misspelled text))) (protocol_read laws iv.lo (omega arith))
      ∙ ap (λ (hi : ℕ). Ok (at (expect.Address Source) permit (positive (tests.Proto (one iv.lo hi)) ∷ []) (Some iv.lo) false false false false)) same)
  protocol_taken n permit (iv ∷ other ∷ set) ws h = never (h (λ e. absurd cc))

  -- Addresses

  -- a text that is neither a port nor what compares ports is taken for an address here
  abbrev Leads : Expects → Place → Type 0
  Leads e place = (text : List ℕ) → IsFree text → (d : EntryDraft) → expected_step e text d ≡ address_step place text d

  leads_source : Leads (expect.Address Source) Source
  leads_source text free d = refl

  leads_destination : (set : List Iv) → Leads (behind Source set) Destination
  leads_destination [] text free d =
      ap (λ o. option_map_or (λ word. let x : Result EntryDraft Cause = Ok (record d { expects = expect.Port Source word; has_ports = true }) in x) o (address_step Destination text d)) free.word
  leads_destination (iv ∷ set) text free d =
      cond_both (nat_eq iv.lo iv.hi) (expect.FurtherPort Source) (expect.Address Destination) (λ (e : Expects). expected_step e text d ≡ address_step Destination text d)
      (λ e. ap (λ o. cond (is_some o) (Err LeftOut) (address_step Destination text d)) free.port) (λ e. refl)

  any_free : IsFree (codes "any")
  unfolding port_word service_of
  any_free = record { word = refl; port = refl }

  host_free : IsFree (codes "host")
  unfolding port_word service_of
  host_free = record { word = refl; port = refl }

  module _ (n : ℕ) (place : Place) (e : Expects) (leads : Leads e place) (permit : Bool) (c : List Lit) (p : Option ℕ) (hp ht he r : Bool) (ws : List (List ℕ)) where
    -- behind an address: its literal is there
    abbrev found : List Iv → EntryDraft
    found set = at (expect.Ports place) permit (c ++ positive (address_test place set) ∷ []) p hp ht he r

    abbrev draft : Expects → EntryDraft
    draft x = at x permit c p hp ht he r

    host_taken : (iv : Iv) → iv.lo ≡ iv.hi → iv.lo < 2 ^ 32 → read n (draft e) (codes "host" ∷ dotted iv.lo ∷ ws) ≡ read n (found (iv ∷ [])) ws
    host_taken iv same low =
        go n (draft e) (draft (expect.Host place)) (codes "host") (dotted iv.lo ∷ ws) refl (leads (codes "host") host_free (draft e))
        ∙ go n (draft (expect.Host place)) (found (iv ∷ [])) (dotted iv.lo) ws (address_plain laws iv.lo)
        (ap (λ o. option_map_or (λ addr. Ok (with_host place addr (draft (expect.Host place)))) o (Err Syntax)) (laws.quads.0 iv.lo low) ∙ ap (λ s. Ok (found s)) (host_block iv same))

    network_taken : (iv : Iv) (k : ℕ) → IsNetwork k iv → iv.hi < 2 ^ 32 → read n (draft e) (dotted iv.lo ∷ dotted (iv.hi - iv.lo) ∷ ws) ≡ read n (found (iv ∷ [])) ws
    network_taken iv k is high =
        let last : iv.hi ≡ iv.lo + (2 ^ (32 - k) - 1) = is.last in
        let text = dotted iv.lo in
        let d = draft (expect.Wildcard place iv.lo) in
        let low : iv.lo < 2 ^ 32 = omega arith in
        let bits : wildcard_len (iv.hi - iv.lo) ≡ Some k = ap wildcard_len (network_wildcard k iv is) ∙ wildcard_read k is.short in
        go n (draft e) d text (dotted (iv.hi - iv.lo) ∷ ws) (address_plain laws iv.lo)
        (leads text (address_free laws iv.lo) (draft e)
        ∙ if_false (bytes_eq text (codes "any")) (Ok (draft (expect.Ports place))) _ (address_off laws iv.lo (codes "any") refl)
        ∙ if_false (bytes_eq text (codes "host")) (Ok (draft (expect.Host place))) _ (address_off laws iv.lo (codes "host") refl)
        ∙ ap (λ o. option_map_or (λ addr. Ok (with_address place addr (draft e))) o (Err (misspelled text))) (laws.quads.0 iv.lo low))
        ∙ go n d (found (iv ∷ [])) (dotted (iv.hi - iv.lo)) ws (address_plain laws (iv.hi - iv.lo))
        (ap (λ o. option_map_or (λ wildcard. Ok (with_wildcard place iv.lo (wildcard_len wildcard) d)) o (Err Syntax)) (laws.quads.0 (iv.hi - iv.lo) (omega arith))
        ∙ ap (λ o. Ok (with_wildcard place iv.lo o d)) bits ∙ ap (λ s. Ok (found s)) (network_block k iv is))

    addresses_taken : (set : List Iv) → Printed set (is_block set)
        → read n (draft e) (addresses_words set ++ ws) ≡ read n (at (expect.Ports place) permit (c ++ lits_at (address_test place) set) p hp ht he r) ws
    addresses_taken [] h =
        go n (draft e) (draft (expect.Ports place)) (codes "any") ws refl (leads (codes "any") any_free (draft e))
        ∙ ap (λ (c : List Lit). read n (at (expect.Ports place) permit c p hp ht he r) ws) (sym (append-nil c))
    addresses_taken (iv ∷ []) h =
        let parts = and_parts (is_range (2 ^ 32 - 1) (iv ∷ [])) (list_all is_prefix (iv ∷ [])) (h (λ e. absurd cc)) in
        let most : iv.hi ≤ 2 ^ 32 - 1 = leb-true iv.hi (2 ^ 32 - 1) (and_parts (nat_le iv.lo iv.hi) (nat_le iv.hi (2 ^ 32 - 1)) parts.0).1 in
        let is = prefix_known iv (and_parts (is_prefix iv) true parts.1).0 in
        let last : iv.hi ≡ iv.lo + (2 ^ (32 - is.0) - 1) = is.1.last in
        cond_both (nat_eq iv.lo iv.hi) (codes "host" ∷ dotted iv.lo ∷ []) (dotted iv.lo ∷ dotted (iv.hi - iv.lo) ∷ []) (λ words. read n (draft e) (words ++ ws) ≡ read n (found (iv ∷ [])) ws)
        (λ e. host_taken iv (eqb-true iv.lo iv.hi e) (omega arith)) (λ e. network_taken iv is.0 is.1 (omega arith))
    addresses_taken (iv ∷ other ∷ set) h = never (h (λ e. absurd cc))

  -- Ports

  module _ (n : ℕ) (place : Place) (permit : Bool) (c : List Lit) (p : Option ℕ) (hp : Bool) (ws : List (List ℕ)) where
    abbrev ahead : Expects → Bool → EntryDraft
    ahead x b = at x permit c p b false false false

    abbrev done : Expects → List Iv → EntryDraft
    done x s = at x permit (c ++ positive (port_test place s) ∷ []) p true false false false

    range_taken : (iv : Iv) (b : Bool) → nat_eq iv.lo iv.hi ≡ b → nat_le iv.lo iv.hi ≡ true → iv.lo ≤ 65535 → iv.hi ≤ 65535
        → read n (ahead (expect.Ports place) hp) (cond b (codes "eq" ∷ decimal iv.lo ∷ []) (codes "range" ∷ decimal iv.lo ∷ decimal iv.hi ∷ []) ++ ws)
        ≡ read n (done (cond b (expect.FurtherPort place) (behind_ports place)) (iv ∷ [])) ws
    unfolding port_word
    range_taken iv true e order low high =
        go n (ahead (expect.Ports place) hp) (ahead (expect.Port place ports.Equal) true) (codes "eq") (decimal iv.lo ∷ ws) refl refl
        ∙ go n (ahead (expect.Port place ports.Equal) true) (done (expect.FurtherPort place) (iv ∷ [])) (decimal iv.lo) ws (number_plain laws iv.lo)
        (ap (λ o. option_map_or (λ port. Ok (compared place ports.Equal port (ahead (expect.Port place ports.Equal) true))) o (Err Syntax)) (port_read laws iv.lo low)
        ∙ ap (λ (hi : ℕ). Ok (done (expect.FurtherPort place) (one iv.lo hi))) (eqb-true iv.lo iv.hi e))
    range_taken iv false e order low high =
        go n (ahead (expect.Ports place) hp) (ahead (expect.Port place ports.Range) true) (codes "range") (decimal iv.lo ∷ decimal iv.hi ∷ ws) refl refl
        ∙ go n (ahead (expect.Port place ports.Range) true) (ahead (expect.LastPort place iv.lo) true) (decimal iv.lo) (decimal iv.hi ∷ ws) (number_plain laws iv.lo)
        (ap (λ o. option_map_or (λ port. Ok (compared place ports.Range port (ahead (expect.Port place ports.Range) true))) o (Err Syntax)) (port_read laws iv.lo low))
        ∙ go n (ahead (expect.LastPort place iv.lo) true) (done (behind_ports place) (iv ∷ [])) (decimal iv.hi) ws (number_plain laws iv.hi)
        (ap (λ o. option_map_or (λ last. cond (nat_le iv.lo last) (let x : Result EntryDraft Cause = Ok (done (behind_ports place) (one iv.lo last)) in x) (Err Syntax)) o (Err Syntax)) (port_read laws iv.hi high)
        ∙ if_true (nat_le iv.lo iv.hi) (Ok (done (behind_ports place) (iv ∷ []))) (Err Syntax) order)

    ports_taken : (m : ℕ) (set : List Iv) → Printed set (is_port_protocol m && is_range 65535 set)
        → read n (ahead (expect.Ports place) hp) (ports_words set ++ ws) ≡ read n (at (behind place set) permit (c ++ lits_at (port_test place) set) p (ports_flag hp set) false false false) ws
    ports_taken m [] h = ap (λ (c : List Lit). read n (at (expect.Ports place) permit c p hp false false false) ws) (sym (append-nil c))
    ports_taken m (iv ∷ []) h =
        let parts = and_parts (nat_le iv.lo iv.hi) (nat_le iv.hi 65535) (and_parts (is_port_protocol m) (is_range 65535 (iv ∷ [])) (h (λ e. absurd cc))).1 in
        let order : iv.lo ≤ iv.hi = leb-true iv.lo iv.hi parts.0 in
        let high : iv.hi ≤ 65535 = leb-true iv.hi 65535 parts.1 in
        range_taken iv (nat_eq iv.lo iv.hi) refl parts.0 (omega arith) high
    ports_taken m (iv ∷ other ∷ set) h = never (sym (and_right (is_port_protocol m) false refl) ∙ h (λ e. absurd cc))

  -- Options, and what stands behind them

  all_false : (a b c : Bool) → a ≡ false → b ≡ false → c ≡ false → (a || b || c) ≡ false
  all_false a b c h k l = or_from (a || b) c (or_from a b h k) l

  options_taken : (n : ℕ) (set0 set4 : List Iv) (permit : Bool) (c : List Lit) (hp : Bool) (rest : List Lit) (reflect : Bool) → AreOptions (first_number set0) rest
      → Printed set4 (is_port_protocol (first_number set0) && is_range 65535 set4) → (hp && not (has_ports (protocol_of set0))) ≡ false → (not reflect || permit) ≡ true
      → and_then (read n (at (behind Destination set4) permit c (protocol_of set0) hp false false false) (options_words rest ++ reflect_words reflect)) entry_made ≡ made permit (c ++ rest) reflect
  options_taken n set0 set4 permit c hp _ reflect no_option printed h may =
      finished n (behind Destination set4) (tail_behind set4) permit c (protocol_of set0) hp false false reflect may (all_false (hp && not (has_ports (protocol_of set0))) false false h refl refl)
      ∙ ap (λ (c : List Lit). made permit c reflect) (sym (append-nil c))
  options_taken n set0 (iv ∷ set4) permit c hp _ reflect (one_type k icmp short) printed h may =
      never (sym (ap is_port_protocol (eqb-true (first_number set0) 1 icmp)) ∙ (and_parts (is_port_protocol (first_number set0)) (is_range 65535 (iv ∷ set4)) (printed (λ e. absurd cc))).0)
  options_taken n set0 [] permit c hp _ reflect (one_type k icmp short) printed h may =
      let p = protocol_of set0 in
      let d = at (expect.Ports Destination) permit c p hp false false false in
      let text = decimal k in
      ap (λ o. and_then o entry_made)
      (go n d (at expect.Code permit (c ++ positive (tests.Icmp (one k k)) ∷ []) p hp true false false) text (reflect_words reflect) (number_plain laws k)
      (ap (λ o. option_map_or (λ word. let x : Result EntryDraft Cause = Ok (record d { expects = expect.Port Destination word; has_ports = true }) in x) o (type_step text d)) (number_no_word laws k)
      ∙ ap (λ o. option_map_or (λ t. let x : Result EntryDraft Cause = Ok (with_type t d) in x) o (established_step (misspelled text) text d)) (type_read laws k short)))
      ∙ finished n expect.Code on_code permit (c ++ positive (tests.Icmp (one k k)) ∷ []) p hp true false reflect may
      (all_false (hp && not (has_ports p)) false (not (is_protocol 1 p)) h refl (ap not (this_protocol 1 set0 refl refl icmp)))
  options_taken n set0 set4 permit c hp _ reflect (established tcp) printed h may =
      let p = protocol_of set0 in
      ap (λ o. and_then o entry_made)
      (go n (at (behind Destination set4) permit c p hp false false false) (at expect.Reflect permit (c ++ positive (tests.AnyFlag 20) ∷ []) p hp false true false) (codes "established") (reflect_words reflect) refl
      (established_taken set4 permit c p hp))
      ∙ finished n expect.Reflect on_reflect permit (c ++ positive (tests.AnyFlag 20) ∷ []) p hp false true reflect may
      (all_false (hp && not (has_ports p)) (not (is_protocol 6 p)) false h (ap not (this_protocol 6 set0 refl refl tcp)) refl)

  -- ports are asked for under TCP and UDP
  ports_fit : (set0 set : List Iv) (hp : Bool) → Printed set (is_port_protocol (first_number set0) && is_range 65535 set) → (hp && not (has_ports (protocol_of set0))) ≡ false
      → (ports_flag hp set && not (has_ports (protocol_of set0))) ≡ false
  ports_fit set0 [] hp printed h = h
  ports_fit set0 (iv ∷ set) hp printed h =
      ap not (ports_protocol set0 (and_parts (is_port_protocol (first_number set0)) (is_range 65535 (iv ∷ set)) (printed (λ e. absurd cc))).0)

  same_lits : (t u : List Iv → Test) → ((s : List Iv) → t s ≡ u s) → (s : List Iv) → lits_at t s ≡ lits_at u s
  same_lits t u h [] = refl
  same_lits t u h (iv ∷ s) = ap (λ (x : Test). positive x ∷ []) (h (iv ∷ s))

  regrouped : (a b c d e r : List Lit) → ((((a ++ b) ++ c) ++ d) ++ e) ++ r ≡ a ++ (b ++ (c ++ (d ++ (e ++ r))))
  regrouped a b c d e r = append_assoc (((a ++ b) ++ c) ++ d) e r ∙ append_assoc ((a ++ b) ++ c) d (e ++ r) ∙ append_assoc (a ++ b) c (d ++ (e ++ r)) ∙ append_assoc a b (c ++ (d ++ (e ++ r)))

  same_cond : (s0 s1 s2 s3 s4 : List Iv) (r : List Lit)
      → ((((lits_at tests.Proto s0 ++ lits_at (address_test Source) s1) ++ lits_at (port_test Source) s2) ++ lits_at (address_test Destination) s3) ++ lits_at (port_test Destination) s4) ++ r
      ≡ lits_at tests.Proto s0 ++ (lits_at tests.Src s1 ++ (lits_at tests.Sport s2 ++ (lits_at tests.Dst s3 ++ (lits_at tests.Dport s4 ++ r))))
  same_cond s0 s1 s2 s3 s4 r =
      let a = lits_at tests.Proto s0 in
      let b = lits_at tests.Src s1 in
      let c = lits_at tests.Sport s2 in
      let d = lits_at tests.Dst s3 in
      let p2 = lits_at (port_test Source) s2 in
      let p3 = lits_at (address_test Destination) s3 in
      let p4 = lits_at (port_test Destination) s4 in
      regrouped a (lits_at (address_test Source) s1) p2 p3 p4 r
      ∙ ap (λ (x : List Lit). a ++ (x ++ (p2 ++ (p3 ++ (p4 ++ r))))) (same_lits (address_test Source) tests.Src (λ s. refl) s1)
      ∙ ap (λ (x : List Lit). a ++ (b ++ (x ++ (p3 ++ (p4 ++ r))))) (same_lits (port_test Source) tests.Sport (λ s. refl) s2)
      ∙ ap (λ (x : List Lit). a ++ (b ++ (c ++ (x ++ (p4 ++ r))))) (same_lits (address_test Destination) tests.Dst (λ s. refl) s3)
      ∙ ap (λ (x : List Lit). a ++ (b ++ (c ++ (d ++ (x ++ r))))) (same_lits (port_test Destination) tests.Dport (λ s. refl) s4)

  tested_read : (n : ℕ) (permit : Bool) (lits : List Lit) (reflect : Bool) → (not reflect || permit) ≡ true → (is : IsDivided lits)
      → entry_of true true (map (plain_word n) (test_words (record { permit = permit; cond = lits; reflect = reflect }))) ≡ made permit lits reflect
  tested_read n permit lits reflect may is =
      let s0 = tested 0 lits in
      let s1 = tested 1 lits in
      let s2 = tested 2 lits in
      let s3 = tested 3 lits in
      let s4 = tested 4 lits in
      let p = protocol_of s0 in
      let c1 = lits_at tests.Proto s0 in
      let c2 = c1 ++ lits_at (address_test Source) s1 in
      let c3 = c2 ++ lits_at (port_test Source) s2 in
      let c4 = c3 ++ lits_at (address_test Destination) s3 in
      let c5 = c4 ++ lits_at (port_test Destination) s4 in
      let h2 = ports_flag false s2 in
      let h4 = ports_flag h2 s4 in
      let w5 = options_words lits ++ reflect_words reflect in
      let w4 = ports_words s4 ++ w5 in
      let w3 = addresses_words s3 ++ w4 in
      let w2 = ports_words s2 ++ w3 in
      let w1 = addresses_words s1 ++ w2 in
      let fit = ports_fit s0 s4 h2 is.dport (ports_fit s0 s2 false is.sport refl) in
      ap (λ o. and_then o entry_made)
      (action_read n permit (protocol_word s0 ∷ w1)
      ∙ protocol_taken n permit s0 w1 is.proto
      ∙ addresses_taken n Source (expect.Address Source) leads_source permit c1 p false false false false w2 s1 is.src
      ∙ ports_taken n Source permit c2 p false w3 (protocol_tested lits) s2 is.sport
      ∙ addresses_taken n Destination (behind Source s2) (leads_destination s2) permit c3 p h2 false false false w4 s3 is.dst
      ∙ ports_taken n Destination permit c4 p h2 w5 (protocol_tested lits) s4 is.dport)
      ∙ ap (λ (ws : List (List ℕ)). and_then (read n (at (behind Destination s4) permit c5 p h4 false false false) (ws ++ reflect_words reflect)) entry_made) is.words
      ∙ options_taken n s0 s4 permit c5 h4 is.rest reflect is.options is.dport fit may
      ∙ ap (λ (c : List Lit). made permit c reflect) (same_cond s0 s1 s2 s3 s4 is.rest ∙ sym is.divides)

  -- Words of an entry

  prefix_plain : (iv : Iv) → list_all is_plain (prefix_words iv) ≡ true
  prefix_plain iv =
      cond_both (nat_eq iv.lo iv.hi) (codes "host" ∷ dotted iv.lo ∷ []) (dotted iv.lo ∷ dotted (iv.hi - iv.lo) ∷ []) (λ words. list_all is_plain words ≡ true)
      (λ e. words_more (codes "host") (dotted iv.lo ∷ []) refl (words_more (dotted iv.lo) [] (address_plain laws iv.lo) refl))
      (λ e. words_more (dotted iv.lo) (dotted (iv.hi - iv.lo) ∷ []) (address_plain laws iv.lo) (words_more (dotted (iv.hi - iv.lo)) [] (address_plain laws (iv.hi - iv.lo)) refl))

  addresses_plain : (set : List Iv) → list_all is_plain (addresses_words set) ≡ true
  addresses_plain [] = refl
  addresses_plain (iv ∷ set) = prefix_plain iv

  range_plain : (iv : Iv) → list_all is_plain (range_words iv) ≡ true
  range_plain iv =
      cond_both (nat_eq iv.lo iv.hi) (codes "eq" ∷ decimal iv.lo ∷ []) (codes "range" ∷ decimal iv.lo ∷ decimal iv.hi ∷ []) (λ words. list_all is_plain words ≡ true)
      (λ e. words_more (codes "eq") (decimal iv.lo ∷ []) refl (words_more (decimal iv.lo) [] (number_plain laws iv.lo) refl))
      (λ e. words_more (codes "range") (decimal iv.lo ∷ decimal iv.hi ∷ []) refl (words_more (decimal iv.lo) (decimal iv.hi ∷ []) (number_plain laws iv.lo) (words_more (decimal iv.hi) [] (number_plain laws iv.hi) refl)))

  ports_plain : (set : List Iv) → list_all is_plain (ports_words set) ≡ true
  ports_plain [] = refl
  ports_plain (iv ∷ set) = range_plain iv

  word_plain : (set : List Iv) → is_plain (protocol_word set) ≡ true
  word_plain [] = refl
  word_plain (iv ∷ set) = protocol_plain laws iv.lo

  options_plain : (m : ℕ) (rest : List Lit) → AreOptions m rest → list_all is_plain (options_words rest) ≡ true
  options_plain m _ no_option = refl
  options_plain m _ (one_type k icmp short) = words_more (decimal k) [] (number_plain laws k) refl
  options_plain m _ (established tcp) = refl

  reflect_plain : (reflect : Bool) → list_all is_plain (reflect_words reflect) ≡ true
  reflect_plain true = refl
  reflect_plain false = refl

  action_plain : (permit : Bool) → is_plain (action_word permit) ≡ true
  action_plain true = refl
  action_plain false = refl

  -- what is known of the words of an entry
  pub record IsEntry (words : List (List ℕ)) (entry : IosEntry) : Type 0 where
    pub first : List ℕ
    pub others : List (List ℕ)
    pub divides : words ≡ first ∷ others
    pub plain : list_all is_plain (first ∷ others) ≡ true
    pub mark : is_exclamation first ≡ false
    pub remark : bytes_eq first (codes "remark") ≡ false
    pub made_of : (n : ℕ) → entry_of true true (map (plain_word n) (first ∷ others)) ≡ Ok entry

  no_mark : (permit : Bool) → is_exclamation (action_word permit) ≡ false
  no_mark true = refl
  no_mark false = refl

  no_remark : (permit : Bool) → bytes_eq (action_word permit) (codes "remark") ≡ false
  no_remark true = refl
  no_remark false = refl

  tested_known : (permit : Bool) (lits : List Lit) (reflect : Bool) → (not reflect || permit) ≡ true → is_printed_cond lits ≡ true
      → IsEntry (test_words (record { permit = permit; cond = lits; reflect = reflect })) (record { permit = permit; cond = lits; reflect = reflect })
  tested_known permit lits reflect may h =
      let is = divided lits h in
      let w5 = options_words lits ++ reflect_words reflect in
      let w4 = ports_words (tested 4 lits) ++ w5 in
      let w3 = addresses_words (tested 3 lits) ++ w4 in
      let w2 = ports_words (tested 2 lits) ++ w3 in
      let w1 = addresses_words (tested 1 lits) ++ w2 in
      let options = ap (list_all is_plain) is.words ∙ options_plain (protocol_tested lits) is.rest is.options in
      record {
        first = action_word permit;
        others = protocol_word (tested 0 lits) ∷ w1;
        divides = refl;
        plain = words_more (action_word permit) (protocol_word (tested 0 lits) ∷ w1) (action_plain permit)
            (words_more (protocol_word (tested 0 lits)) w1 (word_plain (tested 0 lits))
            (words_append (addresses_words (tested 1 lits)) w2 (addresses_plain (tested 1 lits))
            (words_append (ports_words (tested 2 lits)) w3 (ports_plain (tested 2 lits))
            (words_append (addresses_words (tested 3 lits)) w4 (addresses_plain (tested 3 lits))
            (words_append (ports_words (tested 4 lits)) w5 (ports_plain (tested 4 lits)) (words_append (options_words lits) (reflect_words reflect) options (reflect_plain reflect)))))));
        mark = no_mark permit;
        remark = no_remark permit;
        made_of = λ n. tested_read n permit lits reflect may is;
      }

  -- a condition on the class alone
  state_cond : (lits : List Lit) → is_state lits ≡ true → lits ≡ positive tests.Est ∷ []
  state_cond [] h = never h
  state_cond (lit ∷ []) h = (let p = and_parts (not lit.not) (is_class lit.test) h in ap₂ (λ (b : Bool) (t : Test). let l : Lit = record { not = b; test = t } in l ∷ []) (not-true lit.not p.0) (class lit.test p.1))
    where
      class : (t : Test) → is_class t ≡ true → t ≡ tests.Est
      class tests.Est h = refl
      class (tests.Src s) h = never h
      class (tests.Dst s) h = never h
      class (tests.Sport s) h = never h
      class (tests.Dport s) h = never h
      class (tests.Proto s) h = never h
      class (tests.Icmp s) h = never h
      class (tests.Flags m w) h = never h
      class (tests.AnyFlag m) h = never h
      class (tests.Recv s) h = never h
      class (tests.Xmit s) h = never h
      class (tests.Via s) h = never h
      class tests.Outward h = never h
      class (tests.Tag k) h = never h
      class tests.Never h = never h
  state_cond (lit ∷ other ∷ lits) h = never h

  state_known : (permit : Bool) (lits : List Lit) (reflect : Bool) → lits ≡ positive tests.Est ∷ [] → permit ≡ true → reflect ≡ false
      → IsEntry (codes "evaluate" ∷ state_name ∷ []) (record { permit = permit; cond = lits; reflect = reflect })
  state_known permit lits reflect e1 e2 e3 =
      let same : record { permit = true; cond = positive tests.Est ∷ []; reflect = false } ≡ record { permit = permit; cond = lits; reflect = reflect } =
      ap₂ (λ (b : Bool) (l : List Lit). let x : IosEntry = record { permit = b; cond = l; reflect = false } in x) (sym e2) (sym e1)
      ∙ ap (λ (b : Bool). let x : IosEntry = record { permit = permit; cond = lits; reflect = b } in x) (sym e3) in
      record { first = codes "evaluate"; others = state_name ∷ []; divides = refl; plain = refl; mark = refl; remark = refl; made_of = λ n. ap (λ (x : IosEntry). Ok x) same }

  pub entry_known : (entry : IosEntry) → is_printed_entry entry ≡ true → IsEntry (entry_words entry) entry
  entry_known entry h =
      elim (cases_Bool (is_state entry.cond)) [
        | inl e ↦
            (let p = and_parts entry.permit (not entry.reflect) (sym (if_true (is_state entry.cond) (entry.permit && not entry.reflect) ((not entry.reflect || entry.permit) && is_printed_cond entry.cond) e) ∙ h) in
            subst (λ (words : List (List ℕ)). IsEntry words entry) (sym (if_true (is_state entry.cond) (codes "evaluate" ∷ state_name ∷ []) (test_words entry) e))
            (state_known entry.permit entry.cond entry.reflect (state_cond entry.cond e) p.0 (not-true entry.reflect p.1)))
        | inr e ↦
            (let p = and_parts (not entry.reflect || entry.permit) (is_printed_cond entry.cond)
            (sym (if_false (is_state entry.cond) (entry.permit && not entry.reflect) ((not entry.reflect || entry.permit) && is_printed_cond entry.cond) e) ∙ h) in
            subst (λ (words : List (List ℕ)). IsEntry words entry) (sym (if_false (is_state entry.cond) (codes "evaluate" ∷ state_name ∷ []) (test_words entry) e))
            (tested_known entry.permit entry.cond entry.reflect p.0 p.1))
      ]
