-- The protocol and the lengths of prefixes that a draft has behind its literals.
use Rattle.std.proofs.Common.{◌≡◌, ℕ, zero, suc, ◌+◌, ◌-◌, ◌<◌, ◌≤◌, Bool, true, false, ◌&&◌, ◌||◌, not, nat_eq, nat_le, Option, Some, List, [], ◌∷◌, refl, ap, sym, ◌∙◌, inl, inr, arith}
use Rattle.std.proofs.lemmas.Bool.{and_parts, or_cases, le-leb, eqb-true, eq-eqb, not-true}
use Rattle.std.specs.List.{list_all, list_any, range_with_len}
use Rattle.std.specs.Option.{option_map_or}
use Rattle.fws_iv.specs.declared.iv.Iv.{Iv}
use Rattle.fws_net.specs.declared.condition.Lit.{Lit}
use Rattle.fws_net.specs.declared.condition.Test.{Test}
use Rattle.fws_net.specs.declared.condition.Test.TheVariants.{Src, Dst, Sport, Dport, Proto, Icmp, Flags, AnyFlag, Recv, Xmit, Via, Outward, Est, Tag, Never}
use Rattle.fws_ipt.specs.RuleText.{is_protocol}
use Rattle.fws_ipt.specs.Spelled.{asks, asks_protocol, is_block, is_prefix_set, tests_dst, tests_protocol, tests_src}
use Rattle.fws_ipt_print.specs.Printable.{are_different, option_of}
use Rattle.fws_ipt_print.specs.PrintedText.{first_part, free_bits}
use Rattle.fws_ipt_print.proofs.Basics.{never}
use Rattle.fws_ipt_print.proofs.Keys.{all_told, destination_by, protocol_by, source_by, told}
use Rattle.fws_ipt_print.proofs.Told.{Told}
use Rattle.fws_ipt_print.proofs.Values.{free_enough}

abbrev last_by : (Test → Option ℕ → Option ℕ) → List Lit → Option ℕ → Option ℕ
last_by f [] o = o
last_by f (lit ∷ lits) o = last_by f lits (f lit.test o)

-- literals of other options leave the field
abbrev Stays : (Test → Option ℕ → Option ℕ) → ℕ → Type 0
Stays f k = (test : Test) (o : Option ℕ) → nat_eq k (option_of test) ≡ false → f test o ≡ o

-- a literal that is picked is of this option, and gives the field what is wanted
abbrev Picks : (Test → Option ℕ → Option ℕ) → ℕ → (Test → Bool) → (Option ℕ → Bool) → Type 0
Picks f k pick wanted = (test : Test) (o : Option ℕ) → pick test ≡ true → (option_of test ≡ k) × (wanted (f test o) ≡ true)

all_stay : (f : Test → Option ℕ → Option ℕ) (k : ℕ) → Stays f k → (lits : List Lit) (o : Option ℕ) → list_all (λ other. not (nat_eq k (option_of other.test))) lits ≡ true → last_by f lits o ≡ o
all_stay f k stays [] o h = refl
all_stay f k stays (lit ∷ lits) o h =
    let parts = and_parts (not (nat_eq k (option_of lit.test))) (list_all (λ other. not (nat_eq k (option_of other.test))) lits) h in
    ap (last_by f lits) (stays lit.test o (not-true (nat_eq k (option_of lit.test)) parts.0)) ∙ all_stay f k stays lits o parts.1

found : (f : Test → Option ℕ → Option ℕ) (k : ℕ) (pick : Test → Bool) (wanted : Option ℕ → Bool) → Stays f k → Picks f k pick wanted → (lits : List Lit) (o : Option ℕ)
    → are_different lits ≡ true → asks pick lits ≡ true → wanted (last_by f lits o) ≡ true
found f k pick wanted stays picks [] o differ h = never h
found f k pick wanted stays picks (lit ∷ lits) o differ h =
    let parts = and_parts (list_all (λ other. not (nat_eq (option_of lit.test) (option_of other.test))) lits) (are_different lits) differ in
    elim (or_cases (not lit.not && pick lit.test) (asks pick lits) h) [
      | inl own ↦
          (let picked = picks lit.test o (and_parts (not lit.not) (pick lit.test) own).1 in
          let others : list_all (λ other. not (nat_eq k (option_of other.test))) lits ≡ true =
          ap (λ n. list_all (λ other. not (nat_eq n (option_of other.test))) lits) (sym picked.0) ∙ parts.0 in
          ap wanted (all_stay f k stays lits (f lit.test o) others) ∙ picked.1)
      | inr later ↦ found f k pick wanted stays picks lits (f lit.test o) parts.1 later
    ]

-- Protocols

protocol_stays : Stays protocol_by 0
protocol_stays (Proto set) o h = absurd cc
protocol_stays (Src set) o h = refl
protocol_stays (Dst set) o h = refl
protocol_stays (Sport set) o h = refl
protocol_stays (Dport set) o h = refl
protocol_stays (Flags mask want) o h = refl
protocol_stays (Icmp set) o h = refl
protocol_stays (Recv set) o h = refl
protocol_stays Est o h = refl
protocol_stays (Tag n) o h = refl
protocol_stays (AnyFlag mask) o h = refl
protocol_stays (Xmit set) o h = refl
protocol_stays (Via set) o h = refl
protocol_stays Outward o h = refl
protocol_stays Never o h = refl

turned : (a b : ℕ) → nat_eq a b ≡ true → nat_eq b a ≡ true
turned a b h = eq-eqb b a (sym (eqb-true a b h))

protocol_picks : (n : ℕ) → Picks protocol_by 0 (tests_protocol n) (is_protocol n)
protocol_picks n (Proto []) o h = never h
protocol_picks n (Proto (iv ∷ [])) o h = (refl, turned iv.lo n (and_parts (nat_eq iv.lo n) (nat_eq iv.hi n) h).0)
protocol_picks n (Proto (iv ∷ next ∷ set)) o h = never h
protocol_picks n (Src set) o h = never h
protocol_picks n (Dst set) o h = never h
protocol_picks n (Sport set) o h = never h
protocol_picks n (Dport set) o h = never h
protocol_picks n (Flags mask want) o h = never h
protocol_picks n (Icmp set) o h = never h
protocol_picks n (Recv set) o h = never h
protocol_picks n Est o h = never h
protocol_picks n (Tag m) o h = never h
protocol_picks n (AnyFlag mask) o h = never h
protocol_picks n (Xmit set) o h = never h
protocol_picks n (Via set) o h = never h
protocol_picks n Outward o h = never h
protocol_picks n Never o h = never h

protocol_last : (lits : List Lit) (t : Told) → (all_told lits t).protocol ≡ last_by protocol_by lits t.protocol
protocol_last [] t = refl
protocol_last (lit ∷ lits) t = protocol_last lits (told lit t)

-- a condition that asks for a protocol names it
pub protocol_named : (n : ℕ) (lits : List Lit) (t : Told) → are_different lits ≡ true → asks_protocol n lits ≡ true → is_protocol n (all_told lits t).protocol ≡ true
protocol_named n lits t differ h =
    ap (is_protocol n) (protocol_last lits t) ∙ found protocol_by 0 (tests_protocol n) (is_protocol n) protocol_stays (protocol_picks n) lits t.protocol differ h

-- Prefixes

abbrev is_enough : ℕ → Option ℕ → Bool
is_enough len o = option_map_or (nat_le len) o false

prefix_enough : (len : ℕ) (iv : Iv) (o : Option ℕ) (from count : ℕ) → len ≤ from → from + count ≤ 33 → list_any (λ n. is_block n (iv ∷ [])) (range_with_len from count) ≡ true
    → is_enough len (option_map_or (λ bits. Some (32 - bits)) (free_bits iv) o) ≡ true
prefix_enough len iv o from zero low high h = never h
prefix_enough len iv o from (suc count) low high h =
    elim (or_cases (is_block from (iv ∷ [])) (list_any (λ n. is_block n (iv ∷ [])) (range_with_len (from + 1) count)) h) [
      | inl own ↦
          (let within : from ≤ 32 = omega arith in
          let enough = free_enough len iv from low within own in
          ap (λ free. is_enough len (option_map_or (λ bits. Some (32 - bits)) free o)) enough.1 ∙ le-leb len (32 - enough.0) enough.2)
      | inr later ↦ prefix_enough len iv o (from + 1) count (omega arith) (omega arith) later
    ]

-- a length that was tried
pub length_tried : (set : List Iv) (n : ℕ) (all : Bool) → n < 33 → is_block n set ≡ false → list_any (λ n. is_block n set) (range_with_len n (33 - n)) ≡ all
    → list_any (λ n. is_block n set) (range_with_len (n + 1) (33 - (n + 1))) ≡ all
length_tried set n all h off e =
    let left : 33 - n ≡ suc (33 - (n + 1)) = omega arith in
    sym (ap (λ k. list_any (λ n. is_block n set) (range_with_len n k)) left
    ∙ ap (λ b. b || list_any (λ n. is_block n set) (range_with_len (n + 1) (33 - (n + 1)))) off) ∙ e

no_block : (set : List Iv) → ((n : ℕ) → is_block n set ≡ false) → (from count : ℕ) → list_any (λ n. is_block n set) (range_with_len from count) ≡ true → false ≡ true
no_block set off from zero h = h
no_block set off from (suc count) h = no_block set off (from + 1) count (sym (ap (λ b. b || list_any (λ n. is_block n set) (range_with_len (from + 1) count)) (off from)) ∙ h)

set_enough : (len : ℕ) (set : List Iv) (o : Option ℕ) → len ≤ 32 → is_prefix_set len set ≡ true → is_enough len (option_map_or (λ bits. Some (32 - bits)) (free_bits (first_part set)) o) ≡ true
set_enough len [] o h k = never (no_block [] (λ n. refl) len (33 - len) k)
set_enough len (iv ∷ []) o h k = prefix_enough len iv o len (33 - len) (omega arith) (omega arith) k
set_enough len (iv ∷ next ∷ set) o h k = never (no_block (iv ∷ next ∷ set) (λ n. refl) len (33 - len) k)

source_stays : Stays source_by 1
source_stays (Src set) o h = absurd cc
source_stays (Proto set) o h = refl
source_stays (Sport set) o h = refl
source_stays (Dport set) o h = refl
source_stays (Flags mask want) o h = refl
source_stays (Icmp set) o h = refl
source_stays (Recv set) o h = refl
source_stays Est o h = refl
source_stays (Tag m) o h = refl
source_stays (AnyFlag mask) o h = refl
source_stays (Xmit set) o h = refl
source_stays (Via set) o h = refl
source_stays Outward o h = refl
source_stays Never o h = refl
source_stays (Dst set) o h = refl

source_picks : (len : ℕ) → len ≤ 32 → Picks source_by 1 (tests_src (is_prefix_set len)) (is_enough len)
source_picks len within (Src set) o h = (refl, set_enough len set o within h)
source_picks len within (Proto set) o h = never h
source_picks len within (Sport set) o h = never h
source_picks len within (Dport set) o h = never h
source_picks len within (Flags mask want) o h = never h
source_picks len within (Icmp set) o h = never h
source_picks len within (Recv set) o h = never h
source_picks len within Est o h = never h
source_picks len within (Tag m) o h = never h
source_picks len within (AnyFlag mask) o h = never h
source_picks len within (Xmit set) o h = never h
source_picks len within (Via set) o h = never h
source_picks len within Outward o h = never h
source_picks len within Never o h = never h
source_picks len within (Dst set) o h = never h

source_last : (lits : List Lit) (t : Told) → (all_told lits t).source ≡ last_by source_by lits t.source
source_last [] t = refl
source_last (lit ∷ lits) t = source_last lits (told lit t)

pub source_named : (len : ℕ) (lits : List Lit) (t : Told) → len ≤ 32 → are_different lits ≡ true → asks (tests_src (is_prefix_set len)) lits ≡ true → option_map_or (nat_le len) (all_told lits t).source false ≡ true
source_named len lits t within differ h =
    ap (is_enough len) (source_last lits t) ∙ found source_by 1 (tests_src (is_prefix_set len)) (is_enough len) source_stays (source_picks len within) lits t.source differ h

destination_stays : Stays destination_by 2
destination_stays (Dst set) o h = absurd cc
destination_stays (Proto set) o h = refl
destination_stays (Sport set) o h = refl
destination_stays (Dport set) o h = refl
destination_stays (Flags mask want) o h = refl
destination_stays (Icmp set) o h = refl
destination_stays (Recv set) o h = refl
destination_stays Est o h = refl
destination_stays (Tag m) o h = refl
destination_stays (AnyFlag mask) o h = refl
destination_stays (Xmit set) o h = refl
destination_stays (Via set) o h = refl
destination_stays Outward o h = refl
destination_stays Never o h = refl
destination_stays (Src set) o h = refl

destination_picks : (len : ℕ) → len ≤ 32 → Picks destination_by 2 (tests_dst (is_prefix_set len)) (is_enough len)
destination_picks len within (Dst set) o h = (refl, set_enough len set o within h)
destination_picks len within (Proto set) o h = never h
destination_picks len within (Sport set) o h = never h
destination_picks len within (Dport set) o h = never h
destination_picks len within (Flags mask want) o h = never h
destination_picks len within (Icmp set) o h = never h
destination_picks len within (Recv set) o h = never h
destination_picks len within Est o h = never h
destination_picks len within (Tag m) o h = never h
destination_picks len within (AnyFlag mask) o h = never h
destination_picks len within (Xmit set) o h = never h
destination_picks len within (Via set) o h = never h
destination_picks len within Outward o h = never h
destination_picks len within Never o h = never h
destination_picks len within (Src set) o h = never h

destination_last : (lits : List Lit) (t : Told) → (all_told lits t).destination ≡ last_by destination_by lits t.destination
destination_last [] t = refl
destination_last (lit ∷ lits) t = destination_last lits (told lit t)

pub destination_named : (len : ℕ) (lits : List Lit) (t : Told) → len ≤ 32 → are_different lits ≡ true → asks (tests_dst (is_prefix_set len)) lits ≡ true → option_map_or (nat_le len) (all_told lits t).destination false ≡ true
destination_named len lits t within differ h =
    ap (is_enough len) (destination_last lits t) ∙ found destination_by 2 (tests_dst (is_prefix_set len)) (is_enough len) destination_stays (destination_picks len within) lits t.destination differ h
