-- Names of chains and interfaces: they are plain, and the name of an interface leads to its entry.
use Rattle.std.proofs.Common.{◌≡◌, ◌≢◌, ℕ, ◌+◌, ◌-◌, ◌≤◌, Bool, true, ◌&&◌, ◌||◌, not, nat_eq, nat_le, Some, None, option_map, ok_or, Ok, List, [], ◌∷◌, length, refl, ap, ◌∙◌, inl, inr, arith}
use Rattle.std.proofs.lemmas.Bool.{and_from, and_parts, or_cases, leb-true, le-leb, eqb-true, not-true}
use Rattle.std.specs.List.{list_all}
use Rattle.std.specs.Option.{option_map_or}
use Rattle.fws_num.specs.Numbers.{lacks}
use Rattle.fws_num.specs.Written.{is_plain_byte}
use Rattle.fws_net.specs.declared.cause.Cause.TheVariants.{NoInterface}
use Rattle.fws_net.specs.declared.condition.Test.TheVariants.{Recv}
use Rattle.fws_net.specs.declared.packet.Lang.TheVariants.{Iptables}
use Rattle.fws_net.specs.declared.site.Site.{Site}
use Rattle.fws_net.specs.Faces.{entries_beginning}
use Rattle.fws_net.specs.Reading.{and_then}
use Rattle.fws_rules.specs.Interfaces.{before_mark, interface_named}
use Rattle.fws_rules.specs.Literals.{one, positive}
use Rattle.fws_rules.specs.Names.{interface_name, is_own_byte, AreNamed}
use Rattle.fws_ipt.specs.Values.{interface_meaning}
use Rattle.fws_ipt_print.specs.Printable.{begins_with_letter, is_chain_name, is_name_byte}
use Rattle.fws_ipt_print.proofs.Basics.{all_weaker, if_false}
use Rattle.fws_ipt_print.proofs.Plain.{lacks_by, middle_byte}

-- Bytes

-- a byte from 45 to 122
abbrev pub is_middle : ℕ → Bool
is_middle c = nat_le 45 c && nat_le c 122

middle : (c : ℕ) → 45 ≤ c → c ≤ 122 → is_middle c ≡ true
middle c low high = and_from (nat_le 45 c) (nat_le c 122) (le-leb 45 c low) (le-leb c 122 high)

between : (a b c : ℕ) → 45 ≤ a → b ≤ 122 → (nat_le a c && nat_le c b) ≡ true → is_middle c ≡ true
between a b c low high h =
    let parts = and_parts (nat_le a c) (nat_le c b) h in
    let from : a ≤ c = leb-true a c parts.0 in
    let to : c ≤ b = leb-true c b parts.1 in
    middle c (omega arith) (omega arith)

this_byte : (c k : ℕ) → is_middle k ≡ true → nat_eq c k ≡ true → is_middle c ≡ true
this_byte c k h e = ap is_middle (eqb-true c k e) ∙ h

either : (x y : Bool) (b : Bool) → (x ≡ true → b ≡ true) → (y ≡ true → b ≡ true) → (x || y) ≡ true → b ≡ true
either x y b f g h = elim (or_cases x y h) [ inl e ↦ f e | inr e ↦ g e ]

chain_byte_middle : (c : ℕ) → is_name_byte c ≡ true → is_middle c ≡ true
chain_byte_middle c =
    either ((nat_le 97 c && nat_le c 122) || (nat_le 48 c && nat_le c 57)) (nat_eq c 45) (is_middle c)
    (either (nat_le 97 c && nat_le c 122) (nat_le 48 c && nat_le c 57) (is_middle c) (between 97 122 c (omega arith) (omega arith)) (between 48 57 c (omega arith) (omega arith)))
    (this_byte c 45 refl)

middle_plain : (c : ℕ) → is_middle c ≡ true → is_plain_byte c ≡ true
middle_plain c h =
    let parts = and_parts (nat_le 45 c) (nat_le c 122) h in
    let low : 45 ≤ c = leb-true 45 c parts.0 in
    middle_byte c (omega arith) (leb-true c 122 parts.1)

-- Names of interfaces

no_mark : (text : List ℕ) → lacks 43 text ≡ true → before_mark 43 text ≡ None
no_mark [] h = refl
no_mark (c ∷ []) h = if_false (nat_eq c 43) (Some []) None (not-true (nat_eq c 43) (and_parts (not (nat_eq c 43)) true h).0)
no_mark (c ∷ d ∷ cs) h = ap (option_map (λ front. c ∷ front)) (no_mark (d ∷ cs) (and_parts (not (nat_eq c 43)) (lacks 43 (d ∷ cs)) h).1)

pub interface_read : (site : Site) → AreNamed Iptables site → (n : ℕ) → 1 ≤ n → n ≤ length site.faces + 1 → interface_meaning site Recv (interface_name Iptables site n) ≡ Ok (Some (positive (Recv (one n n))))
interface_read site named n low high =
    let text = interface_name Iptables site n in
    let lacking = lacks_by is_own_byte 43 refl text (named.bytes n low high) in
    ap (λ o. and_then (option_map_or (λ front. Ok (entries_beginning Iptables site front)) o (interface_named Iptables site text)) (λ set. Ok (Some (positive (Recv set))))) (no_mark text lacking)
    ∙ ap (λ o. and_then (ok_or (option_map (λ entry. one entry entry) o) NoInterface) (λ set. Ok (Some (positive (Recv set))))) (named.leads n low high)

-- Names of chains

pub chain_name_bytes : (name : List ℕ) → is_chain_name name ≡ true → list_all is_plain_byte name ≡ true
chain_name_bytes name h =
    let parts = and_parts (begins_with_letter name && list_all is_name_byte name) (nat_le (length name) 28) h in
    let bytes = (and_parts (begins_with_letter name) (list_all is_name_byte name) parts.0).1 in
    all_weaker is_middle is_plain_byte middle_plain name (all_weaker is_name_byte is_middle chain_byte_middle name bytes)

pub chain_name_some : (name : List ℕ) → is_chain_name name ≡ true → name ≢ []
chain_name_some [] h = absurd cc
chain_name_some (c ∷ cs) h = λ e. absurd cc
