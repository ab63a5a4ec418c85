-- Names of interfaces: they can be written, and lead to their entries.
use Rattle.std.proofs.Common.{◌≡◌, ◌≢◌, ℕ, suc, ◌+◌, ◌-◌, ◌<◌, ◌≤◌, true, false, ◌&&◌, not, nat_eq, nat_le, nat_lt, min, max, Some, None, option_map, ok_or, Ok, List, [], ◌∷◌, length, refl, ap, ap₂, sym, ◌∙◌, arith}
use Rattle.std.proofs.lemmas.Bool.{and_parts, ltb-true, leb-true, not-true, false_from_ne_true, true≢false}
use Rattle.std.specs.List.{list_all}
use Rattle.std.specs.Option.{option_map_or}
use Rattle.fws_num.specs.Numbers.{lacks}
use Rattle.fws_num.specs.Written.{is_plain}
use Rattle.fws_iv.specs.Ivs.{with_range}
use Rattle.fws_net.specs.declared.cause.Cause.TheVariants.{NoInterface}
use Rattle.fws_net.specs.declared.condition.Test.TheVariants.{Recv}
use Rattle.fws_net.specs.declared.packet.Lang.TheVariants.{Ipfw}
use Rattle.fws_net.specs.declared.site.Iface.{Iface}
use Rattle.fws_net.specs.declared.site.Site.{Site}
use Rattle.fws_net.specs.Faces.{entries_beginning, with_entries}
use Rattle.fws_net.specs.Reading.{and_then}
use Rattle.fws_net.specs.SiteWords.{is_name_byte}
use Rattle.fws_rules.specs.Interfaces.{before_mark, interface_named}
use Rattle.fws_rules.specs.Literals.{one, positive}
use Rattle.fws_rules.specs.Names.{interface_name, is_own_byte, AreNamed}
use Rattle.fws_ipfw.specs.Values.{interface_meaning}
use Rattle.fws_ipfw_print.proofs.Basics.{all_weaker, if_false}
use Rattle.fws_ipfw_print.proofs.LineWords.{is_inner, is_writable}
use Rattle.fws_ipfw_print.proofs.Tame.{lacks_by, middle_inner, writable_some}

-- bytes of names stand within words
own_inner : (c : ℕ) → is_own_byte c ≡ true → is_inner c ≡ true
own_inner c h =
    let parts = and_parts (is_name_byte c) (nat_le 45 c && nat_le c 122) h in
    let bounds = and_parts (nat_le 45 c) (nat_le c 122) parts.1 in
    let low : 45 ≤ c = leb-true 45 c bounds.0 in
    let high : c ≤ 122 = leb-true c 122 bounds.1 in
    middle_inner c (omega arith) (omega arith) (λ e. true≢false (sym parts.0 ∙ ap is_name_byte e))

name_writable : (text : List ℕ) → is_plain text ≡ true → list_all is_own_byte text ≡ true → is_writable text ≡ true
name_writable [] h bytes = absurd cc
name_writable (c ∷ cs) h bytes = writable_some (c ∷ cs) (λ e. absurd cc) (all_weaker is_own_byte is_inner own_inner (c ∷ cs) bytes)

no_mark : (text : List ℕ) → lacks 42 text ≡ true → before_mark 42 text ≡ None
no_mark [] h = refl
no_mark (c ∷ []) h = if_false (nat_eq c 42) (Some []) None (not-true (nat_eq c 42) (and_parts (not (nat_eq c 42)) true h).0)
no_mark (c ∷ d ∷ cs) h = ap (option_map (λ front. c ∷ front)) (no_mark (d ∷ cs) (and_parts (not (nat_eq c 42)) (lacks 42 (d ∷ cs)) h).1)

pub interface_writable : (site : Site) → AreNamed Ipfw site → (n : ℕ) → 1 ≤ n → n ≤ length site.faces + 1 → is_writable (interface_name Ipfw site n) ≡ true
interface_writable site named n low high = name_writable (interface_name Ipfw site n) (named.plain n low high) (named.bytes n low high)

pub interface_read : (site : Site) → AreNamed Ipfw site → (n : ℕ) → 1 ≤ n → n ≤ length site.faces + 1 → interface_meaning site Recv (interface_name Ipfw site n) ≡ Ok (positive (Recv (one n n)))
interface_read site named n low high =
    let text = interface_name Ipfw site n in
    let lacking = lacks_by is_own_byte 42 refl text (named.bytes n low high) in
    ap (λ o. and_then (option_map_or (λ front. Ok (entries_beginning Ipfw site front)) o (interface_named Ipfw site text)) (λ set. Ok (positive (Recv set)))) (no_mark text lacking)
    ∙ ap (λ o. and_then (ok_or (option_map (λ entry. one entry entry) o) NoInterface) (λ set. Ok (positive (Recv set)))) (named.leads n low high)

-- Every interface

next_entry : (k : ℕ) → 1 ≤ k → with_range (suc k) (suc k) (one 1 k) ≡ one 1 (suc k)
next_entry k some =
    let first : nat_lt (suc k + 1) 1 ≡ false = false_from_ne_true (nat_lt (suc k + 1) 1) (λ e. (let lt : suc k + 1 < 1 = ltb-true (suc k + 1) 1 e in omega arith)) in
    let second : nat_lt (k + 1) (suc k) ≡ false = false_from_ne_true (nat_lt (k + 1) (suc k)) (λ e. (let lt : k + 1 < suc k = ltb-true (k + 1) (suc k) e in omega arith)) in
    let low : min (suc k) 1 ≡ 1 = omega arith in
    let high : max (suc k) k ≡ suc k = omega arith in
    if_false (nat_lt (suc k + 1) 1) _ _ first ∙ if_false (nat_lt (k + 1) (suc k)) _ _ second ∙ ap₂ one low high

all_entries : (k : ℕ) (faces : List Iface) → 1 ≤ k → with_entries (suc k) Ipfw faces [] (one 1 k) ≡ one 1 (k + length faces)
all_entries k [] some = (let same : k ≡ k + 0 = omega arith in ap (one 1) same)
all_entries k (face ∷ faces) some =
    let same : suc k + length faces ≡ k + length (face ∷ faces) = omega arith in
    ap (with_entries (suc (suc k)) Ipfw faces []) (next_entry k some) ∙ all_entries (suc k) faces (omega arith) ∙ ap (one 1) same

pub every_read : (site : Site) → interface_meaning site Recv (42 ∷ []) ≡ Ok (positive (Recv (one 1 (length site.faces + 1))))
every_read site =
    let same : 1 + length site.faces ≡ length site.faces + 1 = omega arith in
    ap (λ set. Ok (positive (Recv set))) (all_entries 1 site.faces (omega arith) ∙ ap (one 1) same)
