-- What is seen in place of a field.
use Rattle.std.proofs.Common.{◌≡◌, ℕ, true, ◌||◌, cond, Option, Some, None, List, refl, sym, ◌∙◌, ap, subst}
use Rattle.std.proofs.lemmas.Bool.{cond_both, eqb-true, and_parts, and_from}
use Rattle.std.proofs.lemmas.Option.{none-some, same_Some}
use Rattle.std.specs.Option.{option_map}
use Rattle.std.specs.Prelude.{nat_eq, slice_index}
use Rattle.fws_iv.specs.declared.iv.Iv.{Iv}
use Rattle.fws_iv.specs.Ivs.{has}
use Rattle.fws_net.specs.declared.packet.Packet.{Packet}
use Rattle.fws_net.specs.declared.site.Site.{Site}
use Rattle.fws_net.specs.Points.{tops_of}
use Rattle.fws_tree_seen.specs.declared.field.PacketField.{PacketField}
use Rattle.fws_tree_seen.specs.declared.field.PacketField.TheVariants.{Proto, Dst, Dport, Src, Sport, Flags, Icmp}
use Rattle.fws_tree_seen.specs.declared.seen.Seen.{Seen}
use Rattle.fws_tree_seen.specs.declared.seen.Seen.TheVariants.{Entered, Routed}
use Rattle.fws_tree_seen.specs.Fields.{hits, suits, top_of}
use Rattle.fws_tree_seen.specs.Reached.{IsOpen}
use Rattle.fws_tree_seen.specs.Shown.{field_of, seen_field, shown, has_field, value_of}
use Rattle.fws_tree_seen.specs.SightLaws.{Agrees}

at_number : (P : ℕ → Option PacketField → Type 0) (n f : ℕ) (x y : Option PacketField) → P n x → P f y → P f (cond (nat_eq f n) x y)
at_number P n f x y a b = cond_both (nat_eq f n) x y (P f) (λ e. subst (λ k. P k x) (sym (eqb-true f n e)) a) (λ e. b)

-- what holds of each field by its number
field_cases : (P : ℕ → Option PacketField → Type 0) → P 1 (Some Proto) → P 2 (Some Dst) → P 3 (Some Dport) → P 4 (Some Src) → P 5 (Some Sport)
    → P 6 (Some Flags) → P 7 (Some Icmp) → ((f : ℕ) → P f None) → (f : ℕ) → P f (field_of f)
field_cases P p1 p2 p3 p4 p5 p6 p7 other f =
    at_number P 1 f (Some Proto) _ p1 (at_number P 2 f (Some Dst) _ p2 (at_number P 3 f (Some Dport) _ p3 (at_number P 4 f (Some Src) _ p4
    (at_number P 5 f (Some Sport) _ p5 (at_number P 6 f (Some Flags) _ p6 (at_number P 7 f (Some Icmp) None p7 (other f)))))))

entered_by : (Q : ℕ → PacketField → Type 0) → Q 1 Proto → Q 2 Dst → Q 3 Dport → Q 4 Src → Q 5 Sport → Q 6 Flags → Q 7 Icmp
    → (f : ℕ) (field : PacketField) → field_of f ≡ Some field → Q f field
entered_by Q q1 q2 q3 q4 q5 q6 q7 f field e =
    field_cases (λ k o. o ≡ Some field → Q k field)
    (λ s. subst (Q 1) (same_Some Proto field s) q1) (λ s. subst (Q 2) (same_Some Dst field s) q2) (λ s. subst (Q 3) (same_Some Dport field s) q3)
    (λ s. subst (Q 4) (same_Some Src field s) q4) (λ s. subst (Q 5) (same_Some Sport field s) q5) (λ s. subst (Q 6) (same_Some Flags field s) q6)
    (λ s. subst (Q 7) (same_Some Icmp field s) q7) (λ k s. absurd (none-some field s)) f e

-- what holds of each field by what is seen in its place
seen_by : (Q : ℕ → PacketField → Type 0) → Q 1 Proto → Q 2 Dst → Q 3 Dport → Q 4 Src → Q 5 Sport → Q 6 Flags → Q 7 Icmp → Q 8 Dst → Q 9 Dport
    → (seen : Seen) (f : ℕ) (field : PacketField) → seen_field seen f ≡ Some field → Q f field
seen_by Q q1 q2 q3 q4 q5 q6 q7 q8 q9 Entered f field e = entered_by Q q1 q2 q3 q4 q5 q6 q7 f field e
seen_by Q q1 q2 q3 q4 q5 q6 q7 q8 q9 Routed f field e =
    cond_both (nat_eq f 2 || nat_eq f 3) 0 (cond (nat_eq f 8) 2 (cond (nat_eq f 9) 3 f)) (λ n. field_of n ≡ Some field → Q f field)
    (λ y s. absurd (none-some field s))
    (λ z. cond_both (nat_eq f 8) 2 (cond (nat_eq f 9) 3 f) (λ n. field_of n ≡ Some field → Q f field)
    (λ y s. subst (Q f) (same_Some Dst field s) (subst (λ k. Q k Dst) (sym (eqb-true f 8 y)) q8))
    (λ u. cond_both (nat_eq f 9) 3 f (λ n. field_of n ≡ Some field → Q f field)
    (λ y s. subst (Q f) (same_Some Dport field s) (subst (λ k. Q k Dport) (sym (eqb-true f 9 y)) q9))
    (λ v s. entered_by Q q1 q2 q3 q4 q5 q6 q7 f field s))) e

-- the protocol has the field of a point just where it has the packet's field that is seen in its place
pub has_same : (seen : Seen) (f : ℕ) (field : PacketField) (proto : ℕ) → seen_field seen f ≡ Some field → has_field proto f ≡ suits field proto
has_same seen f field proto e =
    seen_by (λ k g. has_field proto k ≡ suits g proto) refl refl refl refl refl refl refl refl refl seen f field e

-- the greatest values agree
pub top_same : (site : Site) (seen : Seen) (f : ℕ) (field : PacketField) → seen_field seen f ≡ Some field → slice_index (tops_of site) f ≡ top_of field
top_same site seen f field e =
    seen_by (λ k g. slice_index (tops_of site) k ≡ top_of g) refl refl refl refl refl refl refl refl refl seen f field e

-- what is seen is the value of the packet's field
is_shown : (seen : Seen) (f : ℕ) (field : PacketField) (q : Packet) → seen_field seen f ≡ Some field → shown seen f q ≡ Some (value_of field q)
is_shown seen f field q e = ap (λ o. option_map (λ g. value_of g q) o) e

pub shown_value : (seen : Seen) (f : ℕ) (field : PacketField) (q : Packet) (v : ℕ) → seen_field seen f ≡ Some field → shown seen f q ≡ Some v → value_of field q ≡ v
shown_value seen f field q v e s = same_Some (value_of field q) v (sym (ap (λ o. option_map (λ g. value_of g q) o) e) ∙ s)

-- a set that is hit is open
pub open_hit : (seen : Seen) (f : ℕ) (field : PacketField) (q : Packet) (set : List Iv) → seen_field seen f ≡ Some field → hits field set q ≡ true → IsOpen seen q f set
open_hit seen f field q set e h = λ v a s.
    subst (λ x. has set x ≡ true) (shown_value seen f field q v e s) (and_parts (suits field q.proto) (has set (value_of field q)) h).1

-- where nothing is seen, each set is open
pub open_unseen : (seen : Seen) (f : ℕ) (q : Packet) (set : List Iv) → seen_field seen f ≡ None → IsOpen seen q f set
open_unseen seen f q set e = λ v a s. absurd (none-some v (sym (ap (λ o. option_map (λ g. value_of g q) o) e) ∙ s))

-- a set that is open is hit, if the packet has the field
hit_open : (seen : Seen) (f : ℕ) (field : PacketField) (q : Packet) (set : List Iv) → seen_field seen f ≡ Some field → suits field q.proto ≡ true → IsOpen seen q f set → hits field set q ≡ true
hit_open seen f field q set e s open' =
    and_from (suits field q.proto) (has set (value_of field q)) s (open' (value_of field q) (has_same seen f field q.proto e ∙ s) (is_shown seen f field q e))

pub agrees : (seen : Seen) (f : ℕ) (field : PacketField) → seen_field seen f ≡ Some field → Agrees seen f field
agrees seen f field e = record {
  protocols = λ proto. has_same seen f field proto e;
  top = λ site. top_same site seen f field e;
  value = λ q. is_shown seen f field q e;
  open_hit = λ q set h. open_hit seen f field q set e h;
  hit_open = λ q set s open'. hit_open seen f field q set e s open';
}
