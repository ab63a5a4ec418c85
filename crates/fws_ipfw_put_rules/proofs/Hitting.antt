-- Where pieces hold, and that they are printed.
use Rattle.std.proofs.Common.{◌≡◌, ℕ, zero, suc, ◌+◌, ◌<◌, Bool, true, false, ◌&&◌, ◌||◌, cond, List, [], ◌∷◌, length, inl, inr, refl, sym, ◌∙◌, ap, arith}
use Rattle.std.proofs.lemmas.Bool.{and_from, and_parts, or_parts, cases_Bool, eq-eqb, false≢true, le-leb, lt-ltb}
use Rattle.std.proofs.lemmas.List.Elements.{All-head, All-tail}
use Rattle.std.proofs.lemmas.Nat.{and_comm}
use Rattle.std.proofs.lemmas.List.Sums.{sum_by-cons}
use Rattle.std.specs.Int.Bits.{and_zero_r}
use Rattle.std.specs.List.{count_by, list_all, list_any}
use Rattle.std.specs.Prelude.{map, nat_eq, nat_le, nat_lt, bit_and, All}
use Rattle.fws_iv.specs.declared.cube.Cube.{Cube}
use Rattle.fws_iv.specs.declared.iv.Iv.{Iv}
use Rattle.fws_iv.specs.Cubes.{cube_has, cubes_with, IsCube}
use Rattle.fws_iv.specs.Ivs.{has, IsRegular}
use Rattle.fws_net.specs.declared.condition.Lit.{Lit}
use Rattle.fws_net.specs.declared.site.Site.{Site}
use Rattle.fws_net.specs.declared.view.View.{View}
use Rattle.fws_net.specs.Conditions.{lit_holds, test_holds}
use Rattle.fws_print.specs.Sets.{are_ranges}
use Rattle.fws_tree_seen.specs.declared.field.PacketField.{PacketField}
use Rattle.fws_tree_seen.specs.declared.field.PacketField.TheVariants.{Proto, Dst, Dport, Src, Sport, Flags, Icmp}
use Rattle.fws_tree_seen.specs.Fields.{suits}
use Rattle.fws_tree_seen.specs.Shown.{value_of}
use Rattle.fws_ipfw_put_rules.specs.Groups.{are_addresses, are_ports, AreGroups}
use Rattle.fws_ipfw_put_rules.specs.Literals.{is_printed_at}
use Rattle.fws_ipfw_put_rules.specs.Pieces.{cube_lit, place_at, set_lit, set_test, AreProtocolsBelow, ArePieces, IsProper}
use Rattle.fws_ipfw_put_rules.proofs.Grouping.{ranges_of}

-- ---- groups

-- one of the groups is tested with success where the field suits and its value is a member of one
grouped_hit : (field : PacketField) → ((v : View) (s : List Iv) → test_holds v (set_test field s) ≡ (suits field v.packet.proto && has s (value_of field v.packet)))
    → (v : View) (groups : List (List Iv)) → list_any (lit_holds v) (map (set_lit field) groups) ≡ (suits field v.packet.proto && list_any (λ s. has s (value_of field v.packet)) groups)
grouped_hit field tested v [] = none (suits field v.packet.proto)
  where
    none : (b : Bool) → false ≡ (b && false)
    none true = refl
    none false = refl
grouped_hit field tested v (s ∷ groups) =
    both (suits field v.packet.proto) (has s (value_of field v.packet)) (list_any (λ s. has s (value_of field v.packet)) groups) (test_holds v (set_test field s)) (list_any (lit_holds v) (map (set_lit field) groups))
    (tested v s) (grouped_hit field tested v groups)
  where
    both : (b c d t x : Bool) → t ≡ (b && c) → x ≡ (b && d) → (t || x) ≡ (b && (c || d))
    both true c d t x e f = ap (λ y. y || x) e ∙ ap (λ y. c || y) f
    both false c d t x e f = ap (λ y. y || x) e ∙ f

grouped_printed : (field : PacketField) (good : List Iv → Bool) (site : Site) → ((s : List Iv) → good s ≡ true → is_printed_at site (place_at field) (set_lit field s) ≡ true)
    → (groups : List (List Iv)) → list_all good groups ≡ true → list_all (is_printed_at site (place_at field)) (map (set_lit field) groups) ≡ true
grouped_printed field good site each [] h = refl
grouped_printed field good site each (s ∷ groups) h =
    let parts = and_parts (good s) (list_all good groups) h in
    and_from (is_printed_at site (place_at field) (set_lit field s)) (list_all (is_printed_at site (place_at field)) (map (set_lit field) groups))
    (each s parts.0) (grouped_printed field good site each groups parts.1)

group_pieces : (field : PacketField) (good : List Iv → Bool)
    → ((v : View) (s : List Iv) → test_holds v (set_test field s) ≡ (suits field v.packet.proto && has s (value_of field v.packet)))
    → ((site : Site) (s : List Iv) → good s ≡ true → is_printed_at site (place_at field) (set_lit field s) ≡ true)
    → (s : List Iv) (groups : List (List Iv)) (lits : List Lit) → AreGroups good s groups → lits ≡ map (set_lit field) groups → ArePieces field s lits
group_pieces field good tested each s groups lits h is = record {
  hit = λ v below. ap (λ l. list_any (lit_holds v) l) is ∙ grouped_hit field tested v groups ∙ ap (λ b. suits field v.packet.proto && b) (h.same (value_of field v.packet));
  printed = λ site. ap (λ l. list_all (is_printed_at site (place_at field)) l) is ∙ grouped_printed field good site (each site) groups h.each;
}

pub src_pieces : (s : List Iv) (groups : List (List Iv)) (lits : List Lit) → AreGroups are_addresses s groups → lits ≡ map (set_lit Src) groups → ArePieces Src s lits
src_pieces = group_pieces Src are_addresses (λ v s. refl) (λ site s e. e)

pub dst_pieces : (s : List Iv) (groups : List (List Iv)) (lits : List Lit) → AreGroups are_addresses s groups → lits ≡ map (set_lit Dst) groups → ArePieces Dst s lits
dst_pieces = group_pieces Dst are_addresses (λ v s. refl) (λ site s e. e)

pub sport_pieces : (s : List Iv) (groups : List (List Iv)) (lits : List Lit) → AreGroups are_ports s groups → lits ≡ map (set_lit Sport) groups → ArePieces Sport s lits
sport_pieces = group_pieces Sport are_ports (λ v s. refl) (λ site s e. e)

pub dport_pieces : (s : List Iv) (groups : List (List Iv)) (lits : List Lit) → AreGroups are_ports s groups → lits ≡ map (set_lit Dport) groups → ArePieces Dport s lits
dport_pieces = group_pieces Dport are_ports (λ v s. refl) (λ site s e. e)

-- ---- protocols and types

pub proto_pieces : (s : List Iv) (lits : List Lit) → AreProtocolsBelow s 256 lits → ArePieces Proto s lits
proto_pieces s lits h = record {
  hit = λ v below. h.hit v ∙ ap (λ b. b && has s v.packet.proto) (lt-ltb v.packet.proto 256 (let le = below refl in omega (arith, le)));
  printed = h.printed;
}

pub icmp_pieces : (s : List Iv) (lits : List Lit) → IsProper Icmp s → IsRegular s → lits ≡ set_lit Icmp s ∷ [] → ArePieces Icmp s lits
icmp_pieces s lits proper regular is = record {
  hit = λ v below. ap (λ l. list_any (lit_holds v) l) is ∙ or_none (test_holds v (set_test Icmp s));
  printed = λ site. ap (λ l. list_all (is_printed_at site 8) l) is ∙ and_from (are_ranges 255 s) true (ranges_of 255 s (filled s proper.some.0 proper.some.1) regular proper.within) refl;
}
  where
    or_none : (b : Bool) → (b || false) ≡ b
    or_none true = refl
    or_none false = refl

    filled : (s : List Iv) (v : ℕ) → has s v ≡ true → 0 < length s
    filled [] v e = absurd (false≢true e)
    filled (x ∷ s) v e = omega arith

-- ---- flags

cubes_hit : (v : View) (cs : List Cube) → list_any (lit_holds v) (map cube_lit cs) ≡ (nat_eq v.packet.proto 6 && list_any (λ c. cube_has c v.packet.flags) cs)
cubes_hit v [] = none (nat_eq v.packet.proto 6)
  where
    none : (p : Bool) → false ≡ (p && false)
    none true = refl
    none false = refl
cubes_hit v (c ∷ cs) =
    both (nat_eq v.packet.proto 6) (cube_has c v.packet.flags) (list_any (λ d. cube_has d v.packet.flags) cs) (list_any (lit_holds v) (map cube_lit cs)) (cubes_hit v cs)
  where
    both : (b c d x : Bool) → x ≡ (b && d) → ((b && c) || x) ≡ (b && (c || d))
    both true c d x f = ap (λ y. c || y) f
    both false c d x f = f

-- what is counted once is there
pub count_any : {X : Type 0} (p : X → Bool) (xs : List X) (b : Bool) → count_by p xs ≡ cond b 1 0 → list_any p xs ≡ b
count_any p [] true e = absurd (omega (arith, e))
count_any p [] false e = refl
count_any p (x ∷ xs) b e =
    let s = sum_by-cons (λ x. cond (p x) 1 0) x xs in
    elim (cases_Bool (p x)) [
      | inl y ↦ (let n : 1 + count_by p xs ≡ cond b 1 0 = ap (λ k. k + count_by p xs) (sym (ap (λ a. cond a 1 0) y)) ∙ sym s ∙ e in
          ap (λ a. a || list_any p xs) y ∙ is_true b (count_by p xs) n)
      | inr z ↦ (let n : 0 + count_by p xs ≡ cond b 1 0 = ap (λ k. k + count_by p xs) (sym (ap (λ a. cond a 1 0) z)) ∙ sym s ∙ e in
          let m : count_by p xs ≡ 0 + count_by p xs = omega arith in
          ap (λ a. a || list_any p xs) z ∙ count_any p xs b (m ∙ n))
    ]
  where
    is_true : (b : Bool) (n : ℕ) → 1 + n ≡ cond b 1 0 → true ≡ b
    is_true true n e = refl
    is_true false n e = absurd (omega (arith, e))

any_head : {X : Type 0} (p : X → Bool) (x : X) (xs : List X) → p x ≡ true → list_any p (x ∷ xs) ≡ true
any_head p x xs e = ap (λ b. b || list_any p xs) e

-- a cube that lacks a number tests a bit
tests_bit : (c : Cube) (x : ℕ) → IsCube c → cube_has c x ≡ false → nat_lt 0 c.mask ≡ true
tests_bit c x is lacks = lt-ltb 0 c.mask (positive c.mask c.want is.within lacks)
  where
    positive : (mask want : ℕ) → bit_and want mask ≡ want → nat_eq (bit_and x mask) want ≡ false → 0 < mask
    positive zero want e f = absurd (false≢true (sym f ∙ eq-eqb (bit_and x 0) want (and_zero_r x ∙ sym (and_zero_r want) ∙ e)))
    positive (suc n) want e f = omega arith

-- the cubes are printed where each lacks some number
cubes_printed : (site : Site) (x : ℕ) (cs : List Cube) → All IsCube cs → list_any (λ c. cube_has c x) cs ≡ false → list_all (is_printed_at site 7) (map cube_lit cs) ≡ true
cubes_printed site x [] h e = refl
cubes_printed site x (c ∷ cs) h e =
    let is = All-head IsCube c cs h in
    let parts = or_parts (cube_has c x) (list_any (λ d. cube_has d x) cs) e in
    let below = is.below in
    and_from (nat_lt 0 c.mask && nat_le c.mask 63 && nat_eq (bit_and c.mask c.want) c.want) (list_all (is_printed_at site 7) (map cube_lit cs))
    (and_from (nat_lt 0 c.mask && nat_le c.mask 63) (nat_eq (bit_and c.mask c.want) c.want)
    (and_from (nat_lt 0 c.mask) (nat_le c.mask 63) (tests_bit c x is parts.0) (le-leb c.mask 63 (omega (arith, below))))
    (eq-eqb (bit_and c.mask c.want) c.want (and_comm c.mask c.want ∙ is.within)))
    (cubes_printed site x cs (All-tail IsCube c cs h) parts.1)

pub flag_pieces : (s : List Iv) (cs : List Cube) (lits : List Lit) → IsProper Flags s → ((x : ℕ) → x < 64 → cubes_with x cs ≡ cond (has s x) 1 0) → All IsCube cs → lits ≡ map cube_lit cs → ArePieces Flags s lits
flag_pieces s cs lits proper once cubes is = record {
  hit = λ v below.
      let x = v.packet.flags in
      ap (λ l. list_any (lit_holds v) l) is ∙ cubes_hit v cs
      ∙ under (nat_eq v.packet.proto 6) (list_any (λ c. cube_has c x) cs) (has s x) (λ e. count_any (λ c. cube_has c x) cs (has s x) (once x (let le = below e in omega (arith, le))));
  printed = λ site.
      let x = proper.lacks.0 in
      let le = proper.lacks.1 in
      ap (λ l. list_all (is_printed_at site 7) l) is
      ∙ cubes_printed site x cs cubes (count_any (λ c. cube_has c x) cs (has s x) (once x (omega (arith, le))) ∙ proper.lacks.2);
}
  where
    under : (p a b : Bool) → (p ≡ true → a ≡ b) → (p && a) ≡ (p && b)
    under true a b f = f refl
    under false a b f = refl
