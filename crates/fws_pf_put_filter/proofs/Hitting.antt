-- Where pieces hold, and that they are printed.
use Rattle.std.proofs.Common.{◌≡◌, ℕ, zero, suc, ◌+◌, ◌<◌, ◌≤◌, Bool, true, false, ◌&&◌, ◌||◌, cond, List, [], ◌∷◌, ◌++◌, length, get_or, inl, inr, refl, sym, ◌∙◌, ap, subst, arith}
use Rattle.std.proofs.lemmas.Bool.{and_from, or_left, or_parts, or_right, cases_Bool, eq-eqb, false≢true, le-leb, lt-ltb}
use Rattle.std.proofs.lemmas.Bool.Decides.{nat_tests}
use Rattle.std.proofs.lemmas.List.Elements.{All-head, All-tail}
use Rattle.std.proofs.lemmas.List.Folds.{list_any-append, list_all-append}
use Rattle.std.proofs.lemmas.Nat.{and_comm}
use Rattle.std.proofs.lemmas.List.Sums.{sum_by-cons}
use Rattle.std.specs.Int.Bits.{and_zero_r}
use Rattle.std.specs.List.{count_by, list_all, list_any}
use Rattle.std.specs.Prelude.{map, nat_eq, nat_le, nat_lt, bit_and, All}
use Rattle.fws_iv.specs.declared.cube.Cube.{Cube}
use Rattle.fws_iv.specs.declared.iv.Iv.{Iv}
use Rattle.fws_iv.specs.Cubes.{cube_has, cubes_with, IsCube}
use Rattle.fws_iv.specs.Ivs.{has, in_part, IsRegularFrom}
use Rattle.fws_net.specs.declared.condition.Lit.{Lit}
use Rattle.fws_net.specs.declared.site.Site.{Site}
use Rattle.fws_net.specs.declared.view.View.{View}
use Rattle.fws_net.specs.Conditions.{lit_holds, test_holds}
use Rattle.fws_tree_seen.specs.declared.field.PacketField.{PacketField}
use Rattle.fws_tree_seen.specs.declared.field.PacketField.TheVariants.{Proto, Dst, Dport, Src, Sport, Flags, Icmp}
use Rattle.fws_tree_seen.specs.Fields.{suits, top_of}
use Rattle.fws_tree_seen.specs.Shown.{value_of}
use Rattle.fws_pf_put_filter.specs.Literals.{is_printed_at}
use Rattle.fws_pf_put_filter.specs.Pieces.{cube_lit, place_at, range_lit, set_test, ArePieces, AreRanges, AreValuesBelow, IsOneByOne, IsProper}

-- a test of a field for a set holds where the field suits and its value is a member
abbrev IsTest : PacketField → Type 0
IsTest field = (v : View) (s : List Iv) → test_holds v (set_test field s) ≡ (suits field v.packet.proto && has s (value_of field v.packet))

-- ---- intervals

ranges_hit : (field : PacketField) → IsTest field → (v : View) (parts : List Iv)
    → list_any (lit_holds v) (map (range_lit field) parts) ≡ (suits field v.packet.proto && has parts (value_of field v.packet))
ranges_hit field tested v [] = none (suits field v.packet.proto)
  where
    none : (b : Bool) → false ≡ (b && false)
    none true = refl
    none false = refl
ranges_hit field tested v (x ∷ parts) =
    both (suits field v.packet.proto) (in_part x (value_of field v.packet)) (has parts (value_of field v.packet)) (test_holds v (set_test field (x ∷ []))) (list_any (lit_holds v) (map (range_lit field) parts))
    (tested v (x ∷ [])) (ranges_hit field tested v parts)
  where
    both : (b c d t y : Bool) → t ≡ (b && (c || false)) → y ≡ (b && d) → (t || y) ≡ (b && (c || d))
    both true true d t y e f = ap (λ z. z || y) e
    both true false d t y e f = ap (λ z. z || y) e ∙ f
    both false c d t y e f = ap (λ z. z || y) e ∙ f

-- the greatest number of an interval is a member
hi_member : (x : Iv) (s : List Iv) → x.lo ≤ x.hi → has (x ∷ s) x.hi ≡ true
hi_member x s le = or_left (in_part x x.hi) (has s x.hi) (and_from (nat_le x.lo x.hi) (nat_le x.hi x.hi) (le-leb x.lo x.hi le) (le-leb x.hi x.hi (omega arith)))

ranges_printed : (field : PacketField) (site : Site) (protocol most : ℕ)
    → ((x : Iv) → (nat_le x.lo x.hi && nat_le x.hi most) ≡ true → is_printed_at site protocol (place_at field) (range_lit field x) ≡ true)
    → (from : ℕ) (parts : List Iv) → IsRegularFrom from parts → ((v : ℕ) → has parts v ≡ true → v ≤ most) → list_all (is_printed_at site protocol (place_at field)) (map (range_lit field) parts) ≡ true
ranges_printed field site protocol most each from [] regular below = refl
ranges_printed field site protocol most each from (x ∷ parts) regular below =
    and_from (is_printed_at site protocol (place_at field) (range_lit field x)) (list_all (is_printed_at site protocol (place_at field)) (map (range_lit field) parts))
    (each x (and_from (nat_le x.lo x.hi) (nat_le x.hi most) (le-leb x.lo x.hi regular.1) (le-leb x.hi most (below x.hi (hi_member x parts regular.1)))))
    (ranges_printed field site protocol most each (x.hi + 2) parts regular.2 (λ v e. below v (or_right (in_part x v) (has parts v) e)))

range_pieces : (field : PacketField) → IsTest field
    → ((site : Site) (protocol : ℕ) → suits field protocol ≡ true → (x : Iv) → (nat_le x.lo x.hi && nat_le x.hi (top_of field)) ≡ true → is_printed_at site protocol (place_at field) (range_lit field x) ≡ true)
    → (s : List Iv) (lits : List Lit) → IsProper field s → AreRanges field s lits → ArePieces field s lits
range_pieces field tested each s lits proper h = record {
  hit = λ v below. ap (λ l. list_any (lit_holds v) l) h.each ∙ ranges_hit field tested v s;
  printed = λ site protocol suited. ap (λ l. list_all (is_printed_at site protocol (place_at field)) l) h.each
      ∙ ranges_printed field site protocol (top_of field) (each site protocol suited) 0 s h.regular proper.within;
}

pub src_pieces : (s : List Iv) (lits : List Lit) → IsProper Src s → AreRanges Src s lits → ArePieces Src s lits
src_pieces = range_pieces Src (λ v s. refl) (λ site protocol suited x e. e)

pub dst_pieces : (s : List Iv) (lits : List Lit) → IsProper Dst s → AreRanges Dst s lits → ArePieces Dst s lits
dst_pieces = range_pieces Dst (λ v s. refl) (λ site protocol suited x e. e)

pub sport_pieces : (s : List Iv) (lits : List Lit) → IsProper Sport s → AreRanges Sport s lits → ArePieces Sport s lits
sport_pieces = range_pieces Sport (λ v s. refl) (λ site protocol suited x e. and_from (suits Sport protocol) (nat_le x.lo x.hi && nat_le x.hi 65535) suited e)

pub dport_pieces : (s : List Iv) (lits : List Lit) → IsProper Dport s → AreRanges Dport s lits → ArePieces Dport s lits
dport_pieces = range_pieces Dport (λ v s. refl) (λ site protocol suited x e. and_from (suits Dport protocol) (nat_le x.lo x.hi && nat_le x.hi 65535) suited e)

-- ---- protocols and types

one_test : (field : PacketField) → IsOneByOne field → IsTest field
one_test Proto is = λ v s. refl
one_test Icmp is = λ v s. refl
one_test Dst is = absurd is
one_test Dport is = absurd is
one_test Src is = absurd is
one_test Sport is = absurd is
one_test Flags is = absurd is

-- a literal for one number
abbrev value_lit : PacketField → ℕ → Lit
value_lit field n = range_lit field (record { lo = n; hi = n })

spelled : (n : ℕ) → n ≤ 255 → (nat_eq n n && nat_le n 255) ≡ true
spelled n le = grind (arith, nat_tests)

value_printed : (field : PacketField) → IsOneByOne field → (site : Site) (protocol n : ℕ) → suits field protocol ≡ true → n ≤ 255 → is_printed_at site protocol (place_at field) (value_lit field n) ≡ true
value_printed Proto is site protocol n suited le = spelled n le
value_printed Icmp is site protocol n suited le = and_from (nat_eq protocol 1) (nat_eq n n && nat_le n 255) suited (spelled n le)
value_printed Dst is site protocol n suited le = absurd is
value_printed Dport is site protocol n suited le = absurd is
value_printed Src is site protocol n suited le = absurd is
value_printed Sport is site protocol n suited le = absurd is
value_printed Flags is site protocol n suited le = absurd is

pub no_values : (field : PacketField) (s : List Iv) → AreValuesBelow field s 0 []
no_values field s = record {
  hit = λ v. none (suits field v.packet.proto) (value_of field v.packet) (has s (value_of field v.packet));
  printed = λ le site protocol suited. refl;
}
  where
    none : (a : Bool) (n : ℕ) (b : Bool) → false ≡ (a && (nat_lt n 0 && b))
    none true n true = grind (arith, nat_tests)
    none true n false = grind (arith, nat_tests)
    none false n b = refl

pub value_more : (field : PacketField) → IsOneByOne field → (s : List Iv) (n : ℕ) (lits new : List Lit) → has s n ≡ true → new ≡ lits ++ value_lit field n ∷ [] → AreValuesBelow field s n lits
    → AreValuesBelow field s (n + 1) new
value_more field is s n lits new has-it e h = record {
  hit = λ v.
      let x = value_of field v.packet in
      ap (λ l. list_any (lit_holds v) l) e ∙ list_any-append (lit_holds v) lits (value_lit field n ∷ [])
      ∙ ap (λ b. b || (lit_holds v (value_lit field n) || false)) (h.hit v)
      ∙ ap (λ b. (suits field v.packet.proto && (nat_lt x n && has s x)) || (b || false)) (one_test field is v (record { lo = n; hi = n } ∷ []))
      ∙ one_more (suits field v.packet.proto) x n (has s x) (λ k. subst (λ k. has s k ≡ true) k has-it);
  printed = λ le site protocol suited.
      ap (λ l. list_all (is_printed_at site protocol (place_at field)) l) e ∙ list_all-append (is_printed_at site protocol (place_at field)) lits (value_lit field n ∷ [])
      ∙ and_from (list_all (is_printed_at site protocol (place_at field)) lits) (list_all (is_printed_at site protocol (place_at field)) (value_lit field n ∷ []))
      (h.printed (omega (arith, le)) site protocol suited)
      (and_from (is_printed_at site protocol (place_at field) (value_lit field n)) true (value_printed field is site protocol n suited (omega (arith, le))) refl);
}
  where
    one_more : (a : Bool) (x n : ℕ) (b : Bool) → (n ≡ x → b ≡ true)
        → ((a && (nat_lt x n && b)) || ((a && ((nat_le n x && nat_le x n) || false)) || false)) ≡ (a && (nat_lt x (n + 1) && b))
    one_more false x n b f = refl
    one_more true x n true f = at_last (nat_lt x n) (nat_le n x) (nat_le x n) (nat_lt x (n + 1)) (tests-agree x n)
      where
        at_last : (a b c d : Bool) → (a || (b && c)) ≡ d → ((a && true) || (((b && c) || false) || false)) ≡ (d && true)
        at_last true b c d h = cc
        at_last false true true d h = cc
        at_last false true false d h = cc
        at_last false false c d h = cc

        tests-agree : (e n : ℕ) → (nat_lt e n || (nat_le n e && nat_le e n)) ≡ nat_lt e (n + 1)
        tests-agree e n = grind (arith, nat_tests)
    one_more true x n false f = never (nat_lt x n) (nat_le n x && nat_le x n) (nat_lt x (n + 1)) (λ y. let k = f (both x n y) in absurd (cc))
      where
        never : (a b d : Bool) → (b ≡ true → ⊥) → ((a && false) || ((b || false) || false)) ≡ (d && false)
        never a true d f = absurd (f refl)
        never true false true f = refl
        never true false false f = refl
        never false false true f = refl
        never false false false f = refl

        both : (e n : ℕ) → (nat_le n e && nat_le e n) ≡ true → n ≡ e
        both e n y = grind (arith, nat_tests)

pub value_less : (field : PacketField) (s : List Iv) (n : ℕ) (lits : List Lit) → has s n ≡ false → AreValuesBelow field s n lits → AreValuesBelow field s (n + 1) lits
value_less field s n lits lacks h = record {
  hit = λ v.
      let x = value_of field v.packet in
      h.hit v ∙ ap (λ b. suits field v.packet.proto && b) (not_last x n (has s x) (λ k. subst (λ k. has s k ≡ false) k lacks));
  printed = λ le site protocol suited. h.printed (omega (arith, le)) site protocol suited;
}
  where
    not_last : (e n : ℕ) (b : Bool) → (n ≡ e → b ≡ false) → (nat_lt e n && b) ≡ (nat_lt e (n + 1) && b)
    not_last e n true f = ap (λ x. x && true) (other e n (λ k. let r = f k in absurd (cc)))
      where
        other : (e n : ℕ) → (n ≡ e → ⊥) → nat_lt e n ≡ nat_lt e (n + 1)
        other e n f = grind (arith, nat_tests)
    not_last e n false f = never (nat_lt e n) (nat_lt e (n + 1))
      where
        never : (a b : Bool) → (a && false) ≡ (b && false)
        never true true = refl
        never true false = refl
        never false true = refl
        never false false = refl

-- fields of values up to 255
value_pieces : (field : PacketField) → top_of field ≡ 255 → (s : List Iv) (lits : List Lit) → AreValuesBelow field s 256 lits → ArePieces field s lits
value_pieces field top s lits h = record {
  hit = λ v below. h.hit v ∙ under (suits field v.packet.proto) (nat_lt (value_of field v.packet) 256) (has s (value_of field v.packet))
      (λ e. lt-ltb (value_of field v.packet) 256 (let le = below e in omega (arith, le, top)));
  printed = λ site protocol suited. h.printed (omega arith) site protocol suited;
}
  where
    under : (p a b : Bool) → (p ≡ true → a ≡ true) → (p && (a && b)) ≡ (p && b)
    under true a b f = ap (λ x. x && b) (f refl)
    under false a b f = refl

pub proto_pieces : (s : List Iv) (lits : List Lit) → AreValuesBelow Proto s 256 lits → ArePieces Proto s lits
proto_pieces s lits h = value_pieces Proto refl s lits h

pub icmp_pieces : (s : List Iv) (lits : List Lit) → AreValuesBelow Icmp s 256 lits → ArePieces Icmp s lits
icmp_pieces s lits h = value_pieces Icmp refl s lits h

-- ---- flags

cubes_hit : (v : View) (cs : List Cube) → list_any (lit_holds v) (map cube_lit cs) ≡ (nat_eq v.packet.proto 6 && list_any (λ c. cube_has c v.packet.flags) cs)
cubes_hit v [] = none (nat_eq v.packet.proto 6)
  where
    none : (p : Bool) → false ≡ (p && false)
    none true = refl
    none false = refl
cubes_hit v (c ∷ cs) =
    both (nat_eq v.packet.proto 6) (cube_has c v.packet.flags) (list_any (λ d. cube_has d v.packet.flags) cs) (list_any (lit_holds v) (map cube_lit cs)) (cubes_hit v cs)
  where
    both : (b c d x : Bool) → x ≡ (b && d) → ((b && c) || x) ≡ (b && (c || d))
    both true c d x f = ap (λ y. c || y) f
    both false c d x f = f

-- what is counted once is there
pub count_any : {X : Type 0} (p : X → Bool) (xs : List X) (b : Bool) → count_by p xs ≡ cond b 1 0 → list_any p xs ≡ b
count_any p [] true e = absurd (omega (arith, e))
count_any p [] false e = refl
count_any p (x ∷ xs) b e =
    let s = sum_by-cons (λ x. cond (p x) 1 0) x xs in
    elim (cases_Bool (p x)) [
      | inl y ↦ (let n : 1 + count_by p xs ≡ cond b 1 0 = ap (λ k. k + count_by p xs) (sym (ap (λ a. cond a 1 0) y)) ∙ sym s ∙ e in
          ap (λ a. a || list_any p xs) y ∙ is_true b (count_by p xs) n)
      | inr z ↦ (let n : 0 + count_by p xs ≡ cond b 1 0 = ap (λ k. k + count_by p xs) (sym (ap (λ a. cond a 1 0) z)) ∙ sym s ∙ e in
          let m : count_by p xs ≡ 0 + count_by p xs = omega arith in
          ap (λ a. a || list_any p xs) z ∙ count_any p xs b (m ∙ n))
    ]
  where
    is_true : (b : Bool) (n : ℕ) → 1 + n ≡ cond b 1 0 → true ≡ b
    is_true true n e = refl
    is_true false n e = absurd (omega (arith, e))

any_head : {X : Type 0} (p : X → Bool) (x : X) (xs : List X) → p x ≡ true → list_any p (x ∷ xs) ≡ true
any_head p x xs e = ap (λ b. b || list_any p xs) e

-- a cube that lacks a number tests a bit
tests_bit : (c : Cube) (x : ℕ) → IsCube c → cube_has c x ≡ false → nat_lt 0 c.mask ≡ true
tests_bit c x is lacks = lt-ltb 0 c.mask (positive c.mask c.want is.within lacks)
  where
    positive : (mask want : ℕ) → bit_and want mask ≡ want → nat_eq (bit_and x mask) want ≡ false → 0 < mask
    positive zero want e f = absurd (false≢true (sym f ∙ eq-eqb (bit_and x 0) want (and_zero_r x ∙ sym (and_zero_r want) ∙ e)))
    positive (suc n) want e f = omega arith

-- the cubes are printed where each lacks some number
cubes_printed : (site : Site) (protocol : ℕ) → suits Flags protocol ≡ true → (x : ℕ) (cs : List Cube) → All IsCube cs → list_any (λ c. cube_has c x) cs ≡ false → list_all (is_printed_at site protocol 6) (map cube_lit cs) ≡ true
cubes_printed site protocol suited x [] h e = refl
cubes_printed site protocol suited x (c ∷ cs) h e =
    let is = All-head IsCube c cs h in
    let parts = or_parts (cube_has c x) (list_any (λ d. cube_has d x) cs) e in
    let below = is.below in
    and_from (nat_eq protocol 6 && (nat_lt 0 c.mask && nat_le c.mask 63 && nat_eq (bit_and c.mask c.want) c.want)) (list_all (is_printed_at site protocol 6) (map cube_lit cs))
    (and_from (nat_eq protocol 6) (nat_lt 0 c.mask && nat_le c.mask 63 && nat_eq (bit_and c.mask c.want) c.want) suited
    (and_from (nat_lt 0 c.mask && nat_le c.mask 63) (nat_eq (bit_and c.mask c.want) c.want)
    (and_from (nat_lt 0 c.mask) (nat_le c.mask 63) (tests_bit c x is parts.0) (le-leb c.mask 63 (omega (arith, below))))
    (eq-eqb (bit_and c.mask c.want) c.want (and_comm c.mask c.want ∙ is.within))))
    (cubes_printed site protocol suited x cs (All-tail IsCube c cs h) parts.1)

pub flag_pieces : (s : List Iv) (cs : List Cube) (lits : List Lit) → IsProper Flags s → ((x : ℕ) → x < 64 → cubes_with x cs ≡ cond (has s x) 1 0) → All IsCube cs → lits ≡ map cube_lit cs → ArePieces Flags s lits
flag_pieces s cs lits proper once cubes is = record {
  hit = λ v below.
      let x = v.packet.flags in
      ap (λ l. list_any (lit_holds v) l) is ∙ cubes_hit v cs
      ∙ under (nat_eq v.packet.proto 6) (list_any (λ c. cube_has c x) cs) (has s x) (λ e. count_any (λ c. cube_has c x) cs (has s x) (once x (let le = below e in omega (arith, le))));
  printed = λ site protocol suited.
      let x = proper.lacks.0 in
      let le = proper.lacks.1 in
      ap (λ l. list_all (is_printed_at site protocol 6) l) is
      ∙ cubes_printed site protocol suited x cs cubes (count_any (λ c. cube_has c x) cs (has s x) (once x (omega (arith, le))) ∙ proper.lacks.2);
}
  where
    under : (p a b : Bool) → (p ≡ true → a ≡ b) → (p && a) ≡ (p && b)
    under true a b f = f refl
    under false a b f = refl

-- ---- intervals of regular sets

pub part_order : (from k : ℕ) (s : List Iv) (d : Iv) → IsRegularFrom from s → k < length s → (get_or s k d).lo ≤ (get_or s k d).hi
part_order from k [] d regular lt = absurd (omega (arith, lt))
part_order from zero (x ∷ s) d regular lt = regular.1
part_order from (suc k) (x ∷ s) d regular lt = part_order (x.hi + 2) k s d regular.2 (omega (arith, lt))
