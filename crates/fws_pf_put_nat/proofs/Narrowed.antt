-- Paths that ask for the members of a set.
use Rattle.std.proofs.Common.{◌≡◌, ℕ, suc, ◌+◌, ◌≤◌, Bool, true, false, ◌&&◌, ◌||◌, not, Some, None, List, [], ◌∷◌, ◌++◌, length, inl, inr, refl, sym, ◌∙◌, ap, subst, arith}
use Rattle.std.proofs.lemmas.Bool.{and_from, and_parts, cases_Bool, cond-true, cond-false, false≢true, le-leb, lt-ltb, or_right}
use Rattle.std.proofs.lemmas.Bool.Decides.{nat_tests}
use Rattle.std.proofs.lemmas.List.Elements.{All-append, All-cons, All-nil, All-weaker}
use Rattle.std.proofs.lemmas.List.Folds.{list_any-append}
use Rattle.std.specs.Option.{option_map_or}
use Rattle.std.specs.Prelude.{◌-◌, ◌^◌, nat_eq, nat_le, nat_lt, slice_index, All}
use Rattle.fws_iv.specs.declared.iv.Iv.{Iv}
use Rattle.fws_iv.specs.Ivs.{has, in_part, IsRegular, IsRegularFrom}
use Rattle.fws_net.specs.declared.packet.Packet.{Packet}
use Rattle.fws_net.specs.declared.site.Site.{Site}
use Rattle.fws_net.specs.Conditions.{is_shown}
use Rattle.fws_net.specs.Fates.{has_ports}
use Rattle.fws_pf.specs.Drawn.{is_port_protocol}
use Rattle.fws_pf_put_nat.specs.declared.path.Path.{Path}
use Rattle.fws_pf_put_nat.specs.declared.side.Side.{Side}
use Rattle.fws_pf_put_nat.specs.declared.side.Side.TheVariants.{Entry, Proto, Dst, Dport, Src, Sport}
use Rattle.fws_pf_put_nat.specs.Scenes.{IsFine, IsPlanned, Scene}
use Rattle.fws_pf_put_nat.specs.Turns.{ArePaths}
use Rattle.fws_pf_put_nat.specs.Narrowing.{number_at, only, protocol_paths, range_paths, takes_protocol, AreNumberPaths, AreNumbers, AsksNumber}
use Rattle.fws_pf_put_nat.specs.Paths.{hits, number_of, part_has, part_of, path_has, protocol_of, some_path_has, test_of, with_part, IsGoodPath}
use Rattle.fws_pf_print.specs.Printable.{is_printed_test}
use Rattle.fws_pf_put_nat.specs.Translations.{IsMet}
use Rattle.fws_pf_put_nat.proofs.Pathing.{good_under, good_with, narrowed_has}

-- ---- on paths

-- a field of which nothing is asked
pub part_free : (side : Side) (path : Path) (q : Packet) → part_of side path ≡ None → part_has side path q ≡ true
part_free side path q e = ap (λ o. option_map_or (λ part. hits side (part ∷ []) q) o true) e

-- a packet on a path has what is asked of its protocol
pub path_proto : (path : Path) (q : Packet) → path_has path q ≡ true → part_has Proto path q ≡ true
path_proto path q h =
    let a = and_parts (part_has Entry path q && part_has Proto path q && part_has Src path q && part_has Sport path q && part_has Dst path q) (part_has Dport path q) h in
    let b = and_parts (part_has Entry path q && part_has Proto path q && part_has Src path q && part_has Sport path q) (part_has Dst path q) a.0 in
    let c = and_parts (part_has Entry path q && part_has Proto path q && part_has Src path q) (part_has Sport path q) b.0 in
    let d = and_parts (part_has Entry path q && part_has Proto path q) (part_has Src path q) c.0 in
    (and_parts (part_has Entry path q) (part_has Proto path q) d.0).1

pub path_src : (path : Path) (q : Packet) → path_has path q ≡ true → part_has Src path q ≡ true
path_src path q h =
    let a = and_parts (part_has Entry path q && part_has Proto path q && part_has Src path q && part_has Sport path q && part_has Dst path q) (part_has Dport path q) h in
    let b = and_parts (part_has Entry path q && part_has Proto path q && part_has Src path q && part_has Sport path q) (part_has Dst path q) a.0 in
    let c = and_parts (part_has Entry path q && part_has Proto path q && part_has Src path q) (part_has Sport path q) b.0 in
    (and_parts (part_has Entry path q && part_has Proto path q) (part_has Src path q) c.0).1

pub path_dst : (path : Path) (q : Packet) → path_has path q ≡ true → part_has Dst path q ≡ true
path_dst path q h =
    let a = and_parts (part_has Entry path q && part_has Proto path q && part_has Src path q && part_has Sport path q && part_has Dst path q) (part_has Dport path q) h in
    (and_parts (part_has Entry path q && part_has Proto path q && part_has Src path q && part_has Sport path q) (part_has Dst path q) a.0).1

-- ---- one number after another

-- an interface or a protocol is asked for by its number
hits_number : (site : Site) (outward : Bool) (side : Side) (from top : ℕ) (set : List Iv) (p : Packet) → AreNumbers site outward side from top → from ≤ number_at side p → hits side set p ≡ has set (number_at side p)
hits_number site outward Entry from top set p numbers le =
    let one : from ≡ 1 = numbers.0 in
    ap (λ o. is_shown o set) (cond-false (nat_eq p.entry 0) None (Some p.entry) (some p.entry (omega (arith, le, one))))
  where
    some : (n : ℕ) → 1 ≤ n → nat_eq n 0 ≡ false
    some n le = grind (arith, nat_tests)
hits_number site outward Proto from top set p numbers le = refl
hits_number site outward Dst from top set p numbers le = absurd numbers
hits_number site outward Dport from top set p numbers le = absurd numbers
hits_number site outward Src from top set p numbers le = absurd numbers
hits_number site outward Sport from top set p numbers le = absurd numbers

joined : (P a e c : Bool) → (a || (e || false)) ≡ c → ((P && a) || ((P && e) || false)) ≡ (P && c)
joined true a e c h = h
joined false a e c h = refl

one_more : (e n : ℕ) (b : Bool) → (n ≡ e → b ≡ true) → ((nat_lt e n && b) || (((nat_le n e && nat_le e n) || false) || false)) ≡ (nat_lt e (n + 1) && b)
one_more e n true f = at_last (nat_lt e n) (nat_le n e) (nat_le e n) (nat_lt e (n + 1)) (tests-agree e n)
  where
    at_last : (a b c d : Bool) → (a || (b && c)) ≡ d → ((a && true) || (((b && c) || false) || false)) ≡ (d && true)
    at_last true b c d h = cc
    at_last false true true d h = cc
    at_last false true false d h = cc
    at_last false false c d h = cc

    tests-agree : (e n : ℕ) → (nat_lt e n || (nat_le n e && nat_le e n)) ≡ nat_lt e (n + 1)
    tests-agree e n = grind (arith, nat_tests)
one_more e n false f = never (nat_lt e n) (nat_le n e && nat_le e n) (nat_lt e (n + 1)) (λ y. let k = f (both e n y) in absurd (cc))
  where
    never : (a b d : Bool) → (b ≡ true → ⊥) → ((a && false) || ((b || false) || false)) ≡ (d && false)
    never a true d f = absurd (f refl)
    never true false true f = refl
    never true false false f = refl
    never false false true f = refl
    never false false false f = refl

    both : (e n : ℕ) → (nat_le n e && nat_le e n) ≡ true → n ≡ e
    both e n y = grind (arith, nat_tests)

not_last : (e n : ℕ) (b : Bool) → (n ≡ e → b ≡ false) → (nat_lt e n && b) ≡ (nat_lt e (n + 1) && b)
not_last e n true f = ap (λ x. x && true) (other e n (λ k. let r = f k in absurd (cc)))
  where
    other : (e n : ℕ) → (n ≡ e → ⊥) → nat_lt e n ≡ nat_lt e (n + 1)
    other e n f = grind (arith, nat_tests)
not_last e n false f = never (nat_lt e n) (nat_lt e (n + 1))
  where
    never : (a b : Bool) → (a && false) ≡ (b && false)
    never true true = refl
    never true false = refl
    never false true = refl
    never false false = refl

pub no_numbers : (side : Side) (set : List Iv) (path : Path) (from : ℕ) → AreNumberPaths side set path from from []
no_numbers side set path from = record {
  same = λ p le. none (path_has path p) (nat_lt (number_at side p) from) (has set (number_at side p)) (past (number_at side p) from le);
  each = All-nil (AsksNumber side set path from from);
}
  where
    none : (P a b : Bool) → a ≡ false → false ≡ (P && (a && b))
    none true true b e = absurd (false≢true (sym e))
    none true false b e = refl
    none false a b e = refl

    past : (e from : ℕ) → from ≤ e → nat_lt e from ≡ false
    past e from le = grind (arith, nat_tests)

asks_later : (side : Side) (set : List Iv) (path : Path) (from n : ℕ) (x : Path) → AsksNumber side set path from n x → AsksNumber side set path from (n + 1) x
asks_later side set path from n x a = let high = a.high in record { number = a.number; low = a.low; high = omega (arith, high); is = a.is }

pub number_more : (site : Site) (outward : Bool) (side : Side) (set : List Iv) (path : Path) (from top n : ℕ) (paths new : List Path) → AreNumbers site outward side from top → from ≤ n → part_of side path ≡ None
    → has set n ≡ true → new ≡ paths ++ with_part side (only n) path ∷ [] → AreNumberPaths side set path from n paths → AreNumberPaths side set path from (n + 1) new
number_more site outward side set path from top n paths new numbers low free has-it is h =
    let x : Path = with_part side (only n) path in record {
      same = λ p le.
          let w : ℕ = number_at side p in
          ap (λ l. some_path_has l p) is ∙ list_any-append (λ (y : Path). path_has y p) paths (x ∷ [])
          ∙ ap (λ b. b || (path_has x p || false)) (h.same p le)
          ∙ ap (λ b. (path_has path p && (nat_lt w n && has set w)) || (b || false))
          (narrowed_has side (only n) path p (λ e. part_free side path p free) ∙ ap (λ b. path_has path p && b) (hits_number site outward side from top (only n ∷ []) p numbers le))
          ∙ joined (path_has path p) (nat_lt w n && has set w) ((nat_le n w && nat_le w n) || false) (nat_lt w (n + 1) && has set w)
          (one_more w n (has set w) (λ k. subst (λ k. has set k ≡ true) k has-it));
      each = subst (λ l. All (AsksNumber side set path from (n + 1)) l) (sym is)
          (All-append (AsksNumber side set path from (n + 1)) paths (x ∷ [])
          (All-weaker (AsksNumber side set path from n) (AsksNumber side set path from (n + 1)) (λ y a. asks_later side set path from n y a) paths h.each)
          (All-cons (AsksNumber side set path from (n + 1)) x [] (record { number = n; low = low; high = omega arith; is = refl }) (All-nil (AsksNumber side set path from (n + 1)))));
    }

pub number_less : (side : Side) (set : List Iv) (path : Path) (from n : ℕ) (paths : List Path) → has set n ≡ false → AreNumberPaths side set path from n paths → AreNumberPaths side set path from (n + 1) paths
number_less side set path from n paths lacks h = record {
  same = λ p le. h.same p le ∙ ap (λ b. path_has path p && b) (not_last (number_at side p) n (has set (number_at side p)) (λ k. subst (λ k. has set k ≡ false) k lacks));
  each = All-weaker (AsksNumber side set path from n) (AsksNumber side set path from (n + 1)) (λ y a. asks_later side set path from n y a) paths h.each;
}

number_printed : (site : Site) (outward : Bool) (side : Side) (from top v : ℕ) (path : Path) → AreNumbers site outward side from top → from ≤ v → v ≤ top
    → is_printed_test site (protocol_of (with_part side (only v) path)) (test_of side (only v ∷ [])) ≡ true
number_printed site outward Entry from top v path numbers low high =
    let one : from ≡ 1 = numbers.0 in let last = numbers.1 in printed v (length site.faces + 1) (omega (arith, low, one)) (omega (arith, high, last))
  where
    printed : (v most : ℕ) → 1 ≤ v → v ≤ most → ((nat_eq v v && nat_le v most) && (not (nat_eq v 0) && true)) ≡ true
    printed v most low high = grind (arith, nat_tests)
number_printed site outward Proto from top v path numbers low high = let last = numbers.1 in printed v 255 (omega (arith, high, last))
  where
    printed : (v most : ℕ) → v ≤ most → (nat_eq v v && nat_le v most) ≡ true
    printed v most high = grind (arith, nat_tests)
number_printed site outward Dst from top v path numbers low high = absurd numbers
number_printed site outward Dport from top v path numbers low high = absurd numbers
number_printed site outward Src from top v path numbers low high = absurd numbers
number_printed site outward Sport from top v path numbers low high = absurd numbers

-- what is known of a packet's number
numbers_met : (s : Scene) (side : Side) (from top : ℕ) (p : Packet) → IsPlanned s → IsFine s p → AreNumbers s.site s.outward side from top → (from ≤ number_at side p) × (number_at side p ≤ top)
numbers_met s Entry from top p planned fine numbers =
    let met : IsMet false s.tops p.entry = subst (λ b. IsMet b s.tops p.entry) numbers.2 fine.met in
    let one : from ≡ 1 = numbers.0 in
    let some : 1 ≤ p.entry = met.0 in
    let high : p.entry ≤ length s.site.faces + 1 = subst (λ l. p.entry ≤ slice_index l 0) planned.tops_are met.1 in
    let last = numbers.1 in
    (omega (arith, one, some), omega (arith, last, high))
numbers_met s Proto from top p planned fine numbers =
    let high : p.proto ≤ 255 = subst (λ l. p.proto ≤ slice_index l 1) planned.tops_are (fine.topped 1 p.proto refl refl) in
    let none : from ≡ 0 = numbers.0 in
    let last = numbers.1 in
    (omega (arith, none), omega (arith, last, high))
numbers_met s Dst from top p planned fine numbers = absurd numbers
numbers_met s Dport from top p planned fine numbers = absurd numbers
numbers_met s Src from top p planned fine numbers = absurd numbers
numbers_met s Sport from top p planned fine numbers = absurd numbers

inward_of : (site : Site) (outward : Bool) (side : Side) (from top : ℕ) → AreNumbers site outward side from top → side ≡ Entry → outward ≡ false
inward_of site outward Entry from top numbers e = numbers.2
inward_of site outward Proto from top numbers e = absurd (cc)
inward_of site outward Dst from top numbers e = absurd numbers
inward_of site outward Dport from top numbers e = absurd numbers
inward_of site outward Src from top numbers e = absurd numbers
inward_of site outward Sport from top numbers e = absurd numbers

pub number_paths_done : (s : Scene) (side : Side) (set : List Iv) (path : Path) (from top : ℕ) (paths : List Path) → IsPlanned s → AreNumbers s.site s.outward side from top
    → IsGoodPath s.site s.outward (number_of side) path → AreNumberPaths side set path from (top + 1) paths → ArePaths s side set path (suc (number_of side)) paths
number_paths_done s side set path from top paths planned numbers good h = record {
  same = λ p fine.
      let m = numbers_met s side from top p planned fine numbers in
      let high = m.1 in
      h.same p m.0 ∙ ap (λ b. path_has path p && (b && has set (number_at side p))) (lt-ltb (number_at side p) (top + 1) (omega (arith, high)))
      ∙ ap (λ b. path_has path p && b) (sym (hits_number s.site s.outward side from top set p numbers m.0));
  good = All-weaker (AsksNumber side set path from (top + 1)) (IsGoodPath s.site s.outward (suc (number_of side)))
      (λ x a. let high = a.high in subst (λ y. IsGoodPath s.site s.outward (suc (number_of side)) y) (sym a.is)
      (good_with s.site s.outward side (only a.number) path good (inward_of s.site s.outward side from top numbers)
      (number_printed s.site s.outward side from top a.number path numbers a.low (omega (arith, high))))) paths h.each;
}

-- ---- ranges

abbrev IsRanged : Side → Type 0
IsRanged Entry = ⊥
IsRanged Proto = ⊥
IsRanged Dst = Unit {0}
IsRanged Dport = Unit {0}
IsRanged Src = Unit {0}
IsRanged Sport = Unit {0}

hits_none : (side : Side) (p : Packet) → IsRanged side → hits side [] p ≡ false
hits_none Entry p r = absurd r
hits_none Proto p r = absurd r
hits_none Dst p r = refl
hits_none Src p r = refl
hits_none Dport p r = none (has_ports p.proto)
  where
    none : (b : Bool) → (b && false) ≡ false
    none true = refl
    none false = refl
hits_none Sport p r = none (has_ports p.proto)
  where
    none : (b : Bool) → (b && false) ≡ false
    none true = refl
    none false = refl

divided : (b c d : Bool) → (b && (c || d)) ≡ ((b && (c || false)) || (b && d))
divided true true d = refl
divided true false d = refl
divided false c d = refl

divided_plain : (c d : Bool) → (c || d) ≡ ((c || false) || d)
divided_plain true d = refl
divided_plain false d = refl

hits_more : (side : Side) (x : Iv) (parts : List Iv) (p : Packet) → IsRanged side → hits side (x ∷ parts) p ≡ (hits side (x ∷ []) p || hits side parts p)
hits_more Entry x parts p r = absurd r
hits_more Proto x parts p r = absurd r
hits_more Dst x parts p r = divided_plain (in_part x p.dst) (has parts p.dst)
hits_more Src x parts p r = divided_plain (in_part x p.src) (has parts p.src)
hits_more Dport x parts p r = divided (has_ports p.proto) (in_part x p.dport) (has parts p.dport)
hits_more Sport x parts p r = divided (has_ports p.proto) (in_part x p.sport) (has parts p.sport)

shared_front : (P a b : Bool) → ((P && a) || (P && b)) ≡ (P && (a || b))
shared_front true a b = refl
shared_front false a b = refl

pub ranges_same : (side : Side) (parts : List Iv) (path : Path) (p : Packet) → IsRanged side → part_of side path ≡ None → some_path_has (range_paths side parts path) p ≡ (path_has path p && hits side parts p)
ranges_same side [] path p r free = sym (ap (λ b. path_has path p && b) (hits_none side p r) ∙ none (path_has path p))
  where
    none : (b : Bool) → (b && false) ≡ false
    none true = refl
    none false = refl
ranges_same side (x ∷ parts) path p r free =
    ap (λ b. b || some_path_has (range_paths side parts path) p) (narrowed_has side x path p (λ e. part_free side path p free))
    ∙ ap (λ b. (path_has path p && hits side (x ∷ []) p) || b) (ranges_same side parts path p r free)
    ∙ shared_front (path_has path p) (hits side (x ∷ []) p) (hits side parts p)
    ∙ ap (λ b. path_has path p && b) (sym (hits_more side x parts p r))

in_last : (x : Iv) → x.lo ≤ x.hi → in_part x x.hi ≡ true
in_last x le = and_from (nat_le x.lo x.hi) (nat_le x.hi x.hi) (le-leb x.lo x.hi le) (le-leb x.hi x.hi (omega arith))

pub ranges_good : (site : Site) (outward : Bool) (side : Side) (path : Path) (top from : ℕ) (parts : List Iv) → IsGoodPath site outward (number_of side) path → (side ≡ Entry → outward ≡ false)
    → ((part : Iv) → part.lo ≤ part.hi → part.hi ≤ top → is_printed_test site (protocol_of (with_part side part path)) (test_of side (part ∷ [])) ≡ true)
    → IsRegularFrom from parts → ((v : ℕ) → has parts v ≡ true → v ≤ top) → All (IsGoodPath site outward (suc (number_of side))) (range_paths side parts path)
ranges_good site outward side path top from [] good inward printed regular within = All-nil (IsGoodPath site outward (suc (number_of side)))
ranges_good site outward side path top from (x ∷ parts) good inward printed regular within =
    let low : x.hi ≤ top = within x.hi (ap (λ b. b || has parts x.hi) (in_last x regular.1)) in
    All-cons (IsGoodPath site outward (suc (number_of side))) (with_part side x path) (range_paths side parts path)
    (good_with site outward side x path good inward (printed x regular.1 low))
    (ranges_good site outward side path top (x.hi + 2) parts good inward printed regular.2 (λ v h. within v (or_right (in_part x v) (has parts v) h)))

-- ---- ranges under a protocol

-- the number of a protocol that has ports
abbrev HasPorts : ℕ → Type 0
HasPorts v = (is_port_protocol v ≡ true) × (v ≤ 255)

number_same : (v w : ℕ) → ((nat_le v w && nat_le w v) || false) ≡ nat_eq w v
number_same v w = grind (arith, nat_tests)

same_number : (v w : ℕ) → ((nat_le v w && nat_le w v) || false) ≡ true → v ≡ w
same_number v w e = grind (arith, nat_tests)

-- a path that isn't one of packets of the protocol
pub not_taken : (v : ℕ) (path : Path) (p : Packet) → takes_protocol path v ≡ false → (path_has path p && nat_eq p.proto v) ≡ false
not_taken v path p n = elim (cases_Bool (path_has path p && nat_eq p.proto v)) [
  | inl y ↦ (let parts = and_parts (path_has path p) (nat_eq p.proto v) y in
      absurd (false≢true (sym n ∙ subst (λ w. takes_protocol path w ≡ true) (same p.proto v parts.1) (path_proto path p parts.0))))
  | inr z ↦ z
]
  where
    same : (a b : ℕ) → nat_eq a b ≡ true → a ≡ b
    same a b e = grind (arith, nat_tests)

pub taken_has : (v : ℕ) (path : Path) (p : Packet) → takes_protocol path v ≡ true → path_has (with_part Proto (only v) path) p ≡ (path_has path p && nat_eq p.proto v)
taken_has v path p y = narrowed_has Proto (only v) path p (λ e. subst (λ w. takes_protocol path w ≡ true) (same_number v p.proto e) y) ∙ ap (λ b. path_has path p && b) (number_same v p.proto)

protocol_same : (v : ℕ) (side : Side) (parts : List Iv) (path : Path) (p : Packet) → IsRanged side → part_of side (with_part Proto (only v) path) ≡ None
    → some_path_has (protocol_paths v side parts path) p ≡ ((path_has path p && nat_eq p.proto v) && hits side parts p)
protocol_same v side parts path p r free = elim (cases_Bool (takes_protocol path v)) [
  | inl y ↦ ap (λ l. some_path_has l p) (cond-true (takes_protocol path v) (range_paths side parts (with_part Proto (only v) path)) [] y)
      ∙ ranges_same side parts (with_part Proto (only v) path) p r free ∙ ap (λ b. b && hits side parts p) (taken_has v path p y)
  | inr n ↦ ap (λ l. some_path_has l p) (cond-false (takes_protocol path v) (range_paths side parts (with_part Proto (only v) path)) [] n)
      ∙ sym (ap (λ b. b && hits side parts p) (not_taken v path p n))
]

protocol_good : (site : Site) (outward : Bool) (v : ℕ) (side : Side) (parts : List Iv) (path : Path) → HasPorts v → 2 ≤ number_of side → IsGoodPath site outward (number_of side) path → (side ≡ Entry → outward ≡ false)
    → ((part : Iv) → part.lo ≤ part.hi → part.hi ≤ 65535 → is_printed_test site (protocol_of (with_part side part (with_part Proto (only v) path))) (test_of side (part ∷ [])) ≡ true)
    → IsRegular parts → ((w : ℕ) → has parts w ≡ true → w ≤ 65535) → All (IsGoodPath site outward (suc (number_of side))) (protocol_paths v side parts path)
protocol_good site outward v side parts path port late good inward printed regular within = elim (cases_Bool (takes_protocol path v)) [
  | inl y ↦ subst (λ l. All (IsGoodPath site outward (suc (number_of side))) l) (sym (cond-true (takes_protocol path v) (range_paths side parts (with_part Proto (only v) path)) [] y))
      (ranges_good site outward side (with_part Proto (only v) path) 65535 0 parts (good_under site outward (number_of side) v path late port.0 port.1 good) inward printed regular within)
  | inr n ↦ subst (λ l. All (IsGoodPath site outward (suc (number_of side))) l) (sym (cond-false (takes_protocol path v) (range_paths side parts (with_part Proto (only v) path)) [] n))
      (All-nil (IsGoodPath site outward (suc (number_of side))))
]

both_protocols : (P a b d : Bool) → (((P && a) && ((a || b) && d)) || ((P && b) && ((a || b) && d))) ≡ (P && ((a || b) && d))
both_protocols true true true true = refl
both_protocols true true true false = refl
both_protocols true true false true = refl
both_protocols true true false false = refl
both_protocols true false true d = refl
both_protocols true false false d = refl
both_protocols false a b d = refl

port_paths_by : (s : Scene) (side : Side) (set : List Iv) (path : Path) (paths : List Path) (x : Packet → ℕ) → ((p : Packet) → hits side set p ≡ (has_ports p.proto && has set (x p)))
    → IsRanged side → 2 ≤ number_of side → ((v : ℕ) → part_of side (with_part Proto (only v) path) ≡ None) → IsGoodPath s.site s.outward (number_of side) path → (side ≡ Entry → s.outward ≡ false)
    → ((v : ℕ) (part : Iv) → HasPorts v → part.lo ≤ part.hi → part.hi ≤ 65535 → is_printed_test s.site (protocol_of (with_part side part (with_part Proto (only v) path))) (test_of side (part ∷ [])) ≡ true)
    → IsRegular set → ((w : ℕ) → has set w ≡ true → w ≤ 65535) → paths ≡ protocol_paths 6 side set path ++ protocol_paths 17 side set path → ArePaths s side set path (suc (number_of side)) paths
port_paths_by s side set path paths x hit r late free good inward printed regular within is =
    let six : HasPorts 6 = (refl, lit_le 6 255 refl) in
    let seventeen : HasPorts 17 = (refl, lit_le 17 255 refl) in record {
      same = λ p fine.
          ap (λ l. some_path_has l p) is ∙ list_any-append (λ (y : Path). path_has y p) (protocol_paths 6 side set path) (protocol_paths 17 side set path)
          ∙ ap (λ b. b || some_path_has (protocol_paths 17 side set path) p) (protocol_same 6 side set path p r (free 6) ∙ ap (λ b. (path_has path p && nat_eq p.proto 6) && b) (hit p))
          ∙ ap (λ b. ((path_has path p && nat_eq p.proto 6) && (has_ports p.proto && has set (x p))) || b) (protocol_same 17 side set path p r (free 17) ∙ ap (λ b. (path_has path p && nat_eq p.proto 17) && b) (hit p))
          ∙ both_protocols (path_has path p) (nat_eq p.proto 6) (nat_eq p.proto 17) (has set (x p)) ∙ ap (λ b. path_has path p && b) (sym (hit p));
      good = subst (λ l. All (IsGoodPath s.site s.outward (suc (number_of side))) l) (sym is)
          (All-append (IsGoodPath s.site s.outward (suc (number_of side))) (protocol_paths 6 side set path) (protocol_paths 17 side set path)
          (protocol_good s.site s.outward 6 side set path six late good inward (λ part. printed 6 part six) regular within)
          (protocol_good s.site s.outward 17 side set path seventeen late good inward (λ part. printed 17 part seventeen) regular within));
    }
  where
    lit_le : (a b : ℕ) → nat_le a b ≡ true → a ≤ b
    lit_le a b e = grind (arith, nat_tests)

pub dport_paths_done : (s : Scene) (set : List Iv) (path : Path) (paths : List Path) → IsGoodPath s.site s.outward 3 path → IsRegular set → ((w : ℕ) → has set w ≡ true → w ≤ 65535)
    → paths ≡ protocol_paths 6 Dport set path ++ protocol_paths 17 Dport set path → ArePaths s Dport set path 4 paths
dport_paths_done s set path paths good regular within is =
    port_paths_by s Dport set path paths (λ p. p.dport) (λ p. refl) tt (le 2 3 refl) (λ v. good.free Dport (le 3 3 refl)) good (λ e. absurd (cc))
    (λ v part port low high. and_from (is_port_protocol v) (nat_le part.lo part.hi && nat_le part.hi 65535) port.0 (and_from (nat_le part.lo part.hi) (nat_le part.hi 65535) (le-leb part.lo part.hi low) (le-leb part.hi 65535 high)))
    regular within is
  where
    le : (a b : ℕ) → nat_le a b ≡ true → a ≤ b
    le a b e = grind (arith, nat_tests)

pub sport_paths_done : (s : Scene) (set : List Iv) (path : Path) (paths : List Path) → IsGoodPath s.site s.outward 5 path → IsRegular set → ((w : ℕ) → has set w ≡ true → w ≤ 65535)
    → paths ≡ protocol_paths 6 Sport set path ++ protocol_paths 17 Sport set path → ArePaths s Sport set path 6 paths
sport_paths_done s set path paths good regular within is =
    port_paths_by s Sport set path paths (λ p. p.sport) (λ p. refl) tt (le 2 5 refl) (λ v. good.free Sport (le 5 5 refl)) good (λ e. absurd (cc))
    (λ v part port low high. and_from (is_port_protocol v) (nat_le part.lo part.hi && nat_le part.hi 65535) port.0 (and_from (nat_le part.lo part.hi) (nat_le part.hi 65535) (le-leb part.lo part.hi low) (le-leb part.hi 65535 high)))
    regular within is
  where
    le : (a b : ℕ) → nat_le a b ≡ true → a ≤ b
    le a b e = grind (arith, nat_tests)

address_paths_by : (s : Scene) (side : Side) (set : List Iv) (path : Path) (paths : List Path) → IsRanged side → IsGoodPath s.site s.outward (number_of side) path → (side ≡ Entry → s.outward ≡ false) → part_of side path ≡ None
    → ((part : Iv) → part.lo ≤ part.hi → part.hi ≤ 2 ^ 32 - 1 → is_printed_test s.site (protocol_of (with_part side part path)) (test_of side (part ∷ [])) ≡ true)
    → IsRegular set → ((w : ℕ) → has set w ≡ true → w ≤ 2 ^ 32 - 1) → paths ≡ range_paths side set path → ArePaths s side set path (suc (number_of side)) paths
address_paths_by s side set path paths r good inward free printed regular within is = record {
  same = λ p fine. ap (λ l. some_path_has l p) is ∙ ranges_same side set path p r free;
  good = subst (λ l. All (IsGoodPath s.site s.outward (suc (number_of side))) l) (sym is) (ranges_good s.site s.outward side path (2 ^ 32 - 1) 0 set good inward printed regular within);
}

pub dst_paths_done : (s : Scene) (set : List Iv) (path : Path) (paths : List Path) → IsGoodPath s.site s.outward 2 path → IsRegular set → ((w : ℕ) → has set w ≡ true → w ≤ 2 ^ 32 - 1)
    → paths ≡ range_paths Dst set path → ArePaths s Dst set path 3 paths
dst_paths_done s set path paths good regular within is =
    address_paths_by s Dst set path paths tt good (λ e. absurd (cc)) (good.free Dst (le 2 2 refl))
    (λ part low high. and_from (nat_le part.lo part.hi) (nat_le part.hi (2 ^ 32 - 1)) (le-leb part.lo part.hi low) (le-leb part.hi (2 ^ 32 - 1) high)) regular within is
  where
    le : (a b : ℕ) → nat_le a b ≡ true → a ≤ b
    le a b e = grind (arith, nat_tests)

pub src_paths_done : (s : Scene) (set : List Iv) (path : Path) (paths : List Path) → IsGoodPath s.site s.outward 4 path → IsRegular set → ((w : ℕ) → has set w ≡ true → w ≤ 2 ^ 32 - 1)
    → paths ≡ range_paths Src set path → ArePaths s Src set path 5 paths
src_paths_done s set path paths good regular within is =
    address_paths_by s Src set path paths tt good (λ e. absurd (cc)) (good.free Src (le 4 4 refl))
    (λ part low high. and_from (nat_le part.lo part.hi) (nat_le part.hi (2 ^ 32 - 1)) (le-leb part.lo part.hi low) (le-leb part.hi (2 ^ 32 - 1) high)) regular within is
  where
    le : (a b : ℕ) → nat_le a b ≡ true → a ≤ b
    le a b e = grind (arith, nat_tests)

-- ---- all fields

-- what is made for a field that is asked for by ranges
abbrev pub IsMade : Side → List Iv → Path → List Path → Type 0
IsMade Entry parts path paths = ⊥
IsMade Proto parts path paths = ⊥
IsMade Dst parts path paths = paths ≡ range_paths Dst parts path
IsMade Src parts path paths = paths ≡ range_paths Src parts path
IsMade Dport parts path paths = paths ≡ protocol_paths 6 Dport parts path ++ protocol_paths 17 Dport parts path
IsMade Sport parts path paths = paths ≡ protocol_paths 6 Sport parts path ++ protocol_paths 17 Sport parts path

pub ranges_done : (s : Scene) (side : Side) (set parts : List Iv) (path : Path) (paths : List Path) → IsPlanned s → IsGoodPath s.site s.outward (number_of side) path
    → ((w : ℕ) → has set w ≡ true → w ≤ slice_index s.tops (number_of side)) → parts ≡ set → IsRegular set → IsMade side parts path paths → ArePaths s side set path (suc (number_of side)) paths
ranges_done s Entry set parts path paths planned good within same regular made = absurd made
ranges_done s Proto set parts path paths planned good within same regular made = absurd made
ranges_done s Dst set parts path paths planned good within same regular made =
    dst_paths_done s set path paths good regular (λ w h. subst (λ l. w ≤ slice_index l 2) planned.tops_are (within w h)) (made ∙ ap (λ l. range_paths Dst l path) same)
ranges_done s Src set parts path paths planned good within same regular made =
    src_paths_done s set path paths good regular (λ w h. subst (λ l. w ≤ slice_index l 4) planned.tops_are (within w h)) (made ∙ ap (λ l. range_paths Src l path) same)
ranges_done s Dport set parts path paths planned good within same regular made =
    dport_paths_done s set path paths good regular (λ w h. subst (λ l. w ≤ slice_index l 3) planned.tops_are (within w h))
    (made ∙ ap (λ l. protocol_paths 6 Dport l path ++ protocol_paths 17 Dport l path) same)
ranges_done s Sport set parts path paths planned good within same regular made =
    sport_paths_done s set path paths good regular (λ w h. subst (λ l. w ≤ slice_index l 5) planned.tops_are (within w h))
    (made ∙ ap (λ l. protocol_paths 6 Sport l path ++ protocol_paths 17 Sport l path) same)

pub entry_inward : (outward : Bool) (side : Side) → side ≡ Entry → (outward ≡ true → 1 ≤ number_of side) → outward ≡ false
entry_inward true side e h = absurd (let low : 1 ≤ number_of Entry = subst (λ k. 1 ≤ number_of k) e (h refl) in omega (arith, low))
entry_inward false side e h = refl
