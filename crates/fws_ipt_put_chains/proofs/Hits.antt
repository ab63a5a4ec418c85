-- Where the conditions of pieces hold, and that they are printed.
use Rattle.std.proofs.Common.{◌≡◌, ℕ, ◌+◌, ◌-◌, ◌^◌, ◌<◌, ◌≤◌, Bool, true, false, ◌&&◌, ◌||◌, cond, List, [], ◌∷◌, inl, inr, refl, sym, ◌∙◌, ap, arith}
use Rattle.std.proofs.lemmas.Bool.{and_from, and_parts, or_right, cases_Bool, le-leb, lt-ltb}
use Rattle.std.proofs.lemmas.Bool.Decides.{nat_tests}
use Rattle.std.proofs.lemmas.List.Elements.{All-head, All-tail}
use Rattle.std.proofs.lemmas.List.Folds.{list_any-append, list_all-append}
use Rattle.std.proofs.lemmas.List.Sums.{sum_by-cons}
use Rattle.std.proofs.lemmas.Nat.{and_le_r}
use Rattle.std.specs.List.{count_by, list_all, list_any}
use Rattle.std.specs.Prelude.{map, nat_eq, nat_le, nat_lt, All}
use Rattle.fws_iv.specs.declared.cube.Cube.{Cube}
use Rattle.fws_iv.specs.declared.iv.Iv.{Iv}
use Rattle.fws_iv.specs.Cubes.{cube_has, cubes_with, IsCube}
use Rattle.fws_iv.specs.Ivs.{has, in_part, IsRegular, IsRegularFrom}
use Rattle.fws_net.specs.declared.condition.Lit.{Lit}
use Rattle.fws_net.specs.declared.site.Site.{Site}
use Rattle.fws_net.specs.declared.view.View.{View}
use Rattle.fws_net.specs.Conditions.{holds, test_holds}
use Rattle.fws_net.specs.Fates.{has_ports}
use Rattle.fws_ipt_print.specs.Printable.{are_ports}
use Rattle.fws_tree_seen.specs.declared.field.PacketField.TheVariants.{Dst, Dport, Src, Sport, Flags}
use Rattle.fws_tree_seen.specs.declared.field.PacketField.{PacketField}
use Rattle.fws_tree_seen.specs.Fields.{suits}
use Rattle.fws_tree_seen.specs.Shown.{value_of}
use Rattle.fws_ipt_put_chains.specs.declared.coming.Coming.{Coming}
use Rattle.fws_ipt_put_chains.specs.Conds.{range_cond, cube_cond, port_cond, port_conds, set_test, AreValuesBelow, ArePortLists}
use Rattle.fws_ipt_put_chains.specs.Pieces.{is_printed_cond, ArePieces, IsSpelled, MayMeet}
use Rattle.fws_ipt_put_chains.proofs.Intervals.{hi_member}

-- ---- addresses

one_or : (b x y : Bool) → x ≡ y → (((b || false) && true) || x) ≡ (b || y)
one_or true x y e = refl
one_or false x y e = e

dst_hit : (v : View) (s : List Iv) → list_any (λ cond. holds cond v) (map (range_cond Dst) s) ≡ has s v.packet.dst
dst_hit v [] = refl
dst_hit v (x ∷ s) = one_or (in_part x v.packet.dst) (list_any (λ cond. holds cond v) (map (range_cond Dst) s)) (has s v.packet.dst) (dst_hit v s)

src_hit : (v : View) (s : List Iv) → list_any (λ cond. holds cond v) (map (range_cond Src) s) ≡ has s v.packet.src
src_hit v [] = refl
src_hit v (x ∷ s) = one_or (in_part x v.packet.src) (list_any (λ cond. holds cond v) (map (range_cond Src) s)) (has s v.packet.src) (src_hit v s)

-- conditions of ranges are printed where each one is
ranges_printed : (field : PacketField) (site : Site) (shown : Bool) → ((x : Iv) → nat_le x.lo x.hi ≡ true → nat_le x.hi (2 ^ 32 - 1) ≡ true → is_printed_cond site shown (range_cond field x) ≡ true)
    → (from : ℕ) (s : List Iv) → IsRegularFrom from s → ((v : ℕ) → has s v ≡ true → v ≤ 2 ^ 32 - 1) → list_all (is_printed_cond site shown) (map (range_cond field) s) ≡ true
ranges_printed field site shown each from [] h below = refl
ranges_printed field site shown each from (x ∷ s) h below =
    and_from (is_printed_cond site shown (range_cond field x)) (list_all (is_printed_cond site shown) (map (range_cond field) s))
    (each x (le-leb x.lo x.hi h.1) (le-leb x.hi (2 ^ 32 - 1) (below x.hi (hi_member x s h.1))))
    (ranges_printed field site shown each (x.hi + 2) s h.2 (λ v e. below v (or_right (in_part x v) (has s v) e)))

pub dst_pieces : (coming : Coming) (s : List Iv) (conds : List (List Lit)) → IsRegular s → IsSpelled Dst s → conds ≡ map (range_cond Dst) s → ArePieces coming Dst s conds
dst_pieces coming s conds regular spelled is = record {
  hit = λ v meets. ap (λ l. list_any (λ cond. holds cond v) l) is ∙ dst_hit v s;
  printed = λ site shown. ap (λ l. list_all (is_printed_cond site shown) l) is
      ∙ ranges_printed Dst site shown (λ x a b. simp (a, b)) 0 s regular spelled.within;
}

pub src_pieces : (coming : Coming) (s : List Iv) (conds : List (List Lit)) → IsRegular s → IsSpelled Src s → conds ≡ map (range_cond Src) s → ArePieces coming Src s conds
src_pieces coming s conds regular spelled is = record {
  hit = λ v meets. ap (λ l. list_any (λ cond. holds cond v) l) is ∙ src_hit v s;
  printed = λ site shown. ap (λ l. list_all (is_printed_cond site shown) l) is
      ∙ ranges_printed Src site shown (λ x a b. simp (a, b)) 0 s regular spelled.within;
}

-- ---- values

below_all : (b l h : Bool) → (b ≡ true → l ≡ true) → (b && (l && h)) ≡ (b && h)
below_all false l h f = refl
below_all true l h f = ap (λ x. x && h) (f refl)

pub value_pieces : (coming : Coming) (field : PacketField) (s : List Iv) (conds : List (List Lit))
    → ((v : View) → MayMeet coming field v → suits field v.packet.proto ≡ true → value_of field v.packet < 256) → AreValuesBelow field s 256 conds → ArePieces coming field s conds
value_pieces coming field s conds short h = record {
  hit = λ v meets. h.hit v ∙ below_all (suits field v.packet.proto) (nat_lt (value_of field v.packet) 256) (has s (value_of field v.packet)) (λ e. lt-ltb (value_of field v.packet) 256 (short v meets e));
  printed = h.printed;
}

-- ---- flags

only_one : (n x : ℕ) → ((nat_le n x && nat_le x n) || false) ≡ nat_eq x n
only_one n x = grind (arith, nat_tests)

tested_twice : (q p c x y : Bool) → q ≡ p → x ≡ (p && y) → ((q && ((p && c) && true)) || x) ≡ (p && (c || y))
tested_twice true true true x y a b = refl
tested_twice true true false x y a b = b
tested_twice false false c x y a b = b
tested_twice true false c x y a b = absurd (cc)
tested_twice false true c x y a b = absurd (cc)

cubes_hit : (v : View) (cs : List Cube) → list_any (λ cond. holds cond v) (map cube_cond cs) ≡ (nat_eq v.packet.proto 6 && list_any (λ c. cube_has c v.packet.flags) cs)
cubes_hit v [] = none (nat_eq v.packet.proto 6)
  where
    none : (p : Bool) → false ≡ (p && false)
    none true = refl
    none false = refl
cubes_hit v (c ∷ cs) =
    tested_twice ((nat_le 6 v.packet.proto && nat_le v.packet.proto 6) || false) (nat_eq v.packet.proto 6) (cube_has c v.packet.flags)
    (list_any (λ cond. holds cond v) (map cube_cond cs)) (list_any (λ d. cube_has d v.packet.flags) cs) (only_one 6 v.packet.proto) (cubes_hit v cs)

-- what is counted once is there
pub count_any : {X : Type 0} (p : X → Bool) (xs : List X) (b : Bool) → count_by p xs ≡ cond b 1 0 → list_any p xs ≡ b
count_any p [] true e = absurd (omega (arith, e))
count_any p [] false e = refl
count_any p (x ∷ xs) b e =
    let s = sum_by-cons (λ x. cond (p x) 1 0) x xs in
    elim (cases_Bool (p x)) [
      | inl y ↦ (let n : 1 + count_by p xs ≡ cond b 1 0 = ap (λ k. k + count_by p xs) (sym (ap (λ a. cond a 1 0) y)) ∙ sym s ∙ e in
          ap (λ a. a || list_any p xs) y ∙ is_true b (count_by p xs) n)
      | inr z ↦ (let n : 0 + count_by p xs ≡ cond b 1 0 = ap (λ k. k + count_by p xs) (sym (ap (λ a. cond a 1 0) z)) ∙ sym s ∙ e in
          let m : count_by p xs ≡ 0 + count_by p xs = omega arith in
          ap (λ a. a || list_any p xs) z ∙ count_any p xs b (m ∙ n))
    ]
  where
    is_true : (b : Bool) (n : ℕ) → 1 + n ≡ cond b 1 0 → true ≡ b
    is_true true n e = refl
    is_true false n e = absurd (omega (arith, e))

cubes_printed : (site : Site) (shown : Bool) → ((c : Cube) → nat_le c.mask 63 ≡ true → nat_le c.want 63 ≡ true → is_printed_cond site shown (cube_cond c) ≡ true)
    → (cs : List Cube) → All IsCube cs → list_all (is_printed_cond site shown) (map cube_cond cs) ≡ true
cubes_printed site shown each [] h = refl
cubes_printed site shown each (c ∷ cs) h =
    let k = All-head IsCube c cs h in
    let mask = k.below in
    let want = and_le_r c.want c.mask in
    let same = k.within in
    and_from (is_printed_cond site shown (cube_cond c)) (list_all (is_printed_cond site shown) (map cube_cond cs))
    (each c (le-leb c.mask 63 (omega (arith, mask))) (le-leb c.want 63 (omega (arith, mask, want, same)))) (cubes_printed site shown each cs (All-tail IsCube c cs h))

pub flag_pieces : (coming : Coming) (s : List Iv) (cs : List Cube) (conds : List (List Lit)) → ((x : ℕ) → x < 64 → cubes_with x cs ≡ cond (has s x) 1 0) → All IsCube cs → conds ≡ map cube_cond cs
    → ArePieces coming Flags s conds
flag_pieces coming s cs conds once cubes is = record {
  hit = λ v meets.
      let x = v.packet.flags in
      ap (λ l. list_any (λ cond. holds cond v) l) is ∙ cubes_hit v cs
      ∙ under (nat_eq v.packet.proto 6) (list_any (λ c. cube_has c x) cs) (has s x) (λ e. count_any (λ c. cube_has c x) cs (has s x) (once x (let le = meets.below e in omega (arith, le))));
  printed = λ site shown. ap (λ l. list_all (is_printed_cond site shown) l) is ∙ cubes_printed site shown (λ c a b. simp (a, b)) cs cubes;
}
  where
    under : (p a b : Bool) → (p ≡ true → a ≡ b) → (p && a) ≡ (p && b)
    under true a b f = f refl
    under false a b f = refl

-- ---- ports

lists_hit : (field : PacketField) → ((v : View) (s : List Iv) → test_holds v (set_test field s) ≡ (has_ports v.packet.proto && has s (value_of field v.packet)))
    → (proto : ℕ) (v : View) (lists : List (List Iv))
    → list_any (λ cond. holds cond v) (map (port_cond field proto) lists) ≡ (nat_eq v.packet.proto proto && (has_ports v.packet.proto && list_any (λ s. has s (value_of field v.packet)) lists))
lists_hit field tested proto v [] = none (nat_eq v.packet.proto proto) (has_ports v.packet.proto)
  where
    none : (p h : Bool) → false ≡ (p && (h && false))
    none true true = refl
    none true false = refl
    none false h = refl
lists_hit field tested proto v (s ∷ lists) =
    both ((nat_le proto v.packet.proto && nat_le v.packet.proto proto) || false) (nat_eq v.packet.proto proto) (has_ports v.packet.proto) (has s (value_of field v.packet))
    (test_holds v (set_test field s)) (list_any (λ cond. holds cond v) (map (port_cond field proto) lists)) (list_any (λ t. has t (value_of field v.packet)) lists)
    (only_one proto v.packet.proto) (tested v s) (lists_hit field tested proto v lists)
  where
    both : (q p h c t x y : Bool) → q ≡ p → t ≡ (h && c) → x ≡ (p && (h && y)) → ((q && (t && true)) || x) ≡ (p && (h && (c || y)))
    both true false h c t x y a b e = absurd (cc)
    both false true h c t x y a b e = absurd (cc)
    both false false h c t x y a b e = e
    both true true true true true x y a b e = refl
    both true true true true false x y a b e = absurd (cc)
    both true true true false true x y a b e = absurd (cc)
    both true true true false false x y a b e = e
    both true true false c true x y a b e = absurd (cc)
    both true true false c false x y a b e = e

lists_printed : (field : PacketField) (proto : ℕ) (site : Site) (shown : Bool) → ((s : List Iv) → are_ports s ≡ true → is_printed_cond site shown (port_cond field proto s) ≡ true)
    → (lists : List (List Iv)) → list_all are_ports lists ≡ true → list_all (is_printed_cond site shown) (map (port_cond field proto) lists) ≡ true
lists_printed field proto site shown each [] h = refl
lists_printed field proto site shown each (s ∷ lists) h =
    let parts = and_parts (are_ports s) (list_all are_ports lists) h in
    and_from (is_printed_cond site shown (port_cond field proto s)) (list_all (is_printed_cond site shown) (map (port_cond field proto) lists))
    (each s parts.0) (lists_printed field proto site shown each lists parts.1)

if_any : (b : Bool) (p : List Lit → Bool) (xs : List (List Lit)) → list_any p (cond b xs []) ≡ (b && list_any p xs)
if_any true p xs = refl
if_any false p xs = refl

if_all : (b : Bool) (p : List Lit → Bool) (xs : List (List Lit)) → list_all p xs ≡ true → list_all p (cond b xs []) ≡ true
if_all true p xs e = e
if_all false p xs e = refl

either : (a b tcp udp y x : Bool) → cond a tcp (cond b udp true) ≡ true → y ≡ x → ((tcp && (a && ((a || b) && y))) || (udp && (b && ((a || b) && y)))) ≡ ((a || b) && x)
either true true true true true x may e = e
either true true true true false x may e = e
either true true true false true x may e = e
either true true true false false x may e = e
either true true false udp y x may e = absurd (cc)
either true false true true true x may e = e
either true false true true false x may e = e
either true false true false true x may e = e
either true false true false false x may e = e
either true false false udp y x may e = absurd (cc)
either false true true true y x may e = e
either false true false true y x may e = e
either false true tcp false y x may e = absurd (cc)
either false false true true y x may e = refl
either false false true false y x may e = refl
either false false false true y x may e = refl
either false false false false y x may e = refl

port_pieces : (field : PacketField) → ((v : View) (s : List Iv) → test_holds v (set_test field s) ≡ (has_ports v.packet.proto && has s (value_of field v.packet)))
    → ((proto : ℕ) → suits field proto ≡ has_ports proto)
    → ((site : Site) (shown : Bool) (s : List Iv) → are_ports s ≡ true → is_printed_cond site shown (port_cond field 6 s) ≡ true)
    → ((site : Site) (shown : Bool) (s : List Iv) → are_ports s ≡ true → is_printed_cond site shown (port_cond field 17 s) ≡ true)
    → (coming : Coming) (s : List Iv) (lists : List (List Iv)) (conds : List (List Lit)) → ArePortLists s lists → conds ≡ port_conds field coming lists → ArePieces coming field s conds
port_pieces field tested suit tcp-printed udp-printed coming s lists conds h is = record {
  hit = λ v meets.
      let p : List Lit → Bool = λ cond. holds cond v in
      let proto = v.packet.proto in
      let x = value_of field v.packet in
      let a = map (port_cond field 6) lists in
      let b = map (port_cond field 17) lists in
      let any = list_any (λ t. has t x) lists in
      ap (λ l. list_any p l) is
      ∙ list_any-append p (cond coming.tcp a []) (cond coming.udp b [])
      ∙ ap (λ k. k || list_any p (cond coming.udp b [])) (if_any coming.tcp p a ∙ ap (λ k. coming.tcp && k) (lists_hit field tested 6 v lists))
      ∙ ap (λ k. (coming.tcp && (nat_eq proto 6 && (has_ports proto && any))) || k) (if_any coming.udp p b ∙ ap (λ k. coming.udp && k) (lists_hit field tested 17 v lists))
      ∙ either (nat_eq proto 6) (nat_eq proto 17) coming.tcp coming.udp any (has s x) meets.comes (h.same x)
      ∙ ap (λ k. k && has s x) (sym (suit proto));
  printed = λ site shown.
      let p = is_printed_cond site shown in
      let a = map (port_cond field 6) lists in
      let b = map (port_cond field 17) lists in
      ap (λ l. list_all p l) is ∙ list_all-append p (cond coming.tcp a []) (cond coming.udp b [])
      ∙ and_from (list_all p (cond coming.tcp a [])) (list_all p (cond coming.udp b []))
      (if_all coming.tcp p a (lists_printed field 6 site shown (tcp-printed site shown) lists h.short)) (if_all coming.udp p b (lists_printed field 17 site shown (udp-printed site shown) lists h.short));
}

pub dport_pieces : (coming : Coming) (s : List Iv) (lists : List (List Iv)) (conds : List (List Lit)) → ArePortLists s lists → conds ≡ port_conds Dport coming lists → ArePieces coming Dport s conds
dport_pieces = port_pieces Dport (λ v s. refl) (λ proto. refl) (λ site shown s e. simp e) (λ site shown s e. simp e)

pub sport_pieces : (coming : Coming) (s : List Iv) (lists : List (List Iv)) (conds : List (List Lit)) → ArePortLists s lists → conds ≡ port_conds Sport coming lists → ArePieces coming Sport s conds
sport_pieces = port_pieces Sport (λ v s. refl) (λ proto. refl) (λ site shown s e. simp e) (λ site shown s e. simp e)
