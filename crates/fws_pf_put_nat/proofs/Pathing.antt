-- What paths ask of packets, and that their conditions are printed.
use Rattle.std.proofs.Common.{◌≡◌, ◌⊎◌, ℕ, suc, ◌+◌, ◌<◌, ◌≤◌, Bool, true, false, ◌&&◌, not, Option, Some, None, List, [], ◌∷◌, ◌++◌, inl, inr, refl, sym, ◌∙◌, ap, subst, arith}
use Rattle.std.proofs.lemmas.Bool.{and_from, and_parts, cond-true, cond-false, false≢true, le-leb, leb-true, lt-ltb}
use Rattle.std.proofs.lemmas.Bool.Decides.{nat_tests}
use Rattle.std.proofs.lemmas.List.Folds.{list_all-append}
use Rattle.std.proofs.lemmas.Option.{none-some}
use Rattle.std.specs.List.{list_all}
use Rattle.std.specs.Option.{option_map_or}
use Rattle.std.specs.Prelude.{◌^◌, nat_eq, nat_le, nat_lt, IfSome}
use Rattle.fws_iv.specs.declared.iv.Iv.{Iv}
use Rattle.fws_net.specs.declared.condition.Lit.{Lit}
use Rattle.fws_net.specs.declared.outcome.End.{End}
use Rattle.fws_net.specs.declared.packet.Packet.{Packet}
use Rattle.fws_net.specs.declared.site.Site.{Site}
use Rattle.fws_net.specs.declared.transit.Transit.{Transit}
use Rattle.fws_net.specs.Conditions.{holds, lit_holds}
use Rattle.fws_pf.specs.Drawn.{is_port_protocol}
use Rattle.fws_pf.specs.Walk.{view_on}
use Rattle.fws_pf_put_nat.specs.declared.path.Path.{Path}
use Rattle.fws_pf_put_nat.specs.declared.side.Side.{Side}
use Rattle.fws_pf_put_nat.specs.declared.side.Side.TheVariants.{Entry, Proto, Dst, Dport, Src, Sport}
use Rattle.fws_pf_put_nat.specs.Paths.{cond_of, hits, lits_of, nat_of, number_of, part_has, part_of, path_has, protocol_of, test_of, with_part, IsGoodPath}
use Rattle.fws_print.specs.Sets.{first_number, is_range}
use Rattle.fws_pf_print.specs.Printable.{ascend, is_block, is_printed_cond, is_printed_end, is_printed_literal, is_printed_port, is_printed_test, is_printed_translation, is_translation_test, place_of, place_written, protocol_tested, tested}
use Rattle.fws_pf_put_nat.specs.Writings.{written_side, EndFits, EndHasRoom, IsPrintedPath}

-- ---- packets on paths

and_true : (a : Bool) → (a && true) ≡ a
and_true true = refl
and_true false = refl

and_false : (a : Bool) → (a && false) ≡ false
and_false true = refl
and_false false = refl

narrow_by : (x y : Bool) (within : Bool → Bool) → within false ≡ false → (y ≡ true → x ≡ true) → within y ≡ (within x && y)
narrow_by x true within z h = ap within (sym (h refl)) ∙ sym (and_true (within x))
narrow_by x false within z h = z ∙ sym (and_false (within x))

-- a packet is on a narrower path just where it is on the path and hits the range
pub narrowed_has : (side : Side) (part : Iv) (path : Path) (q : Packet) → (hits side (part ∷ []) q ≡ true → part_has side path q ≡ true)
    → path_has (with_part side part path) q ≡ (path_has path q && hits side (part ∷ []) q)
narrowed_has Entry part path q h = narrow_by (part_has Entry path q) (hits Entry (part ∷ []) q) (λ b. ((((b && part_has Proto path q) && part_has Src path q) && part_has Sport path q) && part_has Dst path q) && part_has Dport path q) refl h
narrowed_has Proto part path q h = narrow_by (part_has Proto path q) (hits Proto (part ∷ []) q) (λ b. ((((part_has Entry path q && b) && part_has Src path q) && part_has Sport path q) && part_has Dst path q) && part_has Dport path q) (ap (λ c. ((((c && part_has Src path q) && part_has Sport path q) && part_has Dst path q) && part_has Dport path q)) (and_false (part_has Entry path q))) h
narrowed_has Dst part path q h = narrow_by (part_has Dst path q) (hits Dst (part ∷ []) q) (λ b. ((((part_has Entry path q && part_has Proto path q) && part_has Src path q) && part_has Sport path q) && b) && part_has Dport path q) (ap (λ c. (c && part_has Dport path q)) (and_false (((part_has Entry path q && part_has Proto path q) && part_has Src path q) && part_has Sport path q))) h
narrowed_has Dport part path q h = narrow_by (part_has Dport path q) (hits Dport (part ∷ []) q) (λ b. ((((part_has Entry path q && part_has Proto path q) && part_has Src path q) && part_has Sport path q) && part_has Dst path q) && b) (ap (λ c. c) (and_false ((((part_has Entry path q && part_has Proto path q) && part_has Src path q) && part_has Sport path q) && part_has Dst path q))) h
narrowed_has Src part path q h = narrow_by (part_has Src path q) (hits Src (part ∷ []) q) (λ b. ((((part_has Entry path q && part_has Proto path q) && b) && part_has Sport path q) && part_has Dst path q) && part_has Dport path q) (ap (λ c. (((c && part_has Sport path q) && part_has Dst path q) && part_has Dport path q)) (and_false (part_has Entry path q && part_has Proto path q))) h
narrowed_has Sport part path q h = narrow_by (part_has Sport path q) (hits Sport (part ∷ []) q) (λ b. ((((part_has Entry path q && part_has Proto path q) && part_has Src path q) && b) && part_has Dst path q) && part_has Dport path q) (ap (λ c. ((c && part_has Dst path q) && part_has Dport path q)) (and_false ((part_has Entry path q && part_has Proto path q) && part_has Src path q))) h

-- ---- conditions

lits_hold : (site : Site) (outward : Bool) (m : Transit) (side : Side) (part : Option Iv) → (outward ≡ true → side ≡ Entry → part ≡ None)
    → list_all (lit_holds (view_on site outward m)) (lits_of side part) ≡ option_map_or (λ r. hits side (r ∷ []) m.packet) part true
lits_hold site outward m side None h = refl
lits_hold site false m Entry (Some r) h = and_true (hits Entry (r ∷ []) m.packet)
lits_hold site true m Entry (Some r) h = absurd (none-some r (sym (h refl refl)))
lits_hold site outward m Proto (Some r) h = and_true (hits Proto (r ∷ []) m.packet)
lits_hold site outward m Dst (Some r) h = and_true (hits Dst (r ∷ []) m.packet)
lits_hold site outward m Dport (Some r) h = and_true (hits Dport (r ∷ []) m.packet)
lits_hold site outward m Src (Some r) h = and_true (hits Src (r ∷ []) m.packet)
lits_hold site outward m Sport (Some r) h = and_true (hits Sport (r ∷ []) m.packet)

regrouped : (a b c d e f : Bool) → (a && (b && (c && (d && (e && f))))) ≡ (((((a && b) && c) && d) && e) && f)
regrouped true true true true e f = refl
regrouped true true true false e f = refl
regrouped true true false d e f = refl
regrouped true false c d e f = refl
regrouped false b c d e f = refl

split_lits : (test : Lit → Bool) (side : Side) (part : Option Iv) (rest : List Lit) (a b : Bool) → list_all test (lits_of side part) ≡ a → list_all test rest ≡ b → list_all test (lits_of side part ++ rest) ≡ (a && b)
split_lits test side part rest a b x y = list_all-append test (lits_of side part) rest ∙ ap (λ c. c && list_all test rest) x ∙ ap (λ c. a && c) y

pub cond_holds : (site : Site) (outward : Bool) (m : Transit) (path : Path) → (outward ≡ true → path.entry ≡ None) → holds (cond_of path) (view_on site outward m) ≡ path_has path m.packet
cond_holds site outward m path h =
    let test : Lit → Bool = lit_holds (view_on site outward m) in
    let q : Packet = m.packet in
    let other : (side : Side) → (side ≡ Entry → ⊥) → (part : Option Iv) → outward ≡ true → side ≡ Entry → part ≡ None = λ side ne part out e. absurd (ne e) in
    split_lits test Entry path.entry (lits_of Proto path.proto ++ (lits_of Src path.src ++ (lits_of Sport path.sport ++ (lits_of Dst path.dst ++ lits_of Dport path.dport)))) (part_has Entry path q) (part_has Proto path q && (part_has Src path q && (part_has Sport path q && (part_has Dst path q && part_has Dport path q)))) (lits_hold site outward m Entry path.entry (λ out e. h out)) (split_lits test Proto path.proto (lits_of Src path.src ++ (lits_of Sport path.sport ++ (lits_of Dst path.dst ++ lits_of Dport path.dport))) (part_has Proto path q) (part_has Src path q && (part_has Sport path q && (part_has Dst path q && part_has Dport path q))) (lits_hold site outward m Proto path.proto (other Proto (λ e. no_proto e) path.proto)) (split_lits test Src path.src (lits_of Sport path.sport ++ (lits_of Dst path.dst ++ lits_of Dport path.dport)) (part_has Src path q) (part_has Sport path q && (part_has Dst path q && part_has Dport path q)) (lits_hold site outward m Src path.src (other Src (λ e. no_src e) path.src)) (split_lits test Sport path.sport (lits_of Dst path.dst ++ lits_of Dport path.dport) (part_has Sport path q) (part_has Dst path q && part_has Dport path q) (lits_hold site outward m Sport path.sport (other Sport (λ e. no_sport e) path.sport)) (split_lits test Dst path.dst (lits_of Dport path.dport) (part_has Dst path q) (part_has Dport path q) (lits_hold site outward m Dst path.dst (other Dst (λ e. no_dst e) path.dst)) (lits_hold site outward m Dport path.dport (other Dport (λ e. no_dport e) path.dport))))))
    ∙ regrouped (part_has Entry path q) (part_has Proto path q) (part_has Src path q) (part_has Sport path q) (part_has Dst path q) (part_has Dport path q)
  where
    no_proto : Proto ≡ Entry → ⊥
    no_proto e = absurd (cc)

    no_src : Src ≡ Entry → ⊥
    no_src e = absurd (cc)

    no_sport : Sport ≡ Entry → ⊥
    no_sport e = absurd (cc)

    no_dst : Dst ≡ Entry → ⊥
    no_dst e = absurd (cc)

    no_dport : Dport ≡ Entry → ⊥
    no_dport e = absurd (cc)

-- ---- printed conditions

abbrev place_at : Side → ℕ
place_at Entry = 0
place_at Proto = 1
place_at Src = 2
place_at Sport = 3
place_at Dst = 4
place_at Dport = 5

skip : (side : Side) (part : Option Iv) (place : ℕ) (rest : List Lit) → nat_eq (place_at side) place ≡ false → tested place (lits_of side part ++ rest) ≡ tested place rest
skip side None place rest ne = refl
skip Entry (Some r) place rest ne = cond-false (nat_eq 0 place) (r ∷ []) (tested place rest) ne
skip Proto (Some r) place rest ne = cond-false (nat_eq 1 place) (r ∷ []) (tested place rest) ne
skip Src (Some r) place rest ne = cond-false (nat_eq 2 place) (r ∷ []) (tested place rest) ne
skip Sport (Some r) place rest ne = cond-false (nat_eq 3 place) (r ∷ []) (tested place rest) ne
skip Dst (Some r) place rest ne = cond-false (nat_eq 4 place) (r ∷ []) (tested place rest) ne
skip Dport (Some r) place rest ne = cond-false (nat_eq 5 place) (r ∷ []) (tested place rest) ne

protocol_is : (path : Path) → protocol_tested (cond_of path) ≡ protocol_of path
protocol_is path = ap first_number (skip Entry path.entry 1 (lits_of Proto path.proto ++ rest) refl) ∙ at path.proto
  where
    rest : List Lit
    rest = lits_of Src path.src ++ (lits_of Sport path.sport ++ (lits_of Dst path.dst ++ lits_of Dport path.dport))

    last : (d : Option Iv) → tested 1 (lits_of Dport d) ≡ []
    last None = refl
    last (Some r) = refl

    at : (o : Option Iv) → first_number (tested 1 (lits_of Proto o ++ rest)) ≡ option_map_or (λ part. part.lo) o 0
    at (Some r) = refl
    at None = ap first_number (skip Src path.src 1 (lits_of Sport path.sport ++ (lits_of Dst path.dst ++ lits_of Dport path.dport)) refl
        ∙ skip Sport path.sport 1 (lits_of Dst path.dst ++ lits_of Dport path.dport) refl ∙ skip Dst path.dst 1 (lits_of Dport path.dport) refl ∙ last path.dport)

-- the range of the addresses that are written over
written_tested : (outward : Bool) (path : Path) (part : Iv) → part_of (written_side outward) path ≡ Some part → tested (place_written (not outward)) (cond_of path) ≡ part ∷ []
written_tested true path part is =
    skip Entry path.entry 2 (lits_of Proto path.proto ++ (lits_of Src path.src ++ (lits_of Sport path.sport ++ (lits_of Dst path.dst ++ lits_of Dport path.dport)))) refl
    ∙ skip Proto path.proto 2 (lits_of Src path.src ++ (lits_of Sport path.sport ++ (lits_of Dst path.dst ++ lits_of Dport path.dport))) refl
    ∙ ap (λ o. tested 2 (lits_of Src o ++ (lits_of Sport path.sport ++ (lits_of Dst path.dst ++ lits_of Dport path.dport)))) is
written_tested false path part is =
    skip Entry path.entry 4 (lits_of Proto path.proto ++ (lits_of Src path.src ++ (lits_of Sport path.sport ++ (lits_of Dst path.dst ++ lits_of Dport path.dport)))) refl
    ∙ skip Proto path.proto 4 (lits_of Src path.src ++ (lits_of Sport path.sport ++ (lits_of Dst path.dst ++ lits_of Dport path.dport))) refl
    ∙ skip Src path.src 4 (lits_of Sport path.sport ++ (lits_of Dst path.dst ++ lits_of Dport path.dport)) refl
    ∙ skip Sport path.sport 4 (lits_of Dst path.dst ++ lits_of Dport path.dport) refl
    ∙ ap (λ o. tested 4 (lits_of Dst o ++ lits_of Dport path.dport)) is

ascend_low : (a b : ℕ) (xs : List Lit) → a ≤ b → ascend b xs ≡ true → ascend a xs ≡ true
ascend_low a b [] le h = refl
ascend_low a b (x ∷ xs) le h =
    let parts = and_parts (nat_le b (place_of x.test)) (ascend (place_of x.test + 1) xs) h in
    let c = leb-true b (place_of x.test) parts.0 in
    and_from (nat_le a (place_of x.test)) (ascend (place_of x.test + 1) xs) (le-leb a (place_of x.test) (omega (arith, c, le))) parts.1

ascend_lits : (side : Side) (part : Option Iv) (rest : List Lit) → ascend (place_at side + 1) rest ≡ true → ascend (place_at side) (lits_of side part ++ rest) ≡ true
ascend_lits side None rest h = ascend_low (place_at side) (place_at side + 1) rest (omega arith) h
ascend_lits Entry (Some r) rest h = h
ascend_lits Proto (Some r) rest h = h
ascend_lits Src (Some r) rest h = h
ascend_lits Sport (Some r) rest h = h
ascend_lits Dst (Some r) rest h = h
ascend_lits Dport (Some r) rest h = h

ascend_all : (path : Path) → ascend 0 (cond_of path) ≡ true
ascend_all path =
    ascend_lits Entry path.entry (lits_of Proto path.proto ++ (lits_of Src path.src ++ (lits_of Sport path.sport ++ (lits_of Dst path.dst ++ lits_of Dport path.dport))))
    (ascend_lits Proto path.proto (lits_of Src path.src ++ (lits_of Sport path.sport ++ (lits_of Dst path.dst ++ lits_of Dport path.dport)))
    (ascend_lits Src path.src (lits_of Sport path.sport ++ (lits_of Dst path.dst ++ lits_of Dport path.dport))
    (ascend_lits Sport path.sport (lits_of Dst path.dst ++ lits_of Dport path.dport)
    (ascend_lits Dst path.dst (lits_of Dport path.dport) (last path.dport)))))
  where
    last : (d : Option Iv) → ascend 5 (lits_of Dport d) ≡ true
    last None = refl
    last (Some r) = refl

all_lits : (test : Lit → Bool) → (path : Path) → ((side : Side) → list_all test (lits_of side (part_of side path)) ≡ true) → list_all test (cond_of path) ≡ true
all_lits test path h =
    split_lits test Entry path.entry (lits_of Proto path.proto ++ (lits_of Src path.src ++ (lits_of Sport path.sport ++ (lits_of Dst path.dst ++ lits_of Dport path.dport)))) true true (h Entry) (split_lits test Proto path.proto (lits_of Src path.src ++ (lits_of Sport path.sport ++ (lits_of Dst path.dst ++ lits_of Dport path.dport))) true true (h Proto) (split_lits test Src path.src (lits_of Sport path.sport ++ (lits_of Dst path.dst ++ lits_of Dport path.dport)) true true (h Src) (split_lits test Sport path.sport (lits_of Dst path.dst ++ lits_of Dport path.dport) true true (h Sport) (split_lits test Dst path.dst (lits_of Dport path.dport) true true (h Dst) (h Dport)))))

lits_printed : (site : Site) (protocol : ℕ) (side : Side) (part : Option Iv) → option_map_or (λ r. is_printed_test site protocol (test_of side (r ∷ []))) part true ≡ true
    → list_all (is_printed_literal site protocol) (lits_of side part) ≡ true
lits_printed site protocol side None h = refl
lits_printed site protocol side (Some r) h = and_from (is_printed_test site protocol (test_of side (r ∷ []))) true h refl

lits_translated : (side : Side) (part : Option Iv) → list_all (λ lit. is_translation_test lit.test) (lits_of side part) ≡ true
lits_translated side None = refl
lits_translated Entry (Some r) = refl
lits_translated Proto (Some r) = refl
lits_translated Src (Some r) = refl
lits_translated Sport (Some r) = refl
lits_translated Dst (Some r) = refl
lits_translated Dport (Some r) = refl

cond_printed : (site : Site) (path : Path) → IsPrintedPath site path → is_printed_cond site (cond_of path) ≡ true
cond_printed site path h =
    and_from (ascend 0 (cond_of path)) (list_all (is_printed_literal site (protocol_tested (cond_of path))) (cond_of path)) (ascend_all path)
    (ap (λ k. list_all (is_printed_literal site k) (cond_of path)) (protocol_is path) ∙ all_lits (is_printed_literal site (protocol_of path)) path (λ side. lits_printed site (protocol_of path) side (part_of side path) (h side)))

four : (a b c : Bool) → a ≡ true → b ≡ true → c ≡ true → (true && a && b && c) ≡ true
four true true true x y z = refl
four false b c x y z = absurd (false≢true x)
four true false c x y z = absurd (false≢true y)
four true true false x y z = absurd (false≢true z)

nat_printed : (site : Site) (redirects : Bool) (path : Path) (to : Option End) (tag : ℕ) → IsPrintedPath site path → option_map_or (is_printed_end redirects (cond_of path)) to true ≡ true
    → is_printed_translation site redirects (nat_of path to tag) ≡ true
nat_printed site redirects path to tag h e =
    four (is_printed_cond site (cond_of path)) (list_all (λ lit. is_translation_test lit.test) (cond_of path)) (option_map_or (is_printed_end redirects (cond_of path)) to true)
    (cond_printed site path h) (all_lits (λ lit. is_translation_test lit.test) path (λ side. lits_translated side (part_of side path))) e

pub root_printed : (site : Site) (redirects : Bool) (path : Path) (tag : ℕ) → IsPrintedPath site path → is_printed_translation site redirects (nat_of path None tag) ≡ true
root_printed site redirects path tag h = nat_printed site redirects path None tag h refl

port_printed : (outward : Bool) (path : Path) (port : Option ℕ) → IfSome port (λ n. n ≤ 65535) → ((n : ℕ) → port ≡ Some n → (outward ≡ false) × (is_port_protocol (protocol_of path) ≡ true))
    → is_printed_port (not outward) (cond_of path) port ≡ true
port_printed outward path None low h = refl
port_printed outward path (Some n) low h =
    let r = h n refl in
    and_from (not outward && nat_le n 65535) (is_port_protocol (protocol_tested (cond_of path)))
    (and_from (not outward) (nat_le n 65535) (ap not r.0) (le-leb n 65535 (some n low))) (ap is_port_protocol (protocol_is path) ∙ r.1)
  where
    some : (n : ℕ) → IfSome (Some n) (λ k. k ≤ 65535) → n ≤ 65535
    some n h = h

end_printed : (outward : Bool) (path : Path) (e : End) → EndHasRoom e → EndFits outward e path → is_printed_end (not outward) (cond_of path) e ≡ true
end_printed outward path e room (inl fits) =
    and_from (nat_lt e.addr (2 ^ 32)) _ (lt-ltb e.addr (2 ^ 32) room.address)
    (cond-true (nat_eq e.len 32) (is_printed_port (not outward) (cond_of path) e.port) (is_block e.len (tested (place_written (not outward)) (cond_of path))) (same e.len 32 fits.0)
    ∙ port_printed outward path e.port room.low fits.1)
  where
    same : (a b : ℕ) → a ≡ b → nat_eq a b ≡ true
    same a b e = grind (arith, nat_tests)
end_printed outward path e room (inr fits) =
    let low = fits.0 in
    and_from (nat_lt e.addr (2 ^ 32)) _ (lt-ltb e.addr (2 ^ 32) room.address)
    (cond-false (nat_eq e.len 32) (is_printed_port (not outward) (cond_of path) e.port) (is_block e.len (tested (place_written (not outward)) (cond_of path))) (less e.len 32 low)
    ∙ ap (λ l. is_block e.len l) (written_tested outward path fits.1.0 fits.1.1) ∙ fits.1.2)
  where
    less : (a b : ℕ) → a < b → nat_eq a b ≡ false
    less a b e = grind (arith, nat_tests)

pub end_nat_printed : (site : Site) (outward : Bool) (path : Path) (e : End) (tag : ℕ) → IsPrintedPath site path → EndHasRoom e → EndFits outward e path
    → is_printed_translation site (not outward) (nat_of path (Some e) tag) ≡ true
end_nat_printed site outward path e tag h room fits = nat_printed site (not outward) path (Some e) tag h (end_printed outward path e room fits)

-- ---- narrower paths

pub part_same : (side : Side) (part : Iv) (path : Path) → part_of side (with_part side part path) ≡ Some part
part_same Entry part path = refl
part_same Proto part path = refl
part_same Dst part path = refl
part_same Dport part path = refl
part_same Src part path = refl
part_same Sport part path = refl

pub part_other : (a b : Side) (part : Iv) (path : Path) → (number_of a ≡ number_of b → ⊥) → part_of b (with_part a part path) ≡ part_of b path
part_other Entry Entry part path ne = absurd (ne refl)
part_other Entry Proto part path ne = refl
part_other Entry Dst part path ne = refl
part_other Entry Dport part path ne = refl
part_other Entry Src part path ne = refl
part_other Entry Sport part path ne = refl
part_other Proto Entry part path ne = refl
part_other Proto Proto part path ne = absurd (ne refl)
part_other Proto Dst part path ne = refl
part_other Proto Dport part path ne = refl
part_other Proto Src part path ne = refl
part_other Proto Sport part path ne = refl
part_other Dst Entry part path ne = refl
part_other Dst Proto part path ne = refl
part_other Dst Dst part path ne = absurd (ne refl)
part_other Dst Dport part path ne = refl
part_other Dst Src part path ne = refl
part_other Dst Sport part path ne = refl
part_other Dport Entry part path ne = refl
part_other Dport Proto part path ne = refl
part_other Dport Dst part path ne = refl
part_other Dport Dport part path ne = absurd (ne refl)
part_other Dport Src part path ne = refl
part_other Dport Sport part path ne = refl
part_other Src Entry part path ne = refl
part_other Src Proto part path ne = refl
part_other Src Dst part path ne = refl
part_other Src Dport part path ne = refl
part_other Src Src part path ne = absurd (ne refl)
part_other Src Sport part path ne = refl
part_other Sport Entry part path ne = refl
part_other Sport Proto part path ne = refl
part_other Sport Dst part path ne = refl
part_other Sport Dport part path ne = refl
part_other Sport Src part path ne = refl
part_other Sport Sport part path ne = absurd (ne refl)

-- where a protocol is asked for anew, ports are those of a protocol that has them, or aren't asked for
abbrev pub PortsFit : Side → Iv → Path → Type 0
PortsFit Proto part path = (is_port_protocol part.lo ≡ true) ⊎ ((path.sport ≡ None) × (path.dport ≡ None))
PortsFit _ part path = Unit {0}

port_again : (o : Option Iv) (p q : ℕ) → is_port_protocol q ≡ true → option_map_or (λ r. is_port_protocol p && is_range 65535 (r ∷ [])) o true ≡ true
    → option_map_or (λ r. is_port_protocol q && is_range 65535 (r ∷ [])) o true ≡ true
port_again None p q e h = refl
port_again (Some r) p q e h = and_from (is_port_protocol q) (is_range 65535 (r ∷ [])) e (and_parts (is_port_protocol p) (is_range 65535 (r ∷ [])) h).1

none_true : (f : Iv → Bool) (o : Option Iv) → o ≡ None → option_map_or f o true ≡ true
none_true f o e = ap (λ x. option_map_or f x true) e

pub printed_with : (site : Site) (side : Side) (part : Iv) (path : Path) → IsPrintedPath site path → PortsFit side part path
    → is_printed_test site (protocol_of (with_part side part path)) (test_of side (part ∷ [])) ≡ true → IsPrintedPath site (with_part side part path)
printed_with site Entry part path h fit new Entry = new
printed_with site Entry part path h fit new Proto = h Proto
printed_with site Entry part path h fit new Dst = h Dst
printed_with site Entry part path h fit new Dport = h Dport
printed_with site Entry part path h fit new Src = h Src
printed_with site Entry part path h fit new Sport = h Sport
printed_with site Proto part path h fit new Entry = h Entry
printed_with site Proto part path h fit new Proto = new
printed_with site Proto part path h fit new Dst = h Dst
printed_with site Proto part path h (inl p) new Dport = port_again path.dport (protocol_of path) part.lo p (h Dport)
printed_with site Proto part path h (inr p) new Dport = none_true (λ r. is_port_protocol part.lo && is_range 65535 (r ∷ [])) path.dport p.1
printed_with site Proto part path h fit new Src = h Src
printed_with site Proto part path h (inl p) new Sport = port_again path.sport (protocol_of path) part.lo p (h Sport)
printed_with site Proto part path h (inr p) new Sport = none_true (λ r. is_port_protocol part.lo && is_range 65535 (r ∷ [])) path.sport p.0
printed_with site Dst part path h fit new Entry = h Entry
printed_with site Dst part path h fit new Proto = h Proto
printed_with site Dst part path h fit new Dst = new
printed_with site Dst part path h fit new Dport = h Dport
printed_with site Dst part path h fit new Src = h Src
printed_with site Dst part path h fit new Sport = h Sport
printed_with site Dport part path h fit new Entry = h Entry
printed_with site Dport part path h fit new Proto = h Proto
printed_with site Dport part path h fit new Dst = h Dst
printed_with site Dport part path h fit new Dport = new
printed_with site Dport part path h fit new Src = h Src
printed_with site Dport part path h fit new Sport = h Sport
printed_with site Src part path h fit new Entry = h Entry
printed_with site Src part path h fit new Proto = h Proto
printed_with site Src part path h fit new Dst = h Dst
printed_with site Src part path h fit new Dport = h Dport
printed_with site Src part path h fit new Src = new
printed_with site Src part path h fit new Sport = h Sport
printed_with site Sport part path h fit new Entry = h Entry
printed_with site Sport part path h fit new Proto = h Proto
printed_with site Sport part path h fit new Dst = h Dst
printed_with site Sport part path h fit new Dport = h Dport
printed_with site Sport part path h fit new Src = h Src
printed_with site Sport part path h fit new Sport = new

entry_with : (side : Side) (part : Iv) (path : Path) (outward : Bool) → (side ≡ Entry → outward ≡ false) → (outward ≡ true → path.entry ≡ None) → outward ≡ true → (with_part side part path).entry ≡ None
entry_with Entry part path outward ne h out = absurd (false≢true (sym (ne refl) ∙ out))
entry_with Proto part path outward ne h out = h out
entry_with Dst part path outward ne h out = h out
entry_with Dport part path outward ne h out = h out
entry_with Src part path outward ne h out = h out
entry_with Sport part path outward ne h out = h out

pub good_with : (site : Site) (outward : Bool) (side : Side) (part : Iv) (path : Path) → IsGoodPath site outward (number_of side) path → (side ≡ Entry → outward ≡ false)
    → is_printed_test site (protocol_of (with_part side part path)) (test_of side (part ∷ [])) ≡ true → IsGoodPath site outward (suc (number_of side)) (with_part side part path)
good_with site outward side part path good inward new = record {
  printed = printed_with site side part path good.printed (fit side part path good.free) new;
  free = λ other le. part_other side other part path (λ e. omega (arith, le, e)) ∙ good.free other (omega (arith, le));
  entry = entry_with side part path outward inward good.entry;
}
  where
    fit : (side : Side) (part : Iv) (path : Path) → ((other : Side) → number_of side ≤ number_of other → part_of other path ≡ None) → PortsFit side part path
    fit Proto part path free = inr (free Sport (leb-true 1 5 refl), free Dport (leb-true 1 3 refl))
    fit Entry part path free = tt
    fit Dst part path free = tt
    fit Dport part path free = tt
    fit Src part path free = tt
    fit Sport part path free = tt

-- the same under a protocol that has ports
pub good_under : (site : Site) (outward : Bool) (from v : ℕ) (path : Path) → 2 ≤ from → is_port_protocol v ≡ true → v ≤ 255 → IsGoodPath site outward from path
    → IsGoodPath site outward from (with_part Proto (record { lo = v; hi = v }) path)
good_under site outward from v path later port low good = record {
  printed = printed_with site Proto (record { lo = v; hi = v }) path good.printed (inl port) (number v low);
  free = λ other le. part_other Proto other (record { lo = v; hi = v }) path (λ e. omega (arith, le, e, later)) ∙ good.free other le;
  entry = good.entry;
}
  where
    number : (v : ℕ) → v ≤ 255 → (nat_eq v v && nat_le v 255) ≡ true
    number v le = grind (arith, nat_tests)

pub printed_under : (site : Site) (v : ℕ) (path : Path) → is_port_protocol v ≡ true → v ≤ 255 → IsPrintedPath site path → IsPrintedPath site (with_part Proto (record { lo = v; hi = v }) path)
printed_under site v path port low h = printed_with site Proto (record { lo = v; hi = v }) path h (inl port) (number v low)
  where
    number : (v : ℕ) → v ≤ 255 → (nat_eq v v && nat_le v 255) ≡ true
    number v le = grind (arith, nat_tests)

-- ---- ranges of printed tests

order_of : (site : Site) (protocol : ℕ) (side : Side) (part : Iv) → is_printed_test site protocol (test_of side (part ∷ [])) ≡ true → part.lo ≤ part.hi
order_of site protocol Entry part h = numbers part.lo part.hi (and_parts (nat_eq part.lo part.hi) _ (and_parts (nat_eq part.lo part.hi && _) _ h).0).0
  where
    numbers : (a b : ℕ) → nat_eq a b ≡ true → a ≤ b
    numbers a b e = grind (arith, nat_tests)
order_of site protocol Proto part h = numbers part.lo part.hi (and_parts (nat_eq part.lo part.hi) _ h).0
  where
    numbers : (a b : ℕ) → nat_eq a b ≡ true → a ≤ b
    numbers a b e = grind (arith, nat_tests)
order_of site protocol Dst part h = leb-true part.lo part.hi (and_parts (nat_le part.lo part.hi) _ h).0
order_of site protocol Src part h = leb-true part.lo part.hi (and_parts (nat_le part.lo part.hi) _ h).0
order_of site protocol Dport part h = leb-true part.lo part.hi (and_parts (nat_le part.lo part.hi) (nat_le part.hi 65535) (and_parts (is_port_protocol protocol) (is_range 65535 (part ∷ [])) h).1).0
order_of site protocol Sport part h = leb-true part.lo part.hi (and_parts (nat_le part.lo part.hi) (nat_le part.hi 65535) (and_parts (is_port_protocol protocol) (is_range 65535 (part ∷ [])) h).1).0

pub ordered : (site : Site) (path : Path) → IsPrintedPath site path → (side : Side) (part : Iv) → part_of side path ≡ Some part → part.lo ≤ part.hi
ordered site path h side part is =
    order_of site (protocol_of path) side part (subst (λ o. option_map_or (λ r. is_printed_test site (protocol_of path) (test_of side (r ∷ []))) o true ≡ true) is (h side))
