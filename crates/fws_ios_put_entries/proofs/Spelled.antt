-- The conditions of paths.
use Rattle.std.proofs.Common.{◌≡◌, ℕ, ◌+◌, ◌-◌, ◌^◌, ◌%◌, ◌<◌, ◌≤◌, Bool, true, false, ◌&&◌, ◌||◌, not, Option, Some, None, List, [], ◌∷◌, ◌++◌, get_or, refl, sym, ◌∙◌, ap, subst, arith}
use Rattle.std.proofs.lemmas.Bool.{and_from, and_parts, cond-false, eq-eqb, le-leb, leb-true, false≢true}
use Rattle.std.proofs.lemmas.Bool.Decides.{nat_tests}
use Rattle.std.proofs.lemmas.List.Folds.{list_all-append, list_any_at}
use Rattle.std.proofs.lemmas.List.FromFn.{get_or-range_with_len, length-range_with_len}
use Rattle.std.proofs.lemmas.Nat.{pow_pos}
use Rattle.std.specs.List.{list_all, range_with_len}
use Rattle.std.specs.Option.{option_map_or}
use Rattle.std.specs.Prelude.{nat_eq, nat_le, is_some, option_map, IfSome}
use Rattle.fws_num.specs.declared.prefix.Prefix.{Prefix}
use Rattle.fws_iv.specs.declared.iv.Iv.{Iv}
use Rattle.fws_iv.specs.Ivs.{has, in_part}
use Rattle.fws_net.specs.declared.condition.Lit.{Lit}
use Rattle.fws_net.specs.declared.packet.Packet.{Packet}
use Rattle.fws_net.specs.declared.view.View.{View}
use Rattle.fws_net.specs.Conditions.{holds, lit_holds}
use Rattle.fws_net.specs.Faces.{prefix_parts}
use Rattle.fws_net.specs.Fates.{has_ports}
use Rattle.fws_rules.specs.Literals.{one}
use Rattle.fws_print.specs.Sets.{first_number, is_network, is_range}
use Rattle.fws_ios_print.specs.Printable.{ascend, is_block, is_class, is_port_protocol, is_prefix, is_printed_cond, is_printed_entry, is_printed_literal, is_state, place_of, protocol_tested, tested}
use Rattle.fws_ios_put_entries.specs.declared.act.Act.{Act}
use Rattle.fws_ios_put_entries.specs.declared.path.Path.{Path}
use Rattle.fws_ios_put_entries.specs.declared.side.Side.{Side}
use Rattle.fws_ios_put_entries.specs.declared.side.Side.TheVariants.{Proto, Src, Sport, Dst, Dport, Icmp}
use Rattle.fws_ios_put_entries.specs.Entries.{acknowledges, behind_source, cond_of, dport_set, dst_set, flag_lits, lits_of, proto_set, sport_set, src_set, type_set, IsEntryOf}
use Rattle.fws_ios_put_entries.specs.Paths.{net_has, path_has, port_has, proto_has, type_has, IsNetwork, IsPortRange, IsWritable}
use Rattle.fws_ios_put_entries.proofs.Nets.{block_within, has_block}
use Rattle.fws_ios_put_entries.proofs.Pathing.{and_true}

-- ---- what conditions hold of

one_has : (n v : ℕ) → has (one n n) v ≡ nat_eq n v
one_has n v = grind (arith, nat_tests)

or_false : (b : Bool) → (b || false) ≡ b
or_false true = refl
or_false false = refl

number_holds : (v : View) (o : Option ℕ) → list_all (lit_holds v) (lits_of Proto (option_map (λ n. one n n) o)) ≡ proto_has o v.packet
number_holds v None = refl
number_holds v (Some n) = and_true (has (one n n) v.packet.proto) ∙ one_has n v.packet.proto

src_holds : (v : View) (o : Option Prefix) → list_all (lit_holds v) (lits_of Src (option_map prefix_parts o)) ≡ net_has o v.packet.src
src_holds v None = refl
src_holds v (Some net) = and_true (has (prefix_parts net) v.packet.src) ∙ has_block net.len net.addr v.packet.src

dst_holds : (v : View) (o : Option Prefix) → list_all (lit_holds v) (lits_of Dst (option_map prefix_parts o)) ≡ net_has o v.packet.dst
dst_holds v None = refl
dst_holds v (Some net) = and_true (has (prefix_parts net) v.packet.dst) ∙ has_block net.len net.addr v.packet.dst

sport_holds : (v : View) (o : Option Iv) → list_all (lit_holds v) (lits_of Sport (option_map (λ (part : Iv). part ∷ []) o)) ≡ port_has o v.packet v.packet.sport
sport_holds v None = refl
sport_holds v (Some part) = and_true (has_ports v.packet.proto && has (part ∷ []) v.packet.sport) ∙ ap (λ b. has_ports v.packet.proto && b) (or_false (in_part part v.packet.sport))

dport_holds : (v : View) (o : Option Iv) → list_all (lit_holds v) (lits_of Dport (option_map (λ (part : Iv). part ∷ []) o)) ≡ port_has o v.packet v.packet.dport
dport_holds v None = refl
dport_holds v (Some part) = and_true (has_ports v.packet.proto && has (part ∷ []) v.packet.dport) ∙ ap (λ b. has_ports v.packet.proto && b) (or_false (in_part part v.packet.dport))

type_holds : (v : View) (o : Option ℕ) → list_all (lit_holds v) (lits_of Icmp (option_map (λ n. one n n) o)) ≡ type_has o v.packet
type_holds v None = refl
type_holds v (Some n) = and_true (nat_eq v.packet.proto 1 && has (one n n) v.packet.icmp) ∙ ap (λ b. nat_eq v.packet.proto 1 && b) (one_has n v.packet.icmp)

flags_hold : (v : View) (b : Bool) → list_all (lit_holds v) (flag_lits b) ≡ (not b || acknowledges v.packet)
flags_hold v true = and_true (acknowledges v.packet)
flags_hold v false = refl

split_lits : (test : Lit → Bool) (xs rest : List Lit) (a b : Bool) → list_all test xs ≡ a → list_all test rest ≡ b → list_all test (xs ++ rest) ≡ (a && b)
split_lits test xs rest a b x y = list_all-append test xs rest ∙ ap (λ c. c && list_all test rest) x ∙ ap (λ c. a && c) y

regrouped : (a b c d e f g : Bool) → (a && (b && (c && (d && (e && (f && g)))))) ≡ ((((((a && b) && c) && d) && e) && f) && g)
regrouped true true true true true f g = refl
regrouped true true true true false f g = refl
regrouped true true true false e f g = refl
regrouped true true false d e f g = refl
regrouped true false c d e f g = refl
regrouped false b c d e f g = refl

-- seven lists of literals that hold
all_lits : (test : Lit → Bool) (path : Path) (established : Bool) (a b c d e f g : Bool) → list_all test (lits_of Proto (proto_set path)) ≡ a → list_all test (lits_of Src (src_set path)) ≡ b
    → list_all test (lits_of Sport (sport_set path)) ≡ c → list_all test (lits_of Dst (dst_set path)) ≡ d → list_all test (lits_of Dport (dport_set path)) ≡ e
    → list_all test (lits_of Icmp (type_set path)) ≡ f → list_all test (flag_lits established) ≡ g → list_all test (cond_of path established) ≡ ((((((a && b) && c) && d) && e) && f) && g)
all_lits test path established a b c d e f g ha hb hc hd he hf hg =
    let icmp : list_all test (lits_of Icmp (type_set path) ++ flag_lits established) ≡ (f && g) = split_lits test (lits_of Icmp (type_set path)) (flag_lits established) f g hf hg in
    let dport : list_all test (lits_of Dport (dport_set path) ++ (lits_of Icmp (type_set path) ++ flag_lits established)) ≡ (e && (f && g)) =
    split_lits test (lits_of Dport (dport_set path)) (lits_of Icmp (type_set path) ++ flag_lits established) e (f && g) he icmp in
    let dst : list_all test (behind_source path established) ≡ (d && (e && (f && g))) =
    split_lits test (lits_of Dst (dst_set path)) (lits_of Dport (dport_set path) ++ (lits_of Icmp (type_set path) ++ flag_lits established)) d (e && (f && g)) hd dport in
    let sport : list_all test (lits_of Sport (sport_set path) ++ behind_source path established) ≡ (c && (d && (e && (f && g)))) =
    split_lits test (lits_of Sport (sport_set path)) (behind_source path established) c (d && (e && (f && g))) hc dst in
    let src : list_all test (lits_of Src (src_set path) ++ (lits_of Sport (sport_set path) ++ behind_source path established)) ≡ (b && (c && (d && (e && (f && g))))) =
    split_lits test (lits_of Src (src_set path)) (lits_of Sport (sport_set path) ++ behind_source path established) b (c && (d && (e && (f && g)))) hb sport in
    split_lits test (lits_of Proto (proto_set path)) (lits_of Src (src_set path) ++ (lits_of Sport (sport_set path) ++ behind_source path established)) a (b && (c && (d && (e && (f && g))))) ha src
    ∙ regrouped a b c d e f g

cond_holds : (path : Path) (established : Bool) (v : View) → holds (cond_of path established) v ≡ (path_has path v.packet && (not established || acknowledges v.packet))
cond_holds path established v =
    let p : Packet = v.packet in
    all_lits (lit_holds v) path established (proto_has path.proto p) (net_has path.src p.src) (port_has path.sport p p.sport) (net_has path.dst p.dst) (port_has path.dport p p.dport) (type_has path.icmp p)
    (not established || acknowledges p) (number_holds v path.proto) (src_holds v path.src) (sport_holds v path.sport) (dst_holds v path.dst) (dport_holds v path.dport) (type_holds v path.icmp) (flags_hold v established)

-- ---- no literal asks for the class

no_class : (side : Side) (o : Option (List Iv)) → list_all (λ lit. not (is_class lit.test)) (lits_of side o) ≡ true
no_class side None = refl
no_class Proto (Some set) = refl
no_class Src (Some set) = refl
no_class Sport (Some set) = refl
no_class Dst (Some set) = refl
no_class Dport (Some set) = refl
no_class Icmp (Some set) = refl

no_class_flags : (b : Bool) → list_all (λ lit. not (is_class lit.test)) (flag_lits b) ≡ true
no_class_flags true = refl
no_class_flags false = refl

no_state : (xs : List Lit) → list_all (λ lit. not (is_class lit.test)) xs ≡ true → is_state xs ≡ false
no_state [] h = refl
no_state (lit ∷ []) h = none (not lit.not) (is_class lit.test) h
  where
    none : (a b : Bool) → (not b && true) ≡ true → (a && b) ≡ false
    none true true h = absurd (false≢true h)
    none true false h = refl
    none false b h = refl
no_state (lit ∷ other ∷ xs) h = refl

classless : (path : Path) (established : Bool) → is_state (cond_of path established) ≡ false
classless path established = no_state (cond_of path established)
    (all_lits (λ lit. not (is_class lit.test)) path established true true true true true true true (no_class Proto (proto_set path)) (no_class Src (src_set path)) (no_class Sport (sport_set path))
    (no_class Dst (dst_set path)) (no_class Dport (dport_set path)) (no_class Icmp (type_set path)) (no_class_flags established))

-- ---- conditions are printed

abbrev place_at : Side → ℕ
place_at Proto = 0
place_at Src = 1
place_at Sport = 2
place_at Dst = 3
place_at Dport = 4
place_at Icmp = 5

ascend_low : (a b : ℕ) (xs : List Lit) → a ≤ b → ascend b xs ≡ true → ascend a xs ≡ true
ascend_low a b [] le h = refl
ascend_low a b (x ∷ xs) le h =
    let parts = and_parts (nat_le b (place_of x.test)) (ascend (place_of x.test + 1) xs) h in
    let c = leb-true b (place_of x.test) parts.0 in
    and_from (nat_le a (place_of x.test)) (ascend (place_of x.test + 1) xs) (le-leb a (place_of x.test) (omega (arith, c, le))) parts.1

ascend_lits : (side : Side) (o : Option (List Iv)) (rest : List Lit) → ascend (place_at side + 1) rest ≡ true → ascend (place_at side) (lits_of side o ++ rest) ≡ true
ascend_lits side None rest h = ascend_low (place_at side) (place_at side + 1) rest (omega arith) h
ascend_lits Proto (Some r) rest h = h
ascend_lits Src (Some r) rest h = h
ascend_lits Sport (Some r) rest h = h
ascend_lits Dst (Some r) rest h = h
ascend_lits Dport (Some r) rest h = h
ascend_lits Icmp (Some r) rest h = h

ascend_flags : (b : Bool) → ascend 6 (flag_lits b) ≡ true
ascend_flags true = refl
ascend_flags false = refl

ascend_all : (path : Path) (established : Bool) → ascend 0 (cond_of path established) ≡ true
ascend_all path established =
    ascend_lits Proto (proto_set path) (lits_of Src (src_set path) ++ (lits_of Sport (sport_set path) ++ behind_source path established))
    (ascend_lits Src (src_set path) (lits_of Sport (sport_set path) ++ behind_source path established)
    (ascend_lits Sport (sport_set path) (behind_source path established)
    (ascend_lits Dst (dst_set path) (lits_of Dport (dport_set path) ++ (lits_of Icmp (type_set path) ++ flag_lits established))
    (ascend_lits Dport (dport_set path) (lits_of Icmp (type_set path) ++ flag_lits established)
    (ascend_lits Icmp (type_set path) (flag_lits established) (ascend_flags established))))))

skip : (side : Side) (o : Option (List Iv)) (rest : List Lit) → nat_eq (place_at side) 0 ≡ false → tested 0 (lits_of side o ++ rest) ≡ tested 0 rest
skip side None rest ne = refl
skip Proto (Some r) rest ne = absurd (false≢true (sym ne))
skip Src (Some r) rest ne = refl
skip Sport (Some r) rest ne = refl
skip Dst (Some r) rest ne = refl
skip Dport (Some r) rest ne = refl
skip Icmp (Some r) rest ne = refl

-- the protocol that a path asks for
abbrev protocol_of : Path → ℕ
protocol_of path = option_map_or (λ n. n) path.proto 0

protocol_is : (path : Path) (established : Bool) → protocol_tested (cond_of path established) ≡ protocol_of path
protocol_is path established = at path.proto
  where
    behind : List Lit
    behind = lits_of Src (src_set path) ++ (lits_of Sport (sport_set path) ++ behind_source path established)

    last : (b : Bool) → tested 0 (flag_lits b) ≡ []
    last true = refl
    last false = refl

    at : (o : Option ℕ) → first_number (tested 0 (lits_of Proto (option_map (λ n. one n n) o) ++ behind)) ≡ option_map_or (λ n. n) o 0
    at (Some n) = refl
    at None = ap first_number
        (skip Src (src_set path) (lits_of Sport (sport_set path) ++ behind_source path established) refl ∙ skip Sport (sport_set path) (behind_source path established) refl
        ∙ skip Dst (dst_set path) (lits_of Dport (dport_set path) ++ (lits_of Icmp (type_set path) ++ flag_lits established)) refl
        ∙ skip Dport (dport_set path) (lits_of Icmp (type_set path) ++ flag_lits established) refl ∙ skip Icmp (type_set path) (flag_lits established) refl ∙ last established)

number_printed : (n : ℕ) → n ≤ 255 → (nat_eq n n && nat_le n 255) ≡ true
number_printed n le = and_from (nat_eq n n) (nat_le n 255) (eq-eqb n n refl) (le-leb n 255 le)

prefix_is : (iv : Iv) (n : ℕ) → 1 ≤ n → n ≤ 32 → is_network n iv ≡ true → is_prefix iv ≡ true
unfolding is_prefix
prefix_is iv n low high is =
    let lt : n - 1 < 32 = omega (arith, low, high) in
    let at : get_or (range_with_len 1 32) (n - 1) 0 ≡ n = get_or-range_with_len 1 32 (n - 1) 0 lt ∙ omega (arith, low) in
    list_any_at (λ m. is_network m iv) (range_with_len 1 32) (n - 1) 0 (omega (arith, lt, length-range_with_len 1 32)) (subst (λ m. is_network m iv ≡ true) (sym at) is)

-- the addresses of a network are a block
network_printed : (net : Prefix) → IsNetwork net → is_block (prefix_parts net) ≡ true
network_printed net is =
    let size : ℕ = 2 ^ (32 - net.len) in
    let some : 0 < size = pow_pos (32 - net.len) in
    let cleared : net.addr % size ≡ 0 = is.cleared in
    let whole : net.addr - net.addr % size ≡ net.addr = omega (arith, cleared) in
    let within : net.addr - net.addr % size + (size - 1) < 2 ^ 32 = block_within net.addr net.len is.fits in
    subst (λ a. is_block (record { lo = a; hi = a + (size - 1) } ∷ []) ≡ true) (sym whole)
    (and_from (nat_le net.addr (net.addr + (size - 1)) && nat_le (net.addr + (size - 1)) (2 ^ 32 - 1)) (is_prefix (record { lo = net.addr; hi = net.addr + (size - 1) }) && true)
    (and_from (nat_le net.addr (net.addr + (size - 1))) (nat_le (net.addr + (size - 1)) (2 ^ 32 - 1)) (le-leb net.addr (net.addr + (size - 1)) (omega arith)) (le-leb (net.addr + (size - 1)) (2 ^ 32 - 1) (omega (arith, within, whole))))
    (and_from (is_prefix (record { lo = net.addr; hi = net.addr + (size - 1) })) true
    (prefix_is (record { lo = net.addr; hi = net.addr + (size - 1) }) net.len is.low is.high
    (and_from (nat_eq (net.addr % size) 0) (nat_eq (net.addr + (size - 1) + 1) (net.addr + size)) (eq-eqb (net.addr % size) 0 is.cleared) (eq-eqb (net.addr + (size - 1) + 1) (net.addr + size) (omega (arith, some))))) refl))

proto_printed : (protocol : ℕ) (o : Option ℕ) → IfSome o (λ n. n ≤ 255) → list_all (is_printed_literal protocol) (lits_of Proto (option_map (λ n. one n n) o)) ≡ true
proto_printed protocol None h = refl
proto_printed protocol (Some n) h = and_from (nat_eq n n && nat_le n 255) true (number_printed n h) refl

type_printed : (protocol : ℕ) (o : Option ℕ) → IfSome o (λ n. n ≤ 255) → (is_some o ≡ true → nat_eq protocol 1 ≡ true) → list_all (is_printed_literal protocol) (lits_of Icmp (option_map (λ n. one n n) o)) ≡ true
type_printed protocol None h stands = refl
type_printed protocol (Some n) h stands =
    and_from (nat_eq protocol 1 && (nat_eq n n && nat_le n 255)) true (and_from (nat_eq protocol 1) (nat_eq n n && nat_le n 255) (stands refl) (number_printed n h)) refl

src_printed : (protocol : ℕ) (o : Option Prefix) → IfSome o IsNetwork → list_all (is_printed_literal protocol) (lits_of Src (option_map prefix_parts o)) ≡ true
src_printed protocol None h = refl
src_printed protocol (Some net) h = and_from (is_block (prefix_parts net)) true (network_printed net h) refl

dst_printed : (protocol : ℕ) (o : Option Prefix) → IfSome o IsNetwork → list_all (is_printed_literal protocol) (lits_of Dst (option_map prefix_parts o)) ≡ true
dst_printed protocol None h = refl
dst_printed protocol (Some net) h = and_from (is_block (prefix_parts net)) true (network_printed net h) refl

range_printed : (part : Iv) → IsPortRange part → is_range 65535 (part ∷ []) ≡ true
range_printed part h = and_from (nat_le part.lo part.hi) (nat_le part.hi 65535) (le-leb part.lo part.hi h.order) (le-leb part.hi 65535 h.fits)

sport_printed : (protocol : ℕ) (o : Option Iv) → IfSome o IsPortRange → (is_some o ≡ true → is_port_protocol protocol ≡ true)
    → list_all (is_printed_literal protocol) (lits_of Sport (option_map (λ (part : Iv). part ∷ []) o)) ≡ true
sport_printed protocol None h stands = refl
sport_printed protocol (Some part) h stands =
    and_from (is_port_protocol protocol && is_range 65535 (part ∷ [])) true (and_from (is_port_protocol protocol) (is_range 65535 (part ∷ [])) (stands refl) (range_printed part h)) refl

dport_printed : (protocol : ℕ) (o : Option Iv) → IfSome o IsPortRange → (is_some o ≡ true → is_port_protocol protocol ≡ true)
    → list_all (is_printed_literal protocol) (lits_of Dport (option_map (λ (part : Iv). part ∷ []) o)) ≡ true
dport_printed protocol None h stands = refl
dport_printed protocol (Some part) h stands =
    and_from (is_port_protocol protocol && is_range 65535 (part ∷ [])) true (and_from (is_port_protocol protocol) (is_range 65535 (part ∷ [])) (stands refl) (range_printed part h)) refl

flags_printed : (protocol : ℕ) (b : Bool) → (b ≡ true → nat_eq protocol 6 ≡ true) → list_all (is_printed_literal protocol) (flag_lits b) ≡ true
flags_printed protocol true stands = and_from (nat_eq protocol 6 && true) true (and_from (nat_eq protocol 6) true (stands refl) refl) refl
flags_printed protocol false stands = refl

-- the protocol that is asked for is one
asked_one : (o : Option ℕ) (n : ℕ) → o ≡ Some n → nat_eq (option_map_or (λ m. m) o 0) n ≡ true
asked_one o n e = subst (λ o. nat_eq (option_map_or (λ m. m) o 0) n ≡ true) (sym e) (eq-eqb n n refl)

asked_ports : (o : Option ℕ) → option_map_or has_ports o false ≡ true → is_port_protocol (option_map_or (λ m. m) o 0) ≡ true
asked_ports None h = absurd (false≢true h)
asked_ports (Some n) h = h

cond_printed : (path : Path) (established : Bool) → IsWritable path → (established ≡ true → path.proto ≡ Some 6) → is_printed_cond (cond_of path established) ≡ true
cond_printed path established w tcp =
    let literals : Bool = list_all (is_printed_literal (protocol_tested (cond_of path established))) (cond_of path established) in
    let n : ℕ = protocol_of path in
    and_from (ascend 0 (cond_of path established)) literals (ascend_all path established)
    (subst (λ k. list_all (is_printed_literal k) (cond_of path established) ≡ true) (sym (protocol_is path established))
    (all_lits (is_printed_literal n) path established true true true true true true true (proto_printed n path.proto w.proto) (src_printed n path.src w.src)
    (sport_printed n path.sport w.sport (λ h. asked_ports path.proto (w.source_port h))) (dst_printed n path.dst w.dst)
    (dport_printed n path.dport w.dport (λ h. asked_ports path.proto (w.destination_port h))) (type_printed n path.icmp w.icmp (λ h. asked_one path.proto 1 (w.typed h)))
    (flags_printed n established (λ h. asked_one path.proto 6 (tcp h)))))

-- ---- entries

pub entry_done : (act : Act) (path : Path) (conds : List Lit) → IsWritable path → (act.established ≡ true → path.proto ≡ Some 6) → (act.reflect ≡ true → act.permit ≡ true)
    → conds ≡ cond_of path act.established → IsEntryOf act path (record { permit = act.permit; cond = conds; reflect = act.reflect })
entry_done act path conds w tcp keeps is = record {
  permit = refl;
  reflect = refl;
  printed = printed;
  classless = plain;
  holds = λ v. ap (λ l. holds l v) is ∙ cond_holds path act.established v;
}
  where
    plain : is_state conds ≡ false
    plain = ap is_state is ∙ classless path act.established

    kept : (a b : Bool) → (a ≡ true → b ≡ true) → (not a || b) ≡ true
    kept true b f = f refl
    kept false b f = refl

    printed : is_printed_entry (record { permit = act.permit; cond = conds; reflect = act.reflect }) ≡ true
    printed = cond-false (is_state conds) (act.permit && not act.reflect) ((not act.reflect || act.permit) && is_printed_cond conds) plain
        ∙ and_from (not act.reflect || act.permit) (is_printed_cond conds) (kept act.reflect act.permit keeps) (ap is_printed_cond is ∙ cond_printed path act.established w tcp)
