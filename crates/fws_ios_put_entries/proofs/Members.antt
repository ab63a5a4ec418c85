-- Paths that ask for the members of a set.
use Rattle.std.proofs.Common.{◌≡◌, ℕ, ◌+◌, ◌^◌, ◌<◌, ◌≤◌, Bool, true, false, ◌&&◌, ◌||◌, Option, Some, None, List, [], ◌∷◌, ◌++◌, get_or, inl, inr, refl, sym, ◌∙◌, ap, subst, arith}
use Rattle.std.proofs.lemmas.Bool.{and_from, cases_Bool, eqb-true, false≢true, le-leb, lt-ltb, or_right}
use Rattle.std.proofs.lemmas.Bool.Decides.{nat_tests}
use Rattle.std.proofs.lemmas.List.Elements.{All-append, All-cons, All-map, All-nil, All-weaker}
use Rattle.std.proofs.lemmas.List.Folds.{list_any-append}
use Rattle.std.proofs.lemmas.Option.{none-some}
use Rattle.std.specs.Option.{option_map_or}
use Rattle.std.specs.Prelude.{nat_eq, nat_le, nat_lt, is_some, map, All, if◌then◌else◌}
use Rattle.fws_num.specs.declared.prefix.Prefix.{Prefix}
use Rattle.fws_iv.specs.declared.iv.Iv.{Iv}
use Rattle.fws_iv.specs.Ivs.{has, in_part, IsRegular, IsRegularFrom}
use Rattle.fws_iv.specs.Prefixes.{prefix_has, IsBlock}
use Rattle.fws_net.specs.declared.packet.Packet.{Packet}
use Rattle.fws_net.specs.Fates.{has_ports}
use Rattle.fws_ios_put_entries.specs.declared.path.Path.{Path}
use Rattle.fws_ios_put_entries.specs.declared.side.Side.{Side}
use Rattle.fws_ios_put_entries.specs.declared.side.Side.TheVariants.{Proto, Src, Sport, Dst, Dport, Icmp}
use Rattle.fws_ios_put_entries.specs.Narrowing.{protocol_paths, takes_protocol, under, with_net, with_number, with_range, AreNarrowed, AreNetPaths, AreNumberPaths, AreTypePaths, AsksMember, AsksNoDetail}
use Rattle.fws_ios_put_entries.specs.Paths.{asks, hits, number_of, path_has, some_path_has, IsNetwork, IsPortRange, IsWritable}
use Rattle.fws_ios_put_entries.proofs.Pathing.{and_false, any_front, everywhere, free_has, none_of, not_taken, on_dport, on_dst, on_icmp, on_proto, on_sport, on_src, paths_have, taken_has}

-- ---- lists

-- what each item has
for_all : {A : Type 0} → (P : A → Type 0) → ((a : A) → P a) → (xs : List A) → All P xs
for_all P f xs k d lt = f (get_or xs k d)

-- a choice of two
chosen : (P : Path → Type 0) (b : Bool) (x y : Path) → (b ≡ true → P x) → (b ≡ false → P y) → P (if b then x else y)
chosen P true x y f g = f refl
chosen P false x y f g = g refl

-- ---- members

-- all members are below the end
members_all : (w : ℕ) (b : Bool) → (b ≡ true → w ≤ 255) → (nat_lt w 256 && b) ≡ b
members_all w true low = let le = low refl in ap (λ c. c && true) (lt-ltb w 256 (omega (arith, le)))
members_all w false low = and_false (nat_lt w 256)

-- ---- what further paths ask

asks_under : (other : Side) (n : ℕ) (path : Path) → asks other path ≡ false → nat_eq (number_of other) 1 ≡ false → asks other (under n path) ≡ false
asks_under Proto n path h ne = absurd (false≢true (sym ne))
asks_under Src n path h ne = h
asks_under Sport n path h ne = h
asks_under Dst n path h ne = h
asks_under Dport n path h ne = h
asks_under Icmp n path h ne = h

asks_type : (other : Side) (n : ℕ) (path : Path) → asks other path ≡ false → nat_eq (number_of other) 7 ≡ false → asks other (with_number Icmp n path) ≡ false
asks_type Proto n path h ne = h
asks_type Src n path h ne = h
asks_type Sport n path h ne = h
asks_type Dst n path h ne = h
asks_type Dport n path h ne = h
asks_type Icmp n path h ne = absurd (false≢true (sym ne))

asks_sport : (other : Side) (range : Iv) (path : Path) → asks other path ≡ false → nat_eq (number_of other) 5 ≡ false → asks other (with_range Sport range path) ≡ false
asks_sport Proto range path h ne = h
asks_sport Src range path h ne = h
asks_sport Sport range path h ne = absurd (false≢true (sym ne))
asks_sport Dst range path h ne = h
asks_sport Dport range path h ne = h
asks_sport Icmp range path h ne = h

asks_dport : (other : Side) (range : Iv) (path : Path) → asks other path ≡ false → nat_eq (number_of other) 3 ≡ false → asks other (with_range Dport range path) ≡ false
asks_dport Proto range path h ne = h
asks_dport Src range path h ne = h
asks_dport Sport range path h ne = h
asks_dport Dst range path h ne = h
asks_dport Dport range path h ne = absurd (false≢true (sym ne))
asks_dport Icmp range path h ne = h

asks_src : (other : Side) (net : Prefix) (path : Path) → asks other path ≡ false → nat_eq (number_of other) 4 ≡ false → asks other (record path { src = Some net }) ≡ false
asks_src Proto net path h ne = h
asks_src Src net path h ne = absurd (false≢true (sym ne))
asks_src Sport net path h ne = h
asks_src Dst net path h ne = h
asks_src Dport net path h ne = h
asks_src Icmp net path h ne = h

asks_dst : (other : Side) (net : Prefix) (path : Path) → asks other path ≡ false → nat_eq (number_of other) 2 ≡ false → asks other (record path { dst = Some net }) ≡ false
asks_dst Proto net path h ne = h
asks_dst Src net path h ne = h
asks_dst Sport net path h ne = h
asks_dst Dst net path h ne = absurd (false≢true (sym ne))
asks_dst Dport net path h ne = h
asks_dst Icmp net path h ne = h

-- ---- protocols

asked_not : {X : Type 0} → (b : Bool) → b ≡ false → b ≡ true → X
asked_not b no_one yes_one = absurd (false≢true (sym no_one ∙ yes_one))

proto_writable : (n : ℕ) (path : Path) → IsWritable path → AsksNoDetail path → n ≤ 255 → IsWritable (with_number Proto n path)
proto_writable n path w detail low = record {
  proto = low;
  src = w.src;
  sport = w.sport;
  dst = w.dst;
  dport = w.dport;
  icmp = w.icmp;
  source_port = λ h. asked_not (is_some path.sport) detail.sport h;
  destination_port = λ h. asked_not (is_some path.dport) detail.dport h;
  typed = λ h. asked_not (is_some path.icmp) detail.icmp h;
}

pub proto_done : (path : Path) (set : List Iv) (paths : List Path) → IsWritable path → asks Proto path ≡ false → AsksNoDetail path → ((v : ℕ) → has set v ≡ true → v ≤ 255)
    → AreNumberPaths Proto set path paths → AreNarrowed path Proto set paths
proto_done path set paths w free detail within h =
    let f : ℕ → Path = λ n. with_number Proto n path in
    let each : (P : Path → Type 0) → ((n : ℕ) → has set n ≡ true → P (f n)) → All P paths =
    λ P g. subst (λ l. All P l) (sym h.are) (All-map P f h.numbers (All-weaker (λ n. has set n ≡ true) (λ n. P (f n)) g h.numbers h.members.each)) in record {
      writable = each IsWritable (λ n it. proto_writable n path w detail (within n it));
      same = λ p fine.
          ap (λ l. some_path_has l p) h.are
          ∙ paths_have f (λ n. nat_eq n p.proto) path p h.numbers (for_all (λ n. path_has (f n) p ≡ (path_has path p && nat_eq n p.proto)) (λ n. on_proto path n p (λ e. free_has path.proto (λ m. nat_eq m p.proto) free)) h.numbers)
          ∙ ap (λ b. path_has path p && b) (h.members.same p.proto ∙ members_all p.proto (has set p.proto) (λ it. within p.proto it));
      free = λ other e ne one. each (λ x. asks other x ≡ false) (λ n it. asks_under other n path e one);
      kept = λ n e. absurd (none-some n (sym (none_of path.proto free) ∙ e));
      told = λ e. each (AsksMember set) (λ n it. record { member = n; asked = refl; has_it = it });
    }

-- ---- addresses

network_of : (net : Prefix) → IsBlock net → nat_eq net.len 0 ≡ false → IsNetwork net
network_of net block some = record { low = low net.len some; high = block.short; fits = block.fits; cleared = block.cleared }
  where
    low : (n : ℕ) → nat_eq n 0 ≡ false → 1 ≤ n
    low n e = grind (arith, nat_tests)

src_writable : (net : Prefix) (path : Path) → IsWritable path → IsBlock net → IsWritable (with_net Src net path)
src_writable net path w block = chosen IsWritable (nat_eq net.len 0) path (record path { src = Some net }) (λ e. w) (λ n. record {
  proto = w.proto;
  src = network_of net block n;
  sport = w.sport;
  dst = w.dst;
  dport = w.dport;
  icmp = w.icmp;
  source_port = w.source_port;
  destination_port = w.destination_port;
  typed = w.typed;
})

dst_writable : (net : Prefix) (path : Path) → IsWritable path → IsBlock net → IsWritable (with_net Dst net path)
dst_writable net path w block = chosen IsWritable (nat_eq net.len 0) path (record path { dst = Some net }) (λ e. w) (λ n. record {
  proto = w.proto;
  src = w.src;
  sport = w.sport;
  dst = network_of net block n;
  dport = w.dport;
  icmp = w.icmp;
  source_port = w.source_port;
  destination_port = w.destination_port;
  typed = w.typed;
})

all_and : (a b : Bool) → b ≡ true → a ≡ (a && b)
all_and true true e = refl
all_and false true e = refl
all_and a false e = absurd (false≢true e)

src_has : (net : Prefix) (path : Path) (p : Packet) → IsBlock net → asks Src path ≡ false → p.src < 2 ^ 32 → path_has (with_net Src net path) p ≡ (path_has path p && prefix_has net p.src)
src_has net path p block free low = chosen (λ x. path_has x p ≡ (path_has path p && prefix_has net p.src)) (nat_eq net.len 0) path (record path { src = Some net })
    (λ e. all_and (path_has path p) (prefix_has net p.src) (everywhere net p.src block e low))
    (λ n. on_src path net p (λ e. free_has path.src (λ part. prefix_has part p.src) free))

dst_has : (net : Prefix) (path : Path) (p : Packet) → IsBlock net → asks Dst path ≡ false → p.dst < 2 ^ 32 → path_has (with_net Dst net path) p ≡ (path_has path p && prefix_has net p.dst)
dst_has net path p block free low = chosen (λ x. path_has x p ≡ (path_has path p && prefix_has net p.dst)) (nat_eq net.len 0) path (record path { dst = Some net })
    (λ e. all_and (path_has path p) (prefix_has net p.dst) (everywhere net p.dst block e low))
    (λ n. on_dst path net p (λ e. free_has path.dst (λ part. prefix_has part p.dst) free))

pub src_done : (path : Path) (set : List Iv) (paths : List Path) → IsWritable path → asks Src path ≡ false → AreNetPaths Src set path paths → AreNarrowed path Src set paths
src_done path set paths w free h =
    let f : Prefix → Path = λ net. with_net Src net path in
    let each : (P : Path → Type 0) → ((net : Prefix) → IsBlock net → P (f net)) → All P paths =
    λ P g. subst (λ l. All P l) (sym h.are) (All-map P f h.nets (All-weaker IsBlock (λ net. P (f net)) g h.nets h.sound)) in record {
      writable = each IsWritable (λ net block. src_writable net path w block);
      same = λ p fine.
          ap (λ l. some_path_has l p) h.are
          ∙ paths_have f (λ net. prefix_has net p.src) path p h.nets (All-weaker IsBlock (λ net. path_has (f net) p ≡ (path_has path p && prefix_has net p.src)) (λ net block. src_has net path p block free fine.src) h.nets h.sound)
          ∙ ap (λ b. path_has path p && b) (h.same p.src);
      free = λ other e ne one. each (λ x. asks other x ≡ false)
          (λ net block. chosen (λ x. asks other x ≡ false) (nat_eq net.len 0) path (record path { src = Some net }) (λ z. e) (λ z. asks_src other net path e ne));
      kept = λ n e. each (λ x. x.proto ≡ Some n) (λ net block. chosen (λ x. x.proto ≡ Some n) (nat_eq net.len 0) path (record path { src = Some net }) (λ z. e) (λ z. e));
      told = λ e. absurd (cc);
    }

pub dst_done : (path : Path) (set : List Iv) (paths : List Path) → IsWritable path → asks Dst path ≡ false → AreNetPaths Dst set path paths → AreNarrowed path Dst set paths
dst_done path set paths w free h =
    let f : Prefix → Path = λ net. with_net Dst net path in
    let each : (P : Path → Type 0) → ((net : Prefix) → IsBlock net → P (f net)) → All P paths =
    λ P g. subst (λ l. All P l) (sym h.are) (All-map P f h.nets (All-weaker IsBlock (λ net. P (f net)) g h.nets h.sound)) in record {
      writable = each IsWritable (λ net block. dst_writable net path w block);
      same = λ p fine.
          ap (λ l. some_path_has l p) h.are
          ∙ paths_have f (λ net. prefix_has net p.dst) path p h.nets (All-weaker IsBlock (λ net. path_has (f net) p ≡ (path_has path p && prefix_has net p.dst)) (λ net block. dst_has net path p block free fine.dst) h.nets h.sound)
          ∙ ap (λ b. path_has path p && b) (h.same p.dst);
      free = λ other e ne one. each (λ x. asks other x ≡ false)
          (λ net block. chosen (λ x. asks other x ≡ false) (nat_eq net.len 0) path (record path { dst = Some net }) (λ z. e) (λ z. asks_dst other net path e ne));
      kept = λ n e. each (λ x. x.proto ≡ Some n) (λ net block. chosen (λ x. x.proto ≡ Some n) (nat_eq net.len 0) path (record path { dst = Some net }) (λ z. e) (λ z. e));
      told = λ e. absurd (cc);
    }

-- ---- ports

in_last : (x : Iv) → x.lo ≤ x.hi → in_part x x.hi ≡ true
in_last x le = and_from (nat_le x.lo x.hi) (nat_le x.hi x.hi) (le-leb x.lo x.hi le) (le-leb x.hi x.hi (omega arith))

-- each range of a set of ports is one
port_ranges : (from : ℕ) (set : List Iv) → IsRegularFrom from set → ((v : ℕ) → has set v ≡ true → v ≤ 65535) → All IsPortRange set
port_ranges from [] regular within = All-nil IsPortRange
port_ranges from (x ∷ set) regular within =
    All-cons IsPortRange x set (record { order = regular.1; fits = within x.hi (ap (λ b. b || has set x.hi) (in_last x regular.1)) })
    (port_ranges (x.hi + 2) set regular.2 (λ v h. within v (or_right (in_part x v) (has set v) h)))

-- a path that takes a protocol and asks for one asks for this one
takes_same : (path : Path) (v n : ℕ) → takes_protocol path v ≡ true → path.proto ≡ Some n → v ≡ n
takes_same path v n takes e =
    let it : nat_eq n v ≡ true = subst (λ o. option_map_or (λ m. nat_eq m v) o true ≡ true) e takes in sym (eqb-true n v it)

under_writable : (v : ℕ) (path : Path) → IsWritable path → takes_protocol path v ≡ true → has_ports v ≡ true → v ≤ 255 → IsWritable (under v path)
under_writable v path w takes ports low = record {
  proto = low;
  src = w.src;
  sport = w.sport;
  dst = w.dst;
  dport = w.dport;
  icmp = w.icmp;
  source_port = λ h. ports;
  destination_port = λ h. ports;
  typed = λ h. absurd (false≢true (subst (λ n. has_ports n ≡ true) (takes_same path v 1 takes (w.typed h)) ports));
}

sport_writable : (range : Iv) (v : ℕ) (path : Path) → IsWritable (under v path) → has_ports v ≡ true → IsPortRange range → IsWritable (with_range Sport range (under v path))
sport_writable range v path w ports fits = record {
  proto = w.proto;
  src = w.src;
  sport = fits;
  dst = w.dst;
  dport = w.dport;
  icmp = w.icmp;
  source_port = λ h. ports;
  destination_port = w.destination_port;
  typed = w.typed;
}

dport_writable : (range : Iv) (v : ℕ) (path : Path) → IsWritable (under v path) → has_ports v ≡ true → IsPortRange range → IsWritable (with_range Dport range (under v path))
dport_writable range v path w ports fits = record {
  proto = w.proto;
  src = w.src;
  sport = w.sport;
  dst = w.dst;
  dport = fits;
  icmp = w.icmp;
  source_port = w.source_port;
  destination_port = λ h. ports;
  typed = w.typed;
}

-- what is known of a field of ports
record IsPortSide (side : Side) (x : Packet → ℕ) (path : Path) : Type 0 where
  hit : (set : List Iv) (p : Packet) → hits side set p ≡ (has_ports p.proto && has set (x p))
  on_it : (v : ℕ) (range : Iv) (p : Packet) → path_has (with_range side range (under v path)) p ≡ (path_has (under v path) p && (has_ports p.proto && in_part range (x p)))
  writable : (v : ℕ) (range : Iv) → IsWritable (under v path) → has_ports v ≡ true → IsPortRange range → IsWritable (with_range side range (under v path))
  free : (other : Side) (v : ℕ) (range : Iv) → asks other path ≡ false → nat_eq (number_of other) (number_of side) ≡ false → nat_eq (number_of other) 1 ≡ false
      → asks other (with_range side range (under v path)) ≡ false
  under_it : (v : ℕ) (range : Iv) → (with_range side range (under v path)).proto ≡ Some v

sport_side : (path : Path) → asks Sport path ≡ false → IsPortSide Sport (λ p. p.sport) path
sport_side path free = record {
  hit = λ set p. refl;
  on_it = λ v range p. on_sport (under v path) range p (λ e. free_has path.sport (λ part. has_ports p.proto && in_part part p.sport) free);
  writable = λ v range w ports fits. sport_writable range v path w ports fits;
  free = λ other v range e ne one. asks_sport other range (under v path) (asks_under other v path e one) ne;
  under_it = λ v range. refl;
}

dport_side : (path : Path) → asks Dport path ≡ false → IsPortSide Dport (λ p. p.dport) path
dport_side path free = record {
  hit = λ set p. refl;
  on_it = λ v range p. on_dport (under v path) range p (λ e. free_has path.dport (λ part. has_ports p.proto && in_part part p.dport) free);
  writable = λ v range w ports fits. dport_writable range v path w ports fits;
  free = λ other v range e ne one. asks_dport other range (under v path) (asks_under other v path e one) ne;
  under_it = λ v range. refl;
}

lists_chosen : (P : List Path → Type 0) (b : Bool) (x y : List Path) → (b ≡ true → P x) → (b ≡ false → P y) → P (if b then x else y)
lists_chosen P true x y f g = f refl
lists_chosen P false x y f g = g refl

protocol_same : (side : Side) (x : Packet → ℕ) (path : Path) → IsPortSide side x path → (v : ℕ) (set : List Iv) (p : Packet)
    → some_path_has (protocol_paths v side set path) p ≡ ((path_has path p && nat_eq v p.proto) && (has_ports p.proto && has set (x p)))
protocol_same side x path s v set p = lists_chosen (λ l. some_path_has l p ≡ ((path_has path p && nat_eq v p.proto) && (has_ports p.proto && has set (x p)))) (takes_protocol path v)
    (map (λ (range : Iv). with_range side range (under v path)) set) []
    (λ y. paths_have (λ (range : Iv). with_range side range (under v path)) (λ range. has_ports p.proto && in_part range (x p)) (under v path) p set
    (for_all (λ (range : Iv). path_has (with_range side range (under v path)) p ≡ (path_has (under v path) p && (has_ports p.proto && in_part range (x p)))) (λ range. s.on_it v range p) set)
    ∙ ap (λ b. path_has (under v path) p && b) (any_front (has_ports p.proto) (λ range. in_part range (x p)) set)
    ∙ ap (λ b. b && (has_ports p.proto && has set (x p))) (taken_has v path p y))
    (λ n. sym (ap (λ b. b && (has_ports p.proto && has set (x p))) (not_taken v path p n)))

protocol_each : (side : Side) (x : Packet → ℕ) (path : Path) → IsPortSide side x path → (v : ℕ) (set : List Iv) (P : Path → Type 0) → All IsPortRange set
    → (takes_protocol path v ≡ true → (range : Iv) → IsPortRange range → P (with_range side range (under v path))) → All P (protocol_paths v side set path)
protocol_each side x path s v set P fits g = lists_chosen (λ l. All P l) (takes_protocol path v) (map (λ (range : Iv). with_range side range (under v path)) set) []
    (λ y. All-map P (λ (range : Iv). with_range side range (under v path)) set (All-weaker IsPortRange (λ (range : Iv). P (with_range side range (under v path))) (g y) set fits))
    (λ n. All-nil P)

both_protocols : (P a b d : Bool) → (((P && a) && ((a || b) && d)) || ((P && b) && ((a || b) && d))) ≡ (P && ((a || b) && d))
both_protocols true true true true = refl
both_protocols true true true false = refl
both_protocols true true false true = refl
both_protocols true true false false = refl
both_protocols true false true d = refl
both_protocols true false false d = refl
both_protocols false a b d = refl

eq_back : (a b : ℕ) → nat_eq a b ≡ nat_eq b a
eq_back a b = grind (arith, nat_tests)

ports_done : (side : Side) (x : Packet → ℕ) (path : Path) → IsPortSide side x path → (set : List Iv) (paths : List Path) → IsWritable path → (side ≡ Proto → ⊥) → IsRegular set
    → ((v : ℕ) → has set v ≡ true → v ≤ 65535) → paths ≡ protocol_paths 6 side set path ++ protocol_paths 17 side set path → AreNarrowed path side set paths
ports_done side x path s set paths w other_side regular within are =
    let fits : All IsPortRange set = port_ranges 0 set regular within in
    let each : (P : Path → Type 0) → ((v : ℕ) → takes_protocol path v ≡ true → has_ports v ≡ true → v ≤ 255 → (range : Iv) → IsPortRange range → P (with_range side range (under v path))) → All P paths =
    λ P g. subst (λ l. All P l) (sym are) (All-append P (protocol_paths 6 side set path) (protocol_paths 17 side set path)
    (protocol_each side x path s 6 set P fits (λ y. g 6 y refl (lit_le 6 255 refl))) (protocol_each side x path s 17 set P fits (λ y. g 17 y refl (lit_le 17 255 refl)))) in record {
      writable = each IsWritable (λ v y ports low range ok. s.writable v range (under_writable v path w y ports low) ports ok);
      same = λ p fine.
          let rest : Bool = has_ports p.proto && has set (x p) in
          ap (λ l. some_path_has l p) are ∙ list_any-append (λ (y : Path). path_has y p) (protocol_paths 6 side set path) (protocol_paths 17 side set path)
          ∙ ap (λ b. b || some_path_has (protocol_paths 17 side set path) p) (protocol_same side x path s 6 set p ∙ ap (λ b. (path_has path p && b) && rest) (eq_back 6 p.proto))
          ∙ ap (λ b. ((path_has path p && nat_eq p.proto 6) && rest) || b) (protocol_same side x path s 17 set p ∙ ap (λ b. (path_has path p && b) && rest) (eq_back 17 p.proto))
          ∙ both_protocols (path_has path p) (nat_eq p.proto 6) (nat_eq p.proto 17) (has set (x p)) ∙ ap (λ b. path_has path p && b) (sym (s.hit set p));
      free = λ other e ne one. each (λ x. asks other x ≡ false) (λ v y ports low range ok. s.free other v range e ne one);
      kept = λ n e. each (λ x. x.proto ≡ Some n) (λ v y ports low range ok. s.under_it v range ∙ ap Some (takes_same path v n y e));
      told = λ e. absurd (other_side e);
    }
  where
    lit_le : (a b : ℕ) → nat_le a b ≡ true → a ≤ b
    lit_le a b e = grind (arith, nat_tests)

pub sport_done : (path : Path) (set : List Iv) (paths : List Path) → IsWritable path → asks Sport path ≡ false → IsRegular set → ((v : ℕ) → has set v ≡ true → v ≤ 65535)
    → paths ≡ protocol_paths 6 Sport set path ++ protocol_paths 17 Sport set path → AreNarrowed path Sport set paths
sport_done path set paths w free regular within are = ports_done Sport (λ p. p.sport) path (sport_side path free) set paths w (λ e. absurd (cc)) regular within are

pub dport_done : (path : Path) (set : List Iv) (paths : List Path) → IsWritable path → asks Dport path ≡ false → IsRegular set → ((v : ℕ) → has set v ≡ true → v ≤ 65535)
    → paths ≡ protocol_paths 6 Dport set path ++ protocol_paths 17 Dport set path → AreNarrowed path Dport set paths
dport_done path set paths w free regular within are = ports_done Dport (λ p. p.dport) path (dport_side path free) set paths w (λ e. absurd (cc)) regular within are

-- ---- types

type_writable : (n : ℕ) (path : Path) → IsWritable path → takes_protocol path 1 ≡ true → n ≤ 255 → IsWritable (with_number Icmp n (under 1 path))
type_writable n path w takes low = record {
  proto = omega arith;
  src = w.src;
  sport = w.sport;
  dst = w.dst;
  dport = w.dport;
  icmp = low;
  source_port = λ h. absurd (without path.proto takes (w.source_port h));
  destination_port = λ h. absurd (without path.proto takes (w.destination_port h));
  typed = λ h. refl;
}
  where
    without : (o : Option ℕ) → option_map_or (λ m. nat_eq m 1) o true ≡ true → option_map_or has_ports o false ≡ true → ⊥
    without None takes ports = false≢true ports
    without (Some m) takes ports = false≢true (subst (λ k. has_ports k ≡ true) (eqb-true m 1 takes) ports)

type_same : (set : List Iv) (path : Path) (paths : List Path) (p : Packet) → asks Icmp path ≡ false → ((v : ℕ) → has set v ≡ true → v ≤ 255) → takes_protocol path 1 ≡ true
    → AreNumberPaths Icmp set (under 1 path) paths → some_path_has paths p ≡ (path_has path p && (nat_eq p.proto 1 && has set p.icmp))
type_same set path paths p free within y h =
    let f : ℕ → Path = λ n. with_number Icmp n (under 1 path) in
    ap (λ l. some_path_has l p) h.are
    ∙ paths_have f (λ n. nat_eq p.proto 1 && nat_eq n p.icmp) (under 1 path) p h.numbers
    (for_all (λ n. path_has (f n) p ≡ (path_has (under 1 path) p && (nat_eq p.proto 1 && nat_eq n p.icmp))) (λ n. on_icmp (under 1 path) n p (λ e. free_has path.icmp (λ m. nat_eq p.proto 1 && nat_eq m p.icmp) free)) h.numbers)
    ∙ ap (λ b. path_has (under 1 path) p && b) (any_front (nat_eq p.proto 1) (λ n. nat_eq n p.icmp) h.numbers)
    ∙ ap (λ b. path_has (under 1 path) p && (nat_eq p.proto 1 && b)) (h.members.same p.icmp ∙ members_all p.icmp (has set p.icmp) (λ it. within p.icmp it))
    ∙ ap (λ b. b && (nat_eq p.proto 1 && has set p.icmp)) (taken_has 1 path p y ∙ ap (λ b. path_has path p && b) (eq_back 1 p.proto))
    ∙ twice (path_has path p) (nat_eq p.proto 1) (has set p.icmp)
  where
    twice : (P a b : Bool) → ((P && a) && (a && b)) ≡ (P && (a && b))
    twice true true b = refl
    twice true false b = refl
    twice false a b = refl

no_types : (set : List Iv) (path : Path) (p : Packet) → takes_protocol path 1 ≡ false → false ≡ (path_has path p && (nat_eq p.proto 1 && has set p.icmp))
no_types set path p n = none (path_has path p) (nat_eq p.proto 1) (has set p.icmp) (ap (λ b. path_has path p && b) (eq_back p.proto 1) ∙ not_taken 1 path p n)
  where
    none : (P a b : Bool) → (P && a) ≡ false → false ≡ (P && (a && b))
    none true true b e = absurd (false≢true (sym e))
    none true false b e = refl
    none false a b e = refl

pub icmp_done : (path : Path) (set : List Iv) (paths : List Path) → IsWritable path → asks Icmp path ≡ false → ((v : ℕ) → has set v ≡ true → v ≤ 255)
    → AreTypePaths set path paths → AreNarrowed path Icmp set paths
icmp_done path set paths w free within h =
    let f : ℕ → Path = λ n. with_number Icmp n (under 1 path) in
    let each : (P : Path → Type 0) → (takes_protocol path 1 ≡ true → (n : ℕ) → has set n ≡ true → P (f n)) → All P paths =
    λ P g. elim (cases_Bool (takes_protocol path 1)) [
      | inl y ↦ (let t = h.typed y in subst (λ l. All P l) (sym t.are) (All-map P f t.numbers (All-weaker (λ n. has set n ≡ true) (λ n. P (f n)) (g y) t.numbers t.members.each)))
      | inr n ↦ subst (λ l. All P l) (sym (h.without n)) (All-nil P)
    ] in record {
      writable = each IsWritable (λ y n it. type_writable n path w y (within n it));
      same = λ p fine. elim (cases_Bool (takes_protocol path 1)) [
        | inl y ↦ type_same set path paths p free within y (h.typed y)
        | inr n ↦ ap (λ l. some_path_has l p) (h.without n) ∙ no_types set path p n
      ];
      free = λ other e ne one. each (λ x. asks other x ≡ false) (λ y n it. asks_type other n (under 1 path) (asks_under other 1 path e one) ne);
      kept = λ n e. each (λ x. x.proto ≡ Some n) (λ y m it. ap Some (takes_same path 1 n y e));
      told = λ e. absurd (cc);
    }
