-- Paths on which ends are written.
use Rattle.std.proofs.Common.{◌≡◌, ℕ, ◌+◌, ◌-◌, ◌*◌, ◌/◌, ◌^◌, ◌<◌, ◌≤◌, Bool, true, false, ◌&&◌, ◌||◌, Option, Some, None, List, [], ◌∷◌, ◌++◌, inl, inr, refl, sym, ◌∙◌, ap, subst, arith}
use Rattle.std.proofs.lemmas.Bool.{and_from, and_parts, cases_Bool, cond-true, cond-false, eq-eqb, le-leb, leb-true}
use Rattle.std.proofs.lemmas.Bool.Decides.{nat_tests}
use Rattle.std.proofs.lemmas.List.Elements.{All-append, All-cons, All-nil, All-weaker}
use Rattle.std.proofs.lemmas.List.Folds.{list_any-append}
use Rattle.std.proofs.lemmas.Nat.{div-mul-add}
use Rattle.std.proofs.lemmas.Option.{none-some}
use Rattle.std.proofs.Math.Nat.{div-mul-le_self, lt-div-mul-add}
use Rattle.std.specs.Option.{option_map_or}
use Rattle.std.specs.Prelude.{nat_eq, nat_le, nat_lt, All}
use Rattle.fws_iv.specs.declared.iv.Iv.{Iv}
use Rattle.fws_iv.specs.Ivs.{has}
use Rattle.fws_iv.specs.Prefixes.{agree}
use Rattle.fws_net.specs.declared.outcome.End.{End}
use Rattle.fws_net.specs.declared.packet.Packet.{Packet}
use Rattle.fws_net.specs.declared.site.Site.{Site}
use Rattle.fws_pf_put_nat.specs.declared.path.Path.{Path}
use Rattle.fws_pf_put_nat.specs.declared.side.Side.TheVariants.{Proto, Dst, Src}
use Rattle.fws_pf_put_nat.specs.Narrowing.{only, takes_protocol}
use Rattle.fws_pf_put_nat.specs.Paths.{hits, part_has, part_of, path_has, some_path_has, with_part}
use Rattle.fws_pf_put_nat.specs.Writings.{host_paths_of, over, port_paths_of, port_suits, written_part, written_side, AreBlockPaths, AreEndPaths, AsksBlock, EndFits, IsPrintedPath}
use Rattle.fws_pf_put_nat.proofs.Narrowed.{not_taken, path_dst, path_src, taken_has}
use Rattle.fws_pf_put_nat.proofs.Pathing.{narrowed_has, part_same, printed_under, printed_with}

-- ---- blocks

pub agrees_by : (size q from v m : ℕ) → 0 < size → m ≡ q * size → m ≤ from → from ≤ v → v ≤ m + (size - 1) → v / size ≡ q
agrees_by size q from v m some is low order high =
    let whole : v ≡ q * size + (v - m) = omega (arith, is, low, order) in
    let lt : v - m < size = omega (arith, high, some, low, order) in
    ap (λ n. n / size) whole ∙ div-mul-add q size (v - m) lt

pub block_agrees : (size from v : ℕ) → 0 < size → from ≤ v → v ≤ from / size * size + (size - 1) → nat_eq (from / size) (v / size) ≡ true
block_agrees size from v some order high =
    eq-eqb (from / size) (v / size) (sym (agrees_by size (from / size) from v (from / size * size) some refl (div-mul-le_self from size) order high))

pub block_later : (size from : ℕ) → 0 < size → from ≤ from / size * size + (size - 1)
block_later size from some = let lt : from < from / size * size + size = lt-div-mul-add some in omega (arith, lt, some)

hits_written : (outward : Bool) (part : Iv) (p : Packet) → hits (written_side outward) (part ∷ []) p ≡ ((nat_le part.lo (over outward p) && nat_le (over outward p) part.hi) || false)
hits_written true part p = refl
hits_written false part p = refl

joined : (P a e c : Bool) → (a || (e || false)) ≡ c → ((P && a) || ((P && e) || false)) ≡ (P && c)
joined true a e c h = h
joined false a e c h = refl

pub no_blocks : (outward : Bool) (path : Path) (len lo : ℕ) → AreBlockPaths outward path len lo lo []
no_blocks outward path len lo = record {
  each = All-nil (AsksBlock outward path len lo lo);
  same = λ p h. none (path_has path p) (nat_le lo (over outward p)) (nat_lt (over outward p) lo) (λ a b. beyond lo (over outward p) a b);
}
  where
    none : (P a b : Bool) → (a ≡ true → b ≡ true → ⊥) → false ≡ (P && (a && b))
    none true true true h = absurd (h refl refl)
    none true true false h = refl
    none true false b h = refl
    none false a b h = refl

    beyond : (lo a : ℕ) → nat_le lo a ≡ true → nat_lt a lo ≡ true → ⊥
    beyond lo a x y = grind (arith, nat_tests)

asks_later : (outward : Bool) (path : Path) (len lo a b : ℕ) → a ≤ b → (x : Path) → AsksBlock outward path len lo a x → AsksBlock outward path len lo b x
asks_later outward path len lo a b le x h =
    let high = h.high in record { part = h.part; is = h.is; agrees = h.agrees; low = h.low; order = h.order; high = omega (arith, high, le) }

pub block_more : (outward : Bool) (path : Path) (len lo from end : ℕ) (paths new : List Path) → ((p : Packet) → lo ≤ over outward p → over outward p ≤ end → part_has (written_side outward) path p ≡ true)
    → lo ≤ from → from ≤ end → agree len from end ≡ true → new ≡ paths ++ with_part (written_side outward) (record { lo = from; hi = end }) path ∷ []
    → AreBlockPaths outward path len lo from paths → AreBlockPaths outward path len lo (end + 1) new
block_more outward path len lo from end paths new within low order agrees is h =
    let part : Iv = record { lo = from; hi = end } in
    let x : Path = with_part (written_side outward) part path in record {
      each = subst (λ l. All (AsksBlock outward path len lo (end + 1)) l) (sym is)
          (All-append (AsksBlock outward path len lo (end + 1)) paths (x ∷ [])
          (All-weaker (AsksBlock outward path len lo from) (AsksBlock outward path len lo (end + 1)) (asks_later outward path len lo from (end + 1) (omega (arith, order))) paths h.each)
          (All-cons (AsksBlock outward path len lo (end + 1)) x [] (record { part = part; is = refl; agrees = agrees; low = low; order = order; high = omega arith })
          (All-nil (AsksBlock outward path len lo (end + 1)))));
      same = λ p inside.
          let a : ℕ = over outward p in
          ap (λ l. some_path_has l p) is ∙ list_any-append (λ (y : Path). path_has y p) paths (x ∷ [])
          ∙ ap (λ b. b || (path_has x p || false)) (h.same p (λ c d. within p c (omega (arith, d, order))))
          ∙ ap (λ b. (path_has path p && (nat_le lo a && nat_lt a from)) || (b || false))
          (narrowed_has (written_side outward) part path p (λ e. let r = in_range from a end (sym (hits_written outward part p) ∙ e) in within p (omega (arith, low, r)) r.1)
          ∙ ap (λ b. path_has path p && b) (hits_written outward part p))
          ∙ joined (path_has path p) (nat_le lo a && nat_lt a from) ((nat_le from a && nat_le a end) || false) (nat_le lo a && nat_lt a (end + 1)) (ranges lo from end a low order);
    }
  where
    in_range : (from a end : ℕ) → ((nat_le from a && nat_le a end) || false) ≡ true → (from ≤ a) × (a ≤ end)
    in_range from a end e = (first from a end e, second from a end e)
      where
        first : (from a end : ℕ) → ((nat_le from a && nat_le a end) || false) ≡ true → from ≤ a
        first from a end e = grind (arith, nat_tests)

        second : (from a end : ℕ) → ((nat_le from a && nat_le a end) || false) ≡ true → a ≤ end
        second from a end e = grind (arith, nat_tests)

    ranges : (lo from end a : ℕ) → lo ≤ from → from ≤ end → ((nat_le lo a && nat_lt a from) || (((nat_le from a && nat_le a end) || false) || false)) ≡ (nat_le lo a && nat_lt a (end + 1))
    ranges lo from end a low order = grind (arith, nat_tests)

-- ---- the whole range

-- what is written over lies in the range of the path
pub written_within : (outward : Bool) (path : Path) (p : Packet) → (written_part outward path).lo ≤ over outward p → over outward p ≤ (written_part outward path).hi → part_has (written_side outward) path p ≡ true
written_within true path p = by path.src
  where
    by : (o : Option Iv) → (option_map_or (λ part. part) o (record { lo = 0; hi = 2 ^ 32 - 1 })).lo ≤ p.src → p.src ≤ (option_map_or (λ part. part) o (record { lo = 0; hi = 2 ^ 32 - 1 })).hi
        → option_map_or (λ part. hits Src (part ∷ []) p) o true ≡ true
    by None low high = refl
    by (Some part) low high = ap (λ b. b || false) (and_from (nat_le part.lo p.src) (nat_le p.src part.hi) (le-leb part.lo p.src low) (le-leb p.src part.hi high))
written_within false path p = by path.dst
  where
    by : (o : Option Iv) → (option_map_or (λ part. part) o (record { lo = 0; hi = 2 ^ 32 - 1 })).lo ≤ p.dst → p.dst ≤ (option_map_or (λ part. part) o (record { lo = 0; hi = 2 ^ 32 - 1 })).hi
        → option_map_or (λ part. hits Dst (part ∷ []) p) o true ≡ true
    by None low high = refl
    by (Some part) low high = ap (λ b. b || false) (and_from (nat_le part.lo p.dst) (nat_le p.dst part.hi) (le-leb part.lo p.dst low) (le-leb p.dst part.hi high))

in_both : (a lo hi : ℕ) → lo ≤ a → a ≤ hi → (nat_le lo a && nat_lt a (hi + 1)) ≡ true
in_both a lo hi x y = grind (arith, nat_tests)

-- and a packet on the path has it there
has_written : (o : Option Iv) (a : ℕ) → a < 2 ^ 32 → option_map_or (λ part. has (part ∷ []) a) o true ≡ true
    → (nat_le (option_map_or (λ part. part) o (record { lo = 0; hi = 2 ^ 32 - 1 })).lo a && nat_lt a ((option_map_or (λ part. part) o (record { lo = 0; hi = 2 ^ 32 - 1 })).hi + 1)) ≡ true
has_written None a lt h = in_both a 0 (2 ^ 32 - 1) (omega arith) (below a lt)
  where
    below : (a : ℕ) → a < 2 ^ 32 → a ≤ 2 ^ 32 - 1
    below a lt = omega (arith, lt)
has_written (Some part) a lt h = inside part.lo part.hi a h
  where
    inside : (lo hi a : ℕ) → ((nat_le lo a && nat_le a hi) || false) ≡ true → (nat_le lo a && nat_lt a (hi + 1)) ≡ true
    inside lo hi a h = grind (arith, nat_tests)

written_has : (outward : Bool) (path : Path) (p : Packet) → over outward p < 2 ^ 32 → path_has path p ≡ true
    → (nat_le (written_part outward path).lo (over outward p) && nat_lt (over outward p) ((written_part outward path).hi + 1)) ≡ true
written_has true path p lt h = has_written path.src p.src lt (path_src path p h)
written_has false path p lt h = has_written path.dst p.dst lt (path_dst path p h)

under : (P a : Bool) → (P ≡ true → a ≡ true) → (P && a) ≡ (P && true)
under true a h = h refl
under false a h = refl

block_printed : (site : Site) (outward : Bool) (path : Path) (part : Iv) → IsPrintedPath site path → part.lo ≤ part.hi → part.hi ≤ 2 ^ 32 - 1 → IsPrintedPath site (with_part (written_side outward) part path)
block_printed site true path part h order low =
    printed_with site Src part path h tt (and_from (nat_le part.lo part.hi) (nat_le part.hi (2 ^ 32 - 1)) (le-leb part.lo part.hi order) (le-leb part.hi (2 ^ 32 - 1) low))
block_printed site false path part h order low =
    printed_with site Dst part path h tt (and_from (nat_le part.lo part.hi) (nat_le part.hi (2 ^ 32 - 1)) (le-leb part.lo part.hi order) (le-leb part.hi (2 ^ 32 - 1) low))

entry_kept : (outward : Bool) (part : Iv) (path : Path) → (with_part (written_side outward) part path).entry ≡ path.entry
entry_kept true part path = refl
entry_kept false part path = refl

pub block_end_paths : (site : Site) (outward : Bool) (e : End) (path : Path) (paths : List Path) → IsPrintedPath site path → e.len < 32 → (written_part outward path).hi ≤ 2 ^ 32 - 1
    → AreBlockPaths outward path e.len (written_part outward path).lo ((written_part outward path).hi + 1) paths → AreEndPaths site outward e path paths
block_end_paths site outward e path paths printed short low h =
    let Asks : Path → Type 0 = AsksBlock outward path e.len (written_part outward path).lo ((written_part outward path).hi + 1) in record {
      same = λ p lt.
          h.same p (λ a b. written_within outward path p a (omega (arith, b)))
          ∙ under (path_has path p) _ (written_has outward path p lt)
          ∙ ap (λ o. path_has path p && port_suits outward o p) (sym (e.port_on_whole short));
      printed = All-weaker Asks (IsPrintedPath site)
          (λ x a. let high = a.high in subst (λ y. IsPrintedPath site y) (sym a.is) (block_printed site outward path a.part printed a.order (omega (arith, high, low)))) paths h.each;
      fits = All-weaker Asks (EndFits outward e)
          (λ x a. inr (short, (a.part, ap (λ y. part_of (written_side outward) y) a.is ∙ part_same (written_side outward) a.part path, a.agrees))) paths h.each;
      entry = All-weaker Asks (λ x. x.entry ≡ path.entry) (λ x a. ap (λ (y : Path). y.entry) a.is ∙ entry_kept outward a.part path) paths h.each;
    }

-- ---- whole addresses

or_none : (b : Bool) → (b || false) ≡ b
or_none true = refl
or_none false = refl

and_true : (b : Bool) → b ≡ (b && true)
and_true true = refl
and_true false = refl

pub plain_end_paths : (site : Site) (outward : Bool) (e : End) (path : Path) (paths : List Path) → IsPrintedPath site path → e.len ≡ 32 → e.port ≡ None → paths ≡ path ∷ [] → AreEndPaths site outward e path paths
plain_end_paths site outward e path paths printed whole none is = subst (λ l. AreEndPaths site outward e path l) (sym is) (record {
  same = λ p lt. or_none (path_has path p) ∙ and_true (path_has path p) ∙ ap (λ o. path_has path p && port_suits outward o p) (sym none);
  printed = All-cons (IsPrintedPath site) path [] printed (All-nil (IsPrintedPath site));
  fits = All-cons (EndFits outward e) path [] (inl (whole, λ port h. absurd (none-some port (sym none ∙ h)))) (All-nil (EndFits outward e));
  entry = All-cons (λ (x : Path). x.entry ≡ path.entry) path [] refl (All-nil (λ (x : Path). x.entry ≡ path.entry));
})

pub no_end_paths : (site : Site) (e : End) (path : Path) (paths : List Path) (port : ℕ) → e.port ≡ Some port → paths ≡ [] → AreEndPaths site true e path paths
no_end_paths site e path paths port there is = subst (λ l. AreEndPaths site true e path l) (sym is) (record {
  same = λ p lt. none (path_has path p) ∙ ap (λ o. path_has path p && port_suits true o p) (sym there);
  printed = All-nil (IsPrintedPath site);
  fits = All-nil (EndFits true e);
  entry = All-nil (λ (x : Path). x.entry ≡ path.entry);
})
  where
    none : (b : Bool) → false ≡ (b && false)
    none true = refl
    none false = refl

port_same : (v : ℕ) (path : Path) (p : Packet) → some_path_has (port_paths_of v path) p ≡ (path_has path p && nat_eq p.proto v)
port_same v path p = elim (cases_Bool (takes_protocol path v)) [
  | inl y ↦ ap (λ l. some_path_has l p) (cond-true (takes_protocol path v) (with_part Proto (only v) path ∷ []) [] y) ∙ or_none (path_has (with_part Proto (only v) path) p) ∙ taken_has v path p y
  | inr n ↦ ap (λ l. some_path_has l p) (cond-false (takes_protocol path v) (with_part Proto (only v) path ∷ []) [] n) ∙ sym (not_taken v path p n)
]

port_all : (P : Path → Type 0) (v : ℕ) (path : Path) → P (with_part Proto (only v) path) → All P (port_paths_of v path)
port_all P v path h = elim (cases_Bool (takes_protocol path v)) [
  | inl y ↦ subst (λ l. All P l) (sym (cond-true (takes_protocol path v) (with_part Proto (only v) path ∷ []) [] y)) (All-cons P (with_part Proto (only v) path) [] h (All-nil P))
  | inr n ↦ subst (λ l. All P l) (sym (cond-false (takes_protocol path v) (with_part Proto (only v) path ∷ []) [] n)) (All-nil P)
]

pub port_end_paths : (site : Site) (e : End) (path : Path) (paths : List Path) (port : ℕ) → IsPrintedPath site path → e.len ≡ 32 → e.port ≡ Some port → paths ≡ port_paths_of 6 path ++ port_paths_of 17 path
    → AreEndPaths site false e path paths
port_end_paths site e path paths port printed whole there is = subst (λ l. AreEndPaths site false e path l) (sym is) (record {
  same = λ p lt.
      list_any-append (λ (x : Path). path_has x p) (port_paths_of 6 path) (port_paths_of 17 path)
      ∙ ap (λ b. b || some_path_has (port_paths_of 17 path) p) (port_same 6 path p) ∙ ap (λ b. (path_has path p && nat_eq p.proto 6) || b) (port_same 17 path p)
      ∙ front (path_has path p) (nat_eq p.proto 6) (nat_eq p.proto 17) ∙ ap (λ o. path_has path p && port_suits false o p) (sym there);
  printed = All-append (IsPrintedPath site) (port_paths_of 6 path) (port_paths_of 17 path)
      (port_all (IsPrintedPath site) 6 path (printed_under site 6 path refl (leb-true 6 255 refl) printed))
      (port_all (IsPrintedPath site) 17 path (printed_under site 17 path refl (leb-true 17 255 refl) printed));
  fits = All-append (EndFits false e) (port_paths_of 6 path) (port_paths_of 17 path)
      (port_all (EndFits false e) 6 path (inl (whole, λ n h. (refl, refl)))) (port_all (EndFits false e) 17 path (inl (whole, λ n h. (refl, refl))));
  entry = All-append (λ (x : Path). x.entry ≡ path.entry) (port_paths_of 6 path) (port_paths_of 17 path)
      (port_all (λ (x : Path). x.entry ≡ path.entry) 6 path refl) (port_all (λ (x : Path). x.entry ≡ path.entry) 17 path refl);
})
  where
    front : (P a b : Bool) → ((P && a) || (P && b)) ≡ (P && (true && (a || b)))
    front true a b = refl
    front false a b = refl

pub host_end_paths : (site : Site) (outward : Bool) (e : End) (path : Path) (paths : List Path) → IsPrintedPath site path → e.len ≡ 32 → (port : Option ℕ) → e.port ≡ port → paths ≡ host_paths_of outward path port
    → AreEndPaths site outward e path paths
host_end_paths site outward e path paths printed whole None there is = plain_end_paths site outward e path paths printed whole there is
host_end_paths site true e path paths printed whole (Some port) there is = no_end_paths site e path paths port there is
host_end_paths site false e path paths printed whole (Some port) there is = port_end_paths site e path paths port printed whole there is

-- ---- the range that is written over

pub written_low : (site : Site) (outward : Bool) (path : Path) → IsPrintedPath site path → (written_part outward path).hi ≤ 2 ^ 32 - 1
written_low site true path h = low path.src (h Src)
  where
    low : (o : Option Iv) → option_map_or (λ part. nat_le part.lo part.hi && nat_le part.hi (2 ^ 32 - 1)) o true ≡ true → (option_map_or (λ part. part) o (record { lo = 0; hi = 2 ^ 32 - 1 })).hi ≤ 2 ^ 32 - 1
    low None e = omega arith
    low (Some part) e = leb-true part.hi (2 ^ 32 - 1) (and_parts (nat_le part.lo part.hi) (nat_le part.hi (2 ^ 32 - 1)) e).1
written_low site false path h = low path.dst (h Dst)
  where
    low : (o : Option Iv) → option_map_or (λ part. nat_le part.lo part.hi && nat_le part.hi (2 ^ 32 - 1)) o true ≡ true → (option_map_or (λ part. part) o (record { lo = 0; hi = 2 ^ 32 - 1 })).hi ≤ 2 ^ 32 - 1
    low None e = omega arith
    low (Some part) e = leb-true part.hi (2 ^ 32 - 1) (and_parts (nat_le part.lo part.hi) (nat_le part.hi (2 ^ 32 - 1)) e).1

pub written_order : (site : Site) (outward : Bool) (path : Path) → IsPrintedPath site path → (written_part outward path).lo ≤ (written_part outward path).hi
written_order site true path h = order path.src (h Src)
  where
    order : (o : Option Iv) → option_map_or (λ part. nat_le part.lo part.hi && nat_le part.hi (2 ^ 32 - 1)) o true ≡ true
        → (option_map_or (λ part. part) o (record { lo = 0; hi = 2 ^ 32 - 1 })).lo ≤ (option_map_or (λ part. part) o (record { lo = 0; hi = 2 ^ 32 - 1 })).hi
    order None e = omega arith
    order (Some part) e = leb-true part.lo part.hi (and_parts (nat_le part.lo part.hi) (nat_le part.hi (2 ^ 32 - 1)) e).0
written_order site false path h = order path.dst (h Dst)
  where
    order : (o : Option Iv) → option_map_or (λ part. nat_le part.lo part.hi && nat_le part.hi (2 ^ 32 - 1)) o true ≡ true
        → (option_map_or (λ part. part) o (record { lo = 0; hi = 2 ^ 32 - 1 })).lo ≤ (option_map_or (λ part. part) o (record { lo = 0; hi = 2 ^ 32 - 1 })).hi
    order None e = omega arith
    order (Some part) e = leb-true part.lo part.hi (and_parts (nat_le part.lo part.hi) (nat_le part.hi (2 ^ 32 - 1)) e).0
