-- Where conditions hold, and that they are printed with a tag.
use Rattle.std.proofs.Common.{◌≡◌, ℕ, ◌+◌, ◌≤◌, Bool, true, false, ◌&&◌, ◌||◌, not, cond, Option, Some, None, List, [], ◌∷◌, ◌++◌, length, refl, ◌∙◌, ap, subst, arith}
use Rattle.std.proofs.lemmas.Bool.{and_from, and_parts, eqb-true, le-leb, lt-ltb}
use Rattle.std.proofs.lemmas.Bool.Decides.{nat_tests}
use Rattle.std.proofs.lemmas.List.Folds.{list_any-append, list_all-append}
use Rattle.std.specs.List.{list_all, list_any}
use Rattle.std.specs.Prelude.{nat_eq, nat_le, nat_lt}
use Rattle.fws_iv.specs.declared.iv.Iv.{Iv}
use Rattle.fws_iv.specs.Ivs.{has}
use Rattle.fws_net.specs.declared.condition.Lit.{Lit}
use Rattle.fws_net.specs.declared.site.Site.{Site}
use Rattle.fws_net.specs.declared.view.View.{View}
use Rattle.fws_net.specs.Conditions.{holds, is_shown, lit_holds}
use Rattle.fws_tree_seen.specs.declared.field.PacketField.{PacketField}
use Rattle.fws_tree_seen.specs.declared.field.PacketField.TheVariants.{Proto, Dst, Dport, Src, Sport, Flags, Icmp}
use Rattle.fws_tree_seen.specs.Fields.{hits, suits, top_of}
use Rattle.fws_tree_seen.specs.Shown.{value_of}
use Rattle.fws_pf_put_filter.specs.declared.tested.Tested.TheVariants.{Entry, Field}
use Rattle.fws_pf_print.specs.Printable.{ascend, is_printed_literal, place_of, protocol_tested}
use Rattle.fws_pf_put_filter.specs.Conds.{conds_for, conds_under, entry_cond, front_of, is_printed_with, AreConds}
use Rattle.fws_pf_put_filter.specs.Literals.{is_printed_at, tag_lit}
use Rattle.fws_pf_put_filter.specs.Pieces.{ArePieces}

-- ---- where conditions hold

under_hit : (v : View) (protocol : Option ℕ) (lits : List Lit) → list_any (λ c. holds c v) (conds_under protocol lits) ≡ (holds (front_of protocol) v && list_any (lit_holds v) lits)
under_hit v protocol [] = none (holds (front_of protocol) v)
  where
    none : (b : Bool) → false ≡ (b && false)
    none true = refl
    none false = refl
under_hit v protocol (l ∷ lits) =
    both (holds (front_of protocol) v) (lit_holds v l) (list_any (lit_holds v) lits) (holds (front_of protocol ++ l ∷ []) v) (list_any (λ c. holds c v) (conds_under protocol lits))
    (list_all-append (lit_holds v) (front_of protocol) (l ∷ [])) (under_hit v protocol lits)
  where
    both : (b c d t y : Bool) → t ≡ (b && (c && true)) → y ≡ (b && d) → (t || y) ≡ (b && (c || d))
    both true true d t y e f = ap (λ z. z || y) e
    both true false d t y e f = ap (λ z. z || y) e ∙ f
    both false c d t y e f = ap (λ z. z || y) e ∙ f

one_protocol : (n p : ℕ) → (((nat_le n p && nat_le p n) || false) && true) ≡ nat_eq p n
one_protocol n p = grind (arith, nat_tests)

under_one : (v : View) (n : ℕ) (lits : List Lit) → list_any (λ c. holds c v) (conds_under (Some n) lits) ≡ (nat_eq v.packet.proto n && list_any (lit_holds v) lits)
under_one v n lits = under_hit v (Some n) lits ∙ ap (λ b. b && list_any (lit_holds v) lits) (one_protocol n v.packet.proto)

-- a field that one protocol has
of_one : (a h x : Bool) → h ≡ (a && x) → (a && h) ≡ (a && x)
of_one true h x e = e
of_one false h x e = refl

-- a field that two protocols have
of_two : (a b h x : Bool) → h ≡ ((a || b) && x) → ((a && h) || (b && h)) ≡ ((a || b) && x)
of_two true true h x e = same h ∙ e
  where
    same : (h : Bool) → (h || h) ≡ h
    same true = refl
    same false = refl
of_two true false h x e = same h ∙ e
  where
    same : (h : Bool) → (h || false) ≡ h
    same true = refl
    same false = refl
of_two false true h x e = e
of_two false false h x e = refl

conds_hit : (field : PacketField) (set : List Iv) (lits : List Lit) → ArePieces field set lits → (v : View) → (suits field v.packet.proto ≡ true → value_of field v.packet ≤ top_of field)
    → list_any (λ c. holds c v) (conds_for field lits) ≡ hits field set v.packet
conds_hit Proto set lits h v below = under_hit v None lits ∙ h.hit v below
conds_hit Dst set lits h v below = under_hit v None lits ∙ h.hit v below
conds_hit Src set lits h v below = under_hit v None lits ∙ h.hit v below
conds_hit Dport set lits h v below = ports
  where
    ports : list_any (λ c. holds c v) (conds_for Dport lits) ≡ hits Dport set v.packet
    ports = list_any-append (λ c. holds c v) (conds_under (Some 6) lits) (conds_under (Some 17) lits)
        ∙ ap (λ b. b || list_any (λ c. holds c v) (conds_under (Some 17) lits)) (under_one v 6 lits)
        ∙ ap (λ b. (nat_eq v.packet.proto 6 && list_any (lit_holds v) lits) || b) (under_one v 17 lits)
        ∙ of_two (nat_eq v.packet.proto 6) (nat_eq v.packet.proto 17) (list_any (lit_holds v) lits) (has set v.packet.dport) (h.hit v below)
conds_hit Sport set lits h v below = ports
  where
    ports : list_any (λ c. holds c v) (conds_for Sport lits) ≡ hits Sport set v.packet
    ports = list_any-append (λ c. holds c v) (conds_under (Some 6) lits) (conds_under (Some 17) lits)
        ∙ ap (λ b. b || list_any (λ c. holds c v) (conds_under (Some 17) lits)) (under_one v 6 lits)
        ∙ ap (λ b. (nat_eq v.packet.proto 6 && list_any (lit_holds v) lits) || b) (under_one v 17 lits)
        ∙ of_two (nat_eq v.packet.proto 6) (nat_eq v.packet.proto 17) (list_any (lit_holds v) lits) (has set v.packet.sport) (h.hit v below)
conds_hit Flags set lits h v below = under_one v 6 lits ∙ of_one (nat_eq v.packet.proto 6) (list_any (lit_holds v) lits) (has set v.packet.flags) (h.hit v below)
conds_hit Icmp set lits h v below = under_one v 1 lits ∙ of_one (nat_eq v.packet.proto 1) (list_any (lit_holds v) lits) (has set v.packet.icmp) (h.hit v below)

-- ---- that conditions are printed

is_placed : (site : Site) (q place : ℕ) (lit : Lit) → is_printed_at site q place lit ≡ true → (place_of lit.test ≡ place) × (is_printed_literal site q lit ≡ true)
is_placed site q place lit h =
    let parts = and_parts (nat_eq (place_of lit.test) place) (is_printed_literal site q lit) h in (eqb-true (place_of lit.test) place parts.0, parts.1)

-- without a protocol in front
free_printed : (site : Site) (n place : ℕ) → place ≤ 7 → (lits : List Lit) → ((q : ℕ) → list_all (is_printed_at site q place) lits ≡ true) → list_all (is_printed_with site n) (conds_under None lits) ≡ true
free_printed site n place le [] h = refl
free_printed site n place le (l ∷ lits) h =
    let q : ℕ = protocol_tested (l ∷ tag_lit n ∷ []) in
    let parts = and_parts (is_printed_at site q place l) (list_all (is_printed_at site q place) lits) (h q) in
    let at = is_placed site q place l parts.0 in
    let own = at.0 in
    and_from (is_printed_with site n (l ∷ [])) (list_all (is_printed_with site n) (conds_under None lits))
    (and_from (ascend 0 (l ∷ tag_lit n ∷ [])) (list_all (is_printed_literal site q) (l ∷ tag_lit n ∷ []))
    (and_from (nat_le 0 (place_of l.test)) (nat_le (place_of l.test + 1) 8 && true) (le-leb 0 (place_of l.test) (omega arith))
    (and_from (nat_le (place_of l.test + 1) 8) true (le-leb (place_of l.test + 1) 8 (omega (arith, own, le))) refl))
    (and_from (is_printed_literal site q l) true at.1 refl))
    (free_printed site n place le lits (λ q. (and_parts (is_printed_at site q place l) (list_all (is_printed_at site q place) lits) (h q)).1))

-- under a protocol
under_printed : (site : Site) (n place p : ℕ) → 2 ≤ place → place ≤ 7 → (nat_eq p p && nat_le p 255) ≡ true → (lits : List Lit) → list_all (is_printed_at site p place) lits ≡ true
    → list_all (is_printed_with site n) (conds_under (Some p) lits) ≡ true
under_printed site n place p ge le number [] h = refl
under_printed site n place p ge le number (l ∷ lits) h =
    let parts = and_parts (is_printed_at site p place l) (list_all (is_printed_at site p place) lits) h in
    let at = is_placed site p place l parts.0 in
    let own = at.0 in
    and_from (is_printed_with site n (front_of (Some p) ++ l ∷ [])) (list_all (is_printed_with site n) (conds_under (Some p) lits))
    (and_from (nat_le 2 (place_of l.test) && (nat_le (place_of l.test + 1) 8 && true)) ((nat_eq p p && nat_le p 255) && (is_printed_literal site p l && true))
    (and_from (nat_le 2 (place_of l.test)) (nat_le (place_of l.test + 1) 8 && true) (le-leb 2 (place_of l.test) (omega (arith, own, ge)))
    (and_from (nat_le (place_of l.test + 1) 8) true (le-leb (place_of l.test + 1) 8 (omega (arith, own, le))) refl))
    (and_from (nat_eq p p && nat_le p 255) (is_printed_literal site p l && true) number (and_from (is_printed_literal site p l) true at.1 refl)))
    (under_printed site n place p ge le number lits parts.1)

ports_printed : (site : Site) (n place : ℕ) → 2 ≤ place → place ≤ 7 → (lits : List Lit) → list_all (is_printed_at site 6 place) lits ≡ true → list_all (is_printed_at site 17 place) lits ≡ true
    → list_all (is_printed_with site n) (conds_under (Some 6) lits ++ conds_under (Some 17) lits) ≡ true
ports_printed site n place ge le lits h g =
    list_all-append (is_printed_with site n) (conds_under (Some 6) lits) (conds_under (Some 17) lits)
    ∙ and_from (list_all (is_printed_with site n) (conds_under (Some 6) lits)) (list_all (is_printed_with site n) (conds_under (Some 17) lits))
    (under_printed site n place 6 ge le refl lits h) (under_printed site n place 17 ge le refl lits g)

conds_printed : (field : PacketField) (set : List Iv) (lits : List Lit) → ArePieces field set lits → (site : Site) (n : ℕ) → list_all (is_printed_with site n) (conds_for field lits) ≡ true
conds_printed Proto set lits h site n = free_printed site n 1 (omega arith) lits (λ q. h.printed site q refl)
conds_printed Src set lits h site n = free_printed site n 2 (omega arith) lits (λ q. h.printed site q refl)
conds_printed Dst set lits h site n = free_printed site n 4 (omega arith) lits (λ q. h.printed site q refl)
conds_printed Sport set lits h site n = ports_printed site n 3 (omega arith) (omega arith) lits (h.printed site 6 refl) (h.printed site 17 refl)
conds_printed Dport set lits h site n = ports_printed site n 5 (omega arith) (omega arith) lits (h.printed site 6 refl) (h.printed site 17 refl)
conds_printed Flags set lits h site n = under_printed site n 6 6 (omega arith) (omega arith) refl lits (h.printed site 6 refl)
conds_printed Icmp set lits h site n = under_printed site n 7 1 (omega arith) (omega arith) refl lits (h.printed site 1 refl)

pub field_conds : (field : PacketField) (set : List Iv) (lits : List Lit) (conds : List (List Lit)) → ArePieces field set lits → conds ≡ conds_for field lits → AreConds (Field field) set conds
field_conds field set lits conds h is = record {
  hit = λ v below. ap (λ l. list_any (λ c. holds c v) l) is ∙ conds_hit field set lits h v below;
  printed = λ site n of. ap (λ l. list_all (is_printed_with site n) l) is ∙ conds_printed field set lits h site n;
}

-- ---- entries

-- conditions for the entries before a number
pub record AreEntriesBelow (top : ℕ) (set : List Iv) (n : ℕ) (conds : List (List Lit)) : Type 0 where
  pub hit : (v : View) (e : ℕ) → v.outward ≡ false → v.recv ≡ Some e → 1 ≤ e → list_any (λ c. holds c v) conds ≡ (nat_lt e n && has set e)
  pub printed : (site : Site) (tag : ℕ) → top ≡ length site.faces + 1 → list_all (is_printed_with site tag) conds ≡ true

pub no_entries : (top : ℕ) (set : List Iv) → AreEntriesBelow top set 1 []
no_entries top set = record {
  hit = λ v e inward is le. none (nat_lt e 1) (has set e) (past e le);
  printed = λ site tag is. refl;
}
  where
    none : (a b : Bool) → a ≡ false → false ≡ (a && b)
    none true b e = absurd (cc)
    none false b e = refl

    past : (e : ℕ) → 1 ≤ e → nat_lt e 1 ≡ false
    past e le = grind (arith, nat_tests)

pub entry_more : (top : ℕ) (set : List Iv) (n : ℕ) (conds new : List (List Lit)) → 1 ≤ n → n ≤ top → has set n ≡ true → new ≡ conds ++ entry_cond n ∷ []
    → AreEntriesBelow top set n conds → AreEntriesBelow top set (n + 1) new
entry_more top set n conds new some below has-it is h = record {
  hit = λ v e inward shown le.
      let only : List Iv = record { lo = n; hi = n } ∷ [] in
      ap (λ l. list_any (λ c. holds c v) l) is ∙ list_any-append (λ c. holds c v) conds (entry_cond n ∷ [])
      ∙ ap (λ b. b || (holds (entry_cond n) v || false)) (h.hit v e inward shown le)
      ∙ ap (λ (b : Bool). (nat_lt e n && has set e) || ((is_shown (cond b v.xmit v.recv) only && true) || false)) inward
      ∙ ap (λ (o : Option ℕ). (nat_lt e n && has set e) || ((is_shown o only && true) || false)) shown
      ∙ one_more e n (has set e) (λ k. subst (λ k. has set k ≡ true) k has-it);
  printed = λ site tag top-is.
      ap (λ l. list_all (is_printed_with site tag) l) is ∙ list_all-append (is_printed_with site tag) conds (entry_cond n ∷ [])
      ∙ and_from (list_all (is_printed_with site tag) conds) (list_all (is_printed_with site tag) (entry_cond n ∷ [])) (h.printed site tag top-is)
      (spelled n (length site.faces + 1) some (omega (arith, top-is, below)));
}
  where
    one_more : (e n : ℕ) (b : Bool) → (n ≡ e → b ≡ true) → ((nat_lt e n && b) || ((((nat_le n e && nat_le e n) || false) && true) || false)) ≡ (nat_lt e (n + 1) && b)
    one_more e n true f = at_last (nat_lt e n) (nat_le n e) (nat_le e n) (nat_lt e (n + 1)) (tests-agree e n)
      where
        at_last : (a b c d : Bool) → (a || (b && c)) ≡ d → ((a && true) || ((((b && c) || false) && true) || false)) ≡ (d && true)
        at_last true b c d h = cc
        at_last false true true d h = cc
        at_last false true false d h = cc
        at_last false false c d h = cc

        tests-agree : (e n : ℕ) → (nat_lt e n || (nat_le n e && nat_le e n)) ≡ nat_lt e (n + 1)
        tests-agree e n = grind (arith, nat_tests)
    one_more e n false f = never (nat_lt e n) (nat_le n e && nat_le e n) (nat_lt e (n + 1)) (λ y. let k = f (both e n y) in absurd (cc))
      where
        never : (a b d : Bool) → (b ≡ true → ⊥) → ((a && false) || (((b || false) && true) || false)) ≡ (d && false)
        never a true d f = absurd (f refl)
        never true false true f = refl
        never true false false f = refl
        never false false true f = refl
        never false false false f = refl

        both : (e n : ℕ) → (nat_le n e && nat_le e n) ≡ true → n ≡ e
        both e n y = grind (arith, nat_tests)

    spelled : (n most : ℕ) → 1 ≤ n → n ≤ most → ((((nat_eq n n && nat_le n most) && (not (nat_eq n 0) && true)) && true) && true) ≡ true
    spelled n most some below = grind (arith, nat_tests)

pub entry_less : (top : ℕ) (set : List Iv) (n : ℕ) (conds : List (List Lit)) → has set n ≡ false → AreEntriesBelow top set n conds → AreEntriesBelow top set (n + 1) conds
entry_less top set n conds lacks h = record {
  hit = λ v e inward shown le. h.hit v e inward shown le ∙ not_last e n (has set e) (λ k. subst (λ k. has set k ≡ false) k lacks);
  printed = h.printed;
}
  where
    not_last : (e n : ℕ) (b : Bool) → (n ≡ e → b ≡ false) → (nat_lt e n && b) ≡ (nat_lt e (n + 1) && b)
    not_last e n true f = ap (λ x. x && true) (other e n (λ k. let r = f k in absurd (cc)))
      where
        other : (e n : ℕ) → (n ≡ e → ⊥) → nat_lt e n ≡ nat_lt e (n + 1)
        other e n f = grind (arith, nat_tests)
    not_last e n false f = never (nat_lt e n) (nat_lt e (n + 1))
      where
        never : (a b : Bool) → (a && false) ≡ (b && false)
        never true true = refl
        never true false = refl
        never false true = refl
        never false false = refl

pub entries_done : (top : ℕ) (set : List Iv) (conds : List (List Lit)) → AreEntriesBelow top set (top + 1) conds → AreConds (Entry top) set conds
entries_done top set conds h = record {
  hit = λ v seen.
      let inward = seen.0 in
      let shown = seen.1 in
      let some = seen.2 in
      let most = seen.3 in
      h.hit v v.packet.entry inward shown some ∙ ap (λ b. b && has set v.packet.entry) (lt-ltb v.packet.entry (top + 1) (omega (arith, most)));
  printed = h.printed;
}
