-- Literals that stand at their places.
use Rattle.std.proofs.Common.{◌≡◌, ℕ, ◌+◌, ◌<◌, ◌≤◌, Bool, true, false, ◌&&◌, ◌||◌, not, Option, Some, List, [], ◌∷◌, ◌++◌, length, take, drop, get_or, refl, sym, ◌∙◌, ap, subst, arith, append_assoc}
use Rattle.std.proofs.lemmas.Bool.{and_from, and_parts, or_parts, cond-true, cond-false, cond_both, le-leb, lt-ltb, ltb-true}
use Rattle.std.proofs.lemmas.Bool.Decides.{nat_tests}
use Rattle.std.proofs.lemmas.List.{drop_more, take_more}
use Rattle.std.proofs.lemmas.List.Folds.{list_any-append, list_all-append}
use Rattle.std.specs.List.{list_all, list_any}
use Rattle.std.specs.Option.{option_map_or}
use Rattle.std.specs.Prelude.{nat_eq, nat_le, nat_lt}
use Rattle.fws_iv.specs.declared.iv.Iv.{Iv}
use Rattle.fws_iv.specs.Ivs.{has}
use Rattle.fws_net.specs.declared.condition.Lit.{Lit}
use Rattle.fws_net.specs.declared.condition.Test.TheVariants as tests
use Rattle.fws_net.specs.declared.site.Site.{Site}
use Rattle.fws_net.specs.declared.view.View.{View}
use Rattle.fws_net.specs.Conditions.{holds, lit_holds}
use Rattle.fws_ipfw_print.specs.Printable.{ascend, is_printed_cond, is_printed_literal, place_of}
use Rattle.fws_ipfw_put_rules.specs.Literals.{has_place, inserted, is_printed_at}
use Rattle.fws_ipfw_put_rules.specs.Turns.{AreEntries}

-- ---- a literal more

-- it holds where the condition and the literal do
pub inserted_holds : (v : View) (lit : Lit) (xs : List Lit) → holds (inserted lit xs) v ≡ (holds xs v && lit_holds v lit)
inserted_holds v lit [] = alone (lit_holds v lit)
  where
    alone : (b : Bool) → (b && true) ≡ (true && b)
    alone true = refl
    alone false = refl
inserted_holds v lit (x ∷ xs) = cond_both (nat_lt (place_of lit.test) (place_of x.test)) (lit ∷ x ∷ xs) (x ∷ inserted lit xs) (λ l. holds l v ≡ ((lit_holds v x && holds xs v) && lit_holds v lit))
    (λ y. turned (lit_holds v lit) (lit_holds v x && holds xs v))
    (λ n. ap (λ b. lit_holds v x && b) (inserted_holds v lit xs) ∙ grouped (lit_holds v x) (holds xs v) (lit_holds v lit))
  where
    turned : (a b : Bool) → (a && b) ≡ (b && a)
    turned true true = refl
    turned true false = refl
    turned false true = refl
    turned false false = refl

    grouped : (a b c : Bool) → (a && (b && c)) ≡ ((a && b) && c)
    grouped true b c = refl
    grouped false b c = refl

-- each place is that of the literal, or one that was there
pub inserted_place : (n : ℕ) (lit : Lit) (xs : List Lit) → has_place n (inserted lit xs) ≡ (nat_eq (place_of lit.test) n || has_place n xs)
inserted_place n lit [] = refl
inserted_place n lit (x ∷ xs) = cond_both (nat_lt (place_of lit.test) (place_of x.test)) (lit ∷ x ∷ xs) (x ∷ inserted lit xs)
    (λ l. has_place n l ≡ (nat_eq (place_of lit.test) n || (nat_eq (place_of x.test) n || has_place n xs)))
    (λ y. refl)
    (λ z. ap (λ b. nat_eq (place_of x.test) n || b) (inserted_place n lit xs) ∙ swapped (nat_eq (place_of x.test) n) (nat_eq (place_of lit.test) n) (has_place n xs))
  where
    swapped : (a b c : Bool) → (a || (b || c)) ≡ (b || (a || c))
    swapped true true c = refl
    swapped true false c = refl
    swapped false true c = refl
    swapped false false c = refl

-- where its place is free, the literals still ascend
pub inserted_ascend : (least : ℕ) (lit : Lit) (xs : List Lit) → least ≤ place_of lit.test → has_place (place_of lit.test) xs ≡ false → ascend least xs ≡ true → ascend least (inserted lit xs) ≡ true
inserted_ascend least lit [] le free h = and_from (nat_le least (place_of lit.test)) true (le-leb least (place_of lit.test) le) refl
inserted_ascend least lit (x ∷ xs) le free h =
    let p : ℕ = place_of lit.test in
    let q : ℕ = place_of x.test in
    let parts = and_parts (nat_le least q) (ascend (q + 1) xs) h in
    let other = or_parts (nat_eq q p) (has_place p xs) free in
    cond_both (nat_lt p q) (lit ∷ x ∷ xs) (x ∷ inserted lit xs) (λ l. ascend least l ≡ true)
    (λ y. let lt = ltb-true p q y in
    and_from (nat_le least p) (nat_le (p + 1) q && ascend (q + 1) xs) (le-leb least p le)
    (and_from (nat_le (p + 1) q) (ascend (q + 1) xs) (le-leb (p + 1) q (omega arith)) parts.1))
    (λ n. and_from (nat_le least q) (ascend (q + 1) (inserted lit xs)) parts.0
    (inserted_ascend (q + 1) lit xs (above p q n other.0) other.1 parts.1))
  where
    above : (p q : ℕ) → nat_lt p q ≡ false → nat_eq q p ≡ false → q + 1 ≤ p
    above p q a b = grind (arith, nat_tests)

inserted_all : (test : Lit → Bool) (lit : Lit) (xs : List Lit) → test lit ≡ true → list_all test xs ≡ true → list_all test (inserted lit xs) ≡ true
inserted_all test lit [] t h = and_from (test lit) true t refl
inserted_all test lit (x ∷ xs) t h =
    let parts = and_parts (test x) (list_all test xs) h in
    cond_both (nat_lt (place_of lit.test) (place_of x.test)) (lit ∷ x ∷ xs) (x ∷ inserted lit xs) (λ l. list_all test l ≡ true)
    (λ y. and_from (test lit) (test x && list_all test xs) t h)
    (λ n. and_from (test x) (list_all test (inserted lit xs)) parts.0 (inserted_all test lit xs t parts.1))

-- so a printed literal at a free place gives a printed condition
pub inserted_printed : (site : Site) (n : ℕ) (lit : Lit) (xs : List Lit) → is_printed_at site n lit ≡ true → has_place n xs ≡ false → is_printed_cond site xs ≡ true
    → is_printed_cond site (inserted lit xs) ≡ true
inserted_printed site n lit xs at free h =
    let own = and_parts (nat_eq (place_of lit.test) n) (is_printed_literal site lit) at in
    let parts = and_parts (ascend 0 xs) (list_all (is_printed_literal site) xs) h in
    let free' : has_place (place_of lit.test) xs ≡ false = subst (λ k. has_place k xs ≡ false) (same (place_of lit.test) n own.0) free in
    and_from (ascend 0 (inserted lit xs)) (list_all (is_printed_literal site) (inserted lit xs))
    (inserted_ascend 0 lit xs (omega arith) free' parts.0) (inserted_all (is_printed_literal site) lit xs own.1 parts.1)
  where
    same : (a b : ℕ) → nat_eq a b ≡ true → b ≡ a
    same a b e = grind (arith, nat_tests)

-- ---- the place of a literal among others

-- the literals before a later one are passed
pub passed : (lits : List Lit) (i : ℕ) (lit x : Lit) → i < length lits → x ≡ get_or lits i x → nat_lt (place_of lit.test) (place_of x.test) ≡ false
    → inserted lit lits ≡ take i lits ++ inserted lit (drop i lits) → inserted lit lits ≡ take (i + 1) lits ++ inserted lit (drop (i + 1) lits)
passed lits i lit x lt is late so =
    so ∙ ap (λ l. take i lits ++ inserted lit l) (drop_more lits i x lt ∙ ap (λ y. y ∷ drop (i + 1) lits) (sym is))
    ∙ ap (λ l. take i lits ++ l) (cond-false (nat_lt (place_of lit.test) (place_of x.test)) (lit ∷ x ∷ drop (i + 1) lits) (x ∷ inserted lit (drop (i + 1) lits)) late)
    ∙ sym (append_assoc (take i lits) (x ∷ []) (inserted lit (drop (i + 1) lits)))
    ∙ ap (λ l. l ++ inserted lit (drop (i + 1) lits)) (ap (λ y. take i lits ++ y ∷ []) is ∙ sym (take_more lits i x lt))

-- before a later one it stands
pub stands : (lits : List Lit) (i : ℕ) (lit x : Lit) → i < length lits → x ≡ get_or lits i x → nat_lt (place_of lit.test) (place_of x.test) ≡ true
    → inserted lit lits ≡ take i lits ++ inserted lit (drop i lits) → inserted lit lits ≡ take i lits ++ lit ∷ drop i lits
stands lits i lit x lt is early so =
    let here : drop i lits ≡ x ∷ drop (i + 1) lits = drop_more lits i x lt ∙ ap (λ y. y ∷ drop (i + 1) lits) (sym is) in
    so ∙ ap (λ l. take i lits ++ inserted lit l) here
    ∙ ap (λ l. take i lits ++ l) (cond-true (nat_lt (place_of lit.test) (place_of x.test)) (lit ∷ x ∷ drop (i + 1) lits) (x ∷ inserted lit (drop (i + 1) lits)) early)
    ∙ sym (ap (λ l. take i lits ++ lit ∷ l) here)

-- ---- entries

-- literals for the entries before a number
pub record AreEntriesBelow (top : ℕ) (set : List Iv) (n : ℕ) (lits : List Lit) : Type 0 where
  pub hit : (v : View) (e : ℕ) → v.recv ≡ Some e → 1 ≤ e → list_any (lit_holds v) lits ≡ (nat_lt e n && has set e)
  pub printed : (site : Site) → top ≡ length site.faces + 1 → list_all (is_printed_at site 4) lits ≡ true

pub no_entries : (top : ℕ) (set : List Iv) → AreEntriesBelow top set 1 []
no_entries top set = record {
  hit = λ v e is le. none (nat_lt e 1) (has set e) (past e le);
  printed = λ site is. refl;
}
  where
    none : (a b : Bool) → a ≡ false → false ≡ (a && b)
    none true b e = absurd (cc)
    none false b e = refl

    past : (e : ℕ) → 1 ≤ e → nat_lt e 1 ≡ false
    past e le = grind (arith, nat_tests)

pub entry_more : (top : ℕ) (set : List Iv) (n : ℕ) (lits new : List Lit) → 1 ≤ n → n ≤ top → has set n ≡ true → new ≡ lits ++ record { not = false; test = tests.Recv (record { lo = n; hi = n } ∷ []) } ∷ []
    → AreEntriesBelow top set n lits → AreEntriesBelow top set (n + 1) new
entry_more top set n lits new some below has-it is h = record {
  hit = λ v e shown le.
      let last : Lit = record { not = false; test = tests.Recv (record { lo = n; hi = n } ∷ []) } in
      ap (λ l. list_any (lit_holds v) l) is ∙ list_any-append (lit_holds v) lits (last ∷ [])
      ∙ ap (λ b. b || (lit_holds v last || false)) (h.hit v e shown le)
      ∙ ap (λ (o : Option ℕ). (nat_lt e n && has set e) || (option_map_or (has (record { lo = n; hi = n } ∷ [])) o false || false)) shown
      ∙ one_more e n (has set e) (λ k. subst (λ k. has set k ≡ true) k has-it);
  printed = λ site top-is.
      let last : Lit = record { not = false; test = tests.Recv (record { lo = n; hi = n } ∷ []) } in
      ap (λ l. list_all (is_printed_at site 4) l) is ∙ list_all-append (is_printed_at site 4) lits (last ∷ [])
      ∙ and_from (list_all (is_printed_at site 4) lits) (list_all (is_printed_at site 4) (last ∷ [])) (h.printed site top-is)
      (spelled n (length site.faces + 1) some (omega (arith, top-is, below)));
}
  where
    one_more : (e n : ℕ) (b : Bool) → (n ≡ e → b ≡ true) → ((nat_lt e n && b) || (((nat_le n e && nat_le e n) || false) || false)) ≡ (nat_lt e (n + 1) && b)
    one_more e n true f = at_last (nat_lt e n) (nat_le n e) (nat_le e n) (nat_lt e (n + 1)) (tests-agree e n)
      where
        at_last : (a b c d : Bool) → (a || (b && c)) ≡ d → ((a && true) || (((b && c) || false) || false)) ≡ (d && true)
        at_last true b c d h = cc
        at_last false true true d h = cc
        at_last false true false d h = cc
        at_last false false c d h = cc

        tests-agree : (e n : ℕ) → (nat_lt e n || (nat_le n e && nat_le e n)) ≡ nat_lt e (n + 1)
        tests-agree e n = grind (arith, nat_tests)
    one_more e n false f = never (nat_lt e n) (nat_le n e && nat_le e n) (nat_lt e (n + 1)) (λ y. let k = f (both e n y) in absurd (cc))
      where
        never : (a b d : Bool) → (b ≡ true → ⊥) → ((a && false) || ((b || false) || false)) ≡ (d && false)
        never a true d f = absurd (f refl)
        never true false true f = refl
        never true false false f = refl
        never false false true f = refl
        never false false false f = refl

        both : (e n : ℕ) → (nat_le n e && nat_le e n) ≡ true → n ≡ e
        both e n y = grind (arith, nat_tests)

    spelled : (n most : ℕ) → 1 ≤ n → n ≤ most → ((nat_eq n n && nat_le n most) && (not (nat_eq n 0) && true)) && true ≡ true
    spelled n most some below = grind (arith, nat_tests)

pub entry_less : (top : ℕ) (set : List Iv) (n : ℕ) (lits : List Lit) → has set n ≡ false → AreEntriesBelow top set n lits → AreEntriesBelow top set (n + 1) lits
entry_less top set n lits lacks h = record {
  hit = λ v e shown le. h.hit v e shown le ∙ not_last e n (has set e) (λ k. subst (λ k. has set k ≡ false) k lacks);
  printed = h.printed;
}
  where
    not_last : (e n : ℕ) (b : Bool) → (n ≡ e → b ≡ false) → (nat_lt e n && b) ≡ (nat_lt e (n + 1) && b)
    not_last e n true f = ap (λ x. x && true) (other e n (λ k. let r = f k in absurd (cc)))
      where
        other : (e n : ℕ) → (n ≡ e → ⊥) → nat_lt e n ≡ nat_lt e (n + 1)
        other e n f = grind (arith, nat_tests)
    not_last e n false f = never (nat_lt e n) (nat_lt e (n + 1))
      where
        never : (a b : Bool) → (a && false) ≡ (b && false)
        never true true = refl
        never true false = refl
        never false true = refl
        never false false = refl

pub entries_done : (top : ℕ) (set : List Iv) (lits : List Lit) → AreEntriesBelow top set (top + 1) lits → AreEntries top set lits
entries_done top set lits h = record {
  hit = λ v e shown le most. h.hit v e shown le ∙ ap (λ b. b && has set e) (lt-ltb e (top + 1) (omega arith));
  printed = h.printed;
}
