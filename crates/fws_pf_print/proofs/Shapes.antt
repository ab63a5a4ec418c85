-- A printed condition, test by test.
use Rattle.std.proofs.Common.{◌≡◌, ◌≢◌, ℕ, suc, ◌+◌, ◌<◌, ◌≤◌, Bool, true, false, cond, ◌&&◌, not, nat_eq, nat_le, Option, Some, None, IfSome, is_some, option_and_then, List, [], ◌∷◌, ◌++◌, refl, ap, ap₂, sym, ◌∙◌, inl, inr, arith, subst}
use Rattle.std.proofs.lemmas.Bool.{and_from, and_parts, and_right, or_parts, leb-true, le-leb, eqb-true, eqb-false, ne_eqb, not-true, cases_Bool, false_from_ne_true, true≢false, eq-eqb}
use Rattle.std.specs.List.{list_all}
use Rattle.std.specs.Option.{option_map_or}
use Rattle.fws_iv.specs.declared.iv.Iv.{Iv}
use Rattle.fws_net.specs.declared.condition.Lit.{Lit}
use Rattle.fws_net.specs.declared.condition.Test.{Test}
use Rattle.fws_net.specs.declared.condition.Test.TheVariants.{Src, Dst, Sport, Dport, Proto, Icmp, Flags, AnyFlag, Recv, Xmit, Via, Outward, Est, Tag, Never}
use Rattle.fws_net.specs.declared.site.Site.{Site}
use Rattle.fws_rules.specs.Literals.{one, positive}
use Rattle.fws_print.specs.Sets.{first_number}
use Rattle.fws_pf_print.specs.Printable.{ascend, behind_cond, behind_put, behind_tag, is_printed_literal, is_printed_test, is_translation_test, place_of, test_set, tested}
use Rattle.fws_pf_print.specs.PrintedText.{is_host_place, option_words, options_words, tests_flags, tests_hosts}
use Rattle.fws_pf_print.proofs.Basics.{if_true, if_false, never}

-- Places of tests

-- the test of these numbers at a place ahead of options
unfoldable pub test_at : ℕ → List Iv → Test
test_at n set =
    cond (nat_eq n 0) (Via set) (cond (nat_eq n 1) (Proto set) (cond (nat_eq n 2) (Src set) (cond (nat_eq n 3) (Sport set) (cond (nat_eq n 4) (Dst set) (Dport set)))))

-- it asks for nothing where there are no numbers
abbrev pub lits_at : (List Iv → Test) → List Iv → List Lit
lits_at test [] = []
lits_at test (iv ∷ set) = positive (test (iv ∷ set)) ∷ []

-- a test ahead of options is that of its numbers at its place
at_place : (t : Test) → nat_le (place_of t) 5 ≡ true → t ≡ test_at (place_of t) (test_set t)
unfolding test_at
at_place (Via set) h = refl
at_place (Proto set) h = refl
at_place (Src set) h = refl
at_place (Sport set) h = refl
at_place (Dst set) h = refl
at_place (Dport set) h = refl
at_place (Flags mask want) h = never h
at_place (Icmp set) h = never h
at_place (Tag n) h = never h
at_place (AnyFlag mask) h = never h
at_place (Recv set) h = never h
at_place (Xmit set) h = never h
at_place Outward h = never h
at_place Est h = never h
at_place Never h = never h

-- such a test is no option, and names no tag
record IsFront (t : Test) : Type 0 where
  no_words : option_words t ≡ []
  no_tag : (lits : List Lit) (known : ℕ) → behind_cond (positive t ∷ lits) known ≡ behind_cond lits known

front : (t : Test) → nat_le (place_of t) 5 ≡ true → IsFront t
front (Via set) h = record { no_words = refl; no_tag = λ lits known. refl }
front (Proto set) h = record { no_words = refl; no_tag = λ lits known. refl }
front (Src set) h = record { no_words = refl; no_tag = λ lits known. refl }
front (Sport set) h = record { no_words = refl; no_tag = λ lits known. refl }
front (Dst set) h = record { no_words = refl; no_tag = λ lits known. refl }
front (Dport set) h = record { no_words = refl; no_tag = λ lits known. refl }
front (Flags mask want) h = never h
front (Icmp set) h = never h
front (Tag n) h = never h
front (AnyFlag mask) h = never h
front (Recv set) h = never h
front (Xmit set) h = never h
front Outward h = never h
front Est h = never h
front Never h = never h

-- a printed test ahead of options has numbers
has_numbers : (site : Site) (protocol : ℕ) (t : Test) → nat_le (place_of t) 5 ≡ true → is_printed_test site protocol t ≡ true → test_set t ≡ [] → ⊥
has_numbers site protocol (Via []) h k e = never k
has_numbers site protocol (Via (iv ∷ set)) h k e = absurd cc
has_numbers site protocol (Proto []) h k e = never k
has_numbers site protocol (Proto (iv ∷ set)) h k e = absurd cc
has_numbers site protocol (Src []) h k e = never k
has_numbers site protocol (Src (iv ∷ set)) h k e = absurd cc
has_numbers site protocol (Dst []) h k e = never k
has_numbers site protocol (Dst (iv ∷ set)) h k e = absurd cc
has_numbers site protocol (Sport []) h k e = never (sym (and_right _ false refl) ∙ k)
has_numbers site protocol (Sport (iv ∷ set)) h k e = absurd cc
has_numbers site protocol (Dport []) h k e = never (sym (and_right _ false refl) ∙ k)
has_numbers site protocol (Dport (iv ∷ set)) h k e = absurd cc
has_numbers site protocol (Flags mask want) h k e = never h
has_numbers site protocol (Icmp set) h k e = never h
has_numbers site protocol (Tag n) h k e = never h
has_numbers site protocol (AnyFlag mask) h k e = never h
has_numbers site protocol (Recv set) h k e = never h
has_numbers site protocol (Xmit set) h k e = never h
has_numbers site protocol Outward h k e = never h
has_numbers site protocol Est h k e = never h
has_numbers site protocol Never h k e = never h

-- literals whose tests stand behind a place don't test it
none_there : (least k : ℕ) (lits : List Lit) → k < least → ascend least lits ≡ true → tested k lits ≡ []
none_there least k [] lt h = refl
none_there least k (lit ∷ lits) lt h =
    let parts = and_parts (nat_le least (place_of lit.test)) (ascend (place_of lit.test + 1) lits) h in
    let low : least ≤ place_of lit.test = leb-true least (place_of lit.test) parts.0 in
    let further : k < place_of lit.test + 1 = omega arith in
    if_false (nat_eq (place_of lit.test) k) (test_set lit.test) (tested k lits) (ne_eqb (place_of lit.test) k (λ e. omega arith)) ∙ none_there (place_of lit.test + 1) k lits further parts.1

-- The front of a condition

-- one place ahead of options: what it asks for there, and what it asks for behind
pub record IsPeeled (site : Site) (protocol k : ℕ) (lits : List Lit) : Type 0 where
  pub rest : List Lit
  pub divides : lits ≡ lits_at (test_at k) (tested k lits) ++ rest
  pub later : ascend (suc k) rest ≡ true
  pub printed : list_all (is_printed_literal site protocol) rest ≡ true
  pub own : (tested k lits ≡ [] → ⊥) → is_printed_test site protocol (test_at k (tested k lits)) ≡ true
  pub others : (j : ℕ) → k < j → tested j lits ≡ tested j rest
  pub words : options_words lits ≡ options_words rest
  pub tags : (known : ℕ) → behind_cond lits known ≡ behind_cond rest known
  pub narrow : list_all (λ lit. is_translation_test lit.test) lits ≡ true → list_all (λ lit. is_translation_test lit.test) rest ≡ true

not_here : (site : Site) (protocol k : ℕ) (lits : List Lit) → tested k lits ≡ [] → ascend (suc k) lits ≡ true → list_all (is_printed_literal site protocol) lits ≡ true → IsPeeled site protocol k lits
not_here site protocol k lits none later printed = record {
  rest = lits;
  divides = ap (λ set. lits_at (test_at k) set ++ lits) (sym none);
  later = later;
  printed = printed;
  own = λ some. absurd (some none);
  others = λ j lt. refl;
  words = refl;
  tags = λ known. refl;
  narrow = λ h. h;
}

-- the first literal stands at the place
here : (site : Site) (protocol : ℕ) (negated : Bool) (t : Test) (lits : List Lit) → nat_le (place_of t) 5 ≡ true → not negated ≡ true → is_printed_test site protocol t ≡ true
    → ascend (suc (place_of t)) lits ≡ true → list_all (is_printed_literal site protocol) lits ≡ true → IsPeeled site protocol (place_of t) (record { not = negated; test = t } ∷ lits)
here site protocol true t lits low off printed later others = never off
here site protocol false t lits low off printed later others =
    let is = front t low in
    let own : tested (place_of t) (positive t ∷ lits) ≡ test_set t =
    if_true (nat_eq (place_of t) (place_of t)) (test_set t) (tested (place_of t) lits) (grind (arith, eq-eqb)) in
    let same : test_at (place_of t) (tested (place_of t) (positive t ∷ lits)) ≡ t = ap (test_at (place_of t)) own ∙ sym (at_place t low) in
    record {
      rest = lits;
      divides = ap (λ (x : List Lit). x ++ lits) (sym (whole (tested (place_of t) (positive t ∷ lits)) own same));
      later = later;
      printed = others;
      own = λ some. ap (is_printed_test site protocol) same ∙ printed;
      others = λ j lt. if_false (nat_eq (place_of t) j) (test_set t) (tested j lits) (ne_eqb (place_of t) j (λ e. omega arith));
      words = ap (λ (ws : List (List ℕ)). ws ++ options_words lits) is.no_words;
      tags = is.no_tag lits;
      narrow = λ h. (and_parts (is_translation_test t) (list_all (λ lit. is_translation_test lit.test) lits) h).1;
    }
  where
    whole : (set : List Iv) → set ≡ test_set t → test_at (place_of t) set ≡ t → lits_at (test_at (place_of t)) set ≡ positive t ∷ []
    whole [] e same = absurd (has_numbers site protocol t low printed (sym e))
    whole (iv ∷ set) e same = ap (λ t. positive t ∷ []) same

pub peel : (site : Site) (protocol k : ℕ) (lits : List Lit) → k ≤ 5 → ascend k lits ≡ true → list_all (is_printed_literal site protocol) lits ≡ true → IsPeeled site protocol k lits
peel site protocol k [] low h printed = not_here site protocol k [] refl refl refl
peel site protocol k (lit ∷ lits) low h printed =
    let place = place_of lit.test in
    let parts = and_parts (nat_le k place) (ascend (place + 1) lits) h in
    let p = and_parts (is_printed_literal site protocol lit) (list_all (is_printed_literal site protocol) lits) printed in
    let q = and_parts (not lit.not) (is_printed_test site protocol lit.test) p.0 in
    let from : k ≤ place = leb-true k place parts.0 in
    elim (cases_Bool (nat_eq place k)) [
      | inl e ↦
          (let same : place ≡ k = eqb-true place k e in
          let next : place + 1 ≡ suc place = omega arith in
          let within : place ≤ 5 = omega arith in
          subst (λ (j : ℕ). IsPeeled site protocol j (lit ∷ lits)) same
          (here site protocol lit.not lit.test lits (le-leb place 5 within) q.0 q.1 (ap (λ m. ascend m lits) (sym next) ∙ parts.1) p.1))
      | inr e ↦
          (let other : place ≢ k = eqb-false place k e in
          let further : suc k ≤ place = omega arith in
          let lt : k < place + 1 = omega arith in
          not_here site protocol k (lit ∷ lits)
          (if_false (nat_eq place k) (test_set lit.test) (tested k lits) e ∙ none_there (place + 1) k lits lt parts.1)
          (and_from (nat_le (suc k) place) (ascend (place + 1) lits) (le-leb (suc k) place further) parts.1) printed)
    ]

-- where no host place is tested nothing is asked for at one
pub none_tested : (k : ℕ) (lits : List Lit) → is_host_place k ≡ true → tests_hosts lits ≡ false → tested k lits ≡ []
none_tested k [] h e = refl
none_tested k (lit ∷ lits) h e =
    let parts = or_parts (is_host_place (place_of lit.test)) (tests_hosts lits) e in
    if_false (nat_eq (place_of lit.test) k) (test_set lit.test) (tested k lits) (false_from_ne_true (nat_eq (place_of lit.test) k) (λ same. true≢false (sym h ∙ ap is_host_place (sym (eqb-true (place_of lit.test) k same)) ∙ parts.0)))
    ∙ none_tested k lits h parts.1

-- Options

abbrev pub flags_lits : Option (ℕ × ℕ) → List Lit
flags_lits o = option_map_or (λ f. positive (Flags f.0 f.1) ∷ []) o []

abbrev pub type_lits : Option ℕ → List Lit
type_lits o = option_map_or (λ n. positive (Icmp (one n n)) ∷ []) o []

abbrev pub tag_lits : Option ℕ → List Lit
tag_lits o = option_map_or (λ n. positive (Tag n) ∷ []) o []

abbrev pub flags_texts : Option (ℕ × ℕ) → List (List ℕ)
flags_texts o = option_map_or (λ f. option_words (Flags f.0 f.1)) o []

abbrev pub type_texts : Option ℕ → List (List ℕ)
type_texts o = option_map_or (λ n. option_words (Icmp (one n n))) o []

abbrev pub tag_texts : Option ℕ → List (List ℕ)
tag_texts o = option_map_or (λ n. option_words (Tag n)) o []

-- the options of a condition
pub record AreOptions (site : Site) (protocol : ℕ) (lits : List Lit) : Type 0 where
  pub flags : Option (ℕ × ℕ)
  pub type : Option ℕ
  pub tag : Option ℕ
  pub divides : lits ≡ flags_lits flags ++ (type_lits type ++ tag_lits tag)
  pub words : options_words lits ≡ flags_texts flags ++ (type_texts type ++ tag_texts tag)
  pub flags_printed : IfSome flags (λ f. is_printed_test site protocol (Flags f.0 f.1) ≡ true)
  pub type_printed : IfSome type (λ n. is_printed_test site protocol (Icmp (one n n)) ≡ true)
  pub tested_flags : tests_flags lits ≡ is_some flags
  pub tags : (known : ℕ) → behind_cond lits known ≡ behind_put tag known
  pub narrow : list_all (λ lit. is_translation_test lit.test) lits ≡ true → (flags ≡ None) × (type ≡ None)

-- what a test is
data View (site : Site) (protocol : ℕ) : Test → Type 0 where
  of_flags : (mask want : ℕ) → View site protocol (Flags mask want)
  of_type : (set : List Iv) → View site protocol (Icmp set)
  of_tag : (n : ℕ) → View site protocol (Tag n)
  of_front : {t : Test} → nat_le (place_of t) 5 ≡ true → View site protocol t
  of_other : {t : Test} → is_printed_test site protocol t ≡ false → View site protocol t

view : (site : Site) (protocol : ℕ) (t : Test) → View site protocol t
view site protocol (Via set) = of_front refl
view site protocol (Proto set) = of_front refl
view site protocol (Src set) = of_front refl
view site protocol (Sport set) = of_front refl
view site protocol (Dst set) = of_front refl
view site protocol (Dport set) = of_front refl
view site protocol (Flags mask want) = of_flags mask want
view site protocol (Icmp set) = of_type set
view site protocol (Tag n) = of_tag n
view site protocol (AnyFlag mask) = of_other refl
view site protocol (Recv set) = of_other refl
view site protocol (Xmit set) = of_other refl
view site protocol Outward = of_other refl
view site protocol Est = of_other refl
view site protocol Never = of_other refl

-- a place ahead of options isn't behind them
too_low : {A : Type 0} (least : ℕ) (t : Test) → 6 ≤ least → nat_le least (place_of t) ≡ true → nat_le (place_of t) 5 ≡ true → A
too_low least t low h k = (let a : least ≤ place_of t = leb-true least (place_of t) h in let b : place_of t ≤ 5 = leb-true (place_of t) 5 k in absurd (omega arith))

-- what is known of the first literal
record IsFirst (site : Site) (protocol least : ℕ) (lit : Lit) (lits : List Lit) : Type 0 where
  plain : lit ≡ positive lit.test
  test : is_printed_test site protocol lit.test ≡ true
  place : nat_le least (place_of lit.test) ≡ true
  later : ascend (place_of lit.test + 1) lits ≡ true
  others : list_all (is_printed_literal site protocol) lits ≡ true

first : (site : Site) (protocol least : ℕ) (lit : Lit) (lits : List Lit) → ascend least (lit ∷ lits) ≡ true → list_all (is_printed_literal site protocol) (lit ∷ lits) ≡ true → IsFirst site protocol least lit lits
first site protocol least lit lits h printed =
    let parts = and_parts (nat_le least (place_of lit.test)) (ascend (place_of lit.test + 1) lits) h in
    let p = and_parts (is_printed_literal site protocol lit) (list_all (is_printed_literal site protocol) lits) printed in
    let q = and_parts (not lit.not) (is_printed_test site protocol lit.test) p.0 in
    record { plain = ap (λ b. let l : Lit = record { not = b; test = lit.test } in l) (not-true lit.not q.0); test = q.1; place = parts.0; later = parts.1; others = p.1 }

-- behind tags nothing is printed
none_behind : (site : Site) (protocol : ℕ) (lits : List Lit) → ascend 9 lits ≡ true → list_all (is_printed_literal site protocol) lits ≡ true → lits ≡ []
none_behind site protocol [] h printed = refl
none_behind site protocol (lit ∷ lits) h printed = (let is = first site protocol 9 lit lits h printed in by_view (view site protocol lit.test) is.place is.test)
  where
    by_view : {t : Test} → View site protocol t → nat_le 9 (place_of t) ≡ true → is_printed_test site protocol t ≡ true → lit ∷ lits ≡ []
    by_view (of_flags mask want) place test = never place
    by_view (of_type set) place test = never place
    by_view (of_tag n) place test = never place
    by_view {t} (of_front low) place test = too_low 9 t (omega arith) place low
    by_view (of_other off) place test = never (sym off ∙ test)

record IsTagged (lits : List Lit) : Type 0 where
  tag : Option ℕ
  divides : lits ≡ tag_lits tag

tagged : (site : Site) (protocol : ℕ) (lits : List Lit) → ascend 8 lits ≡ true → list_all (is_printed_literal site protocol) lits ≡ true → IsTagged lits
tagged site protocol [] h printed = record { tag = None; divides = refl }
tagged site protocol (lit ∷ lits) h printed = (let is = first site protocol 8 lit lits h printed in by_view (view site protocol lit.test) is.plain is.place is.test is.later is.others)
  where
    by_view : {t : Test} → View site protocol t → lit ≡ positive t → nat_le 8 (place_of t) ≡ true → is_printed_test site protocol t ≡ true → ascend (place_of t + 1) lits ≡ true
        → list_all (is_printed_literal site protocol) lits ≡ true → IsTagged (lit ∷ lits)
    by_view (of_flags mask want) plain place test later others = never place
    by_view (of_type set) plain place test later others = never place
    by_view (of_tag n) plain place test later others = record { tag = Some n; divides = ap₂ (λ (x : Lit) (xs : List Lit). x ∷ xs) plain (none_behind site protocol lits later others) }
    by_view {t} (of_front low) plain place test later others = too_low 8 t (omega arith) place low
    by_view (of_other off) plain place test later others = never (sym off ∙ test)

record IsTyped (site : Site) (protocol : ℕ) (lits : List Lit) : Type 0 where
  type : Option ℕ
  tag : Option ℕ
  divides : lits ≡ type_lits type ++ tag_lits tag
  printed : IfSome type (λ n. is_printed_test site protocol (Icmp (one n n)) ≡ true)

-- a printed type is one number
one_type : (site : Site) (protocol : ℕ) (set : List Iv) → is_printed_test site protocol (Icmp set) ≡ true → set ≡ one (first_number set) (first_number set)
one_type site protocol [] h = never (sym (and_right (nat_eq protocol 1) false refl) ∙ h)
one_type site protocol (iv ∷ []) h =
    let p = and_parts (nat_eq protocol 1) (nat_eq iv.lo iv.hi && nat_le iv.hi 255) h in
    let same : iv.lo ≡ iv.hi = eqb-true iv.lo iv.hi (and_parts (nat_eq iv.lo iv.hi) (nat_le iv.hi 255) p.1).0 in
    ap (λ (hi : ℕ). one iv.lo hi) (sym same)
one_type site protocol (iv ∷ next ∷ set) h = never (sym (and_right (nat_eq protocol 1) false refl) ∙ h)

typed : (site : Site) (protocol : ℕ) (lits : List Lit) → ascend 7 lits ≡ true → list_all (is_printed_literal site protocol) lits ≡ true → IsTyped site protocol lits
typed site protocol [] h printed = record { type = None; tag = None; divides = refl; printed = tt }
typed site protocol (lit ∷ lits) h printed = (let is = first site protocol 7 lit lits h printed in by_view (view site protocol lit.test) is.plain is.place is.test is.later is.others)
  where
    by_view : {t : Test} → View site protocol t → lit ≡ positive t → nat_le 7 (place_of t) ≡ true → is_printed_test site protocol t ≡ true → ascend (place_of t + 1) lits ≡ true
        → list_all (is_printed_literal site protocol) lits ≡ true → IsTyped site protocol (lit ∷ lits)
    by_view (of_flags mask want) plain place test later others = never place
    by_view (of_type set) plain place test later others =
        let rest = tagged site protocol lits later others in
        let same = one_type site protocol set test in
        record {
          type = Some (first_number set);
          tag = rest.tag;
          divides = ap₂ (λ (x : Lit) (xs : List Lit). x ∷ xs) (plain ∙ ap (λ s. positive (Icmp s)) same) rest.divides;
          printed = ap (λ s. is_printed_test site protocol (Icmp s)) (sym same) ∙ test;
        }
    by_view (of_tag n) plain place test later others = record { type = None; tag = Some n; divides = ap₂ (λ (x : Lit) (xs : List Lit). x ∷ xs) plain (none_behind site protocol lits later others); printed = tt }
    by_view {t} (of_front low) plain place test later others = too_low 7 t (omega arith) place low
    by_view (of_other off) plain place test later others = never (sym off ∙ test)

last : (o : Option ℕ) → option_and_then (behind_cond []) o ≡ o
last None = refl
last (Some n) = refl

-- what is computed of options once they are known
options_at : (site : Site) (protocol : ℕ) (lits : List Lit) (flags : Option (ℕ × ℕ)) (type tag : Option ℕ) → lits ≡ flags_lits flags ++ (type_lits type ++ tag_lits tag)
    → IfSome flags (λ f. is_printed_test site protocol (Flags f.0 f.1) ≡ true) → IfSome type (λ n. is_printed_test site protocol (Icmp (one n n)) ≡ true) → AreOptions site protocol lits
options_at site protocol lits flags type tag e f t = record {
  flags = flags;
  type = type;
  tag = tag;
  divides = e;
  words = ap options_words e ∙ words flags type tag;
  flags_printed = f;
  type_printed = t;
  tested_flags = ap tests_flags e ∙ tests flags type tag;
  tags = λ known. ap (λ l. behind_cond l known) e ∙ tags flags type tag known;
  narrow = λ h. narrow flags type tag (ap (list_all (λ lit. is_translation_test lit.test)) (sym e) ∙ h);
}
  where
    words : (flags : Option (ℕ × ℕ)) (type tag : Option ℕ) → options_words (flags_lits flags ++ (type_lits type ++ tag_lits tag)) ≡ flags_texts flags ++ (type_texts type ++ tag_texts tag)
    words None None None = refl
    words None None (Some n) = refl
    words None (Some k) None = refl
    words None (Some k) (Some n) = refl
    words (Some f) None None = refl
    words (Some f) None (Some n) = refl
    words (Some f) (Some k) None = refl
    words (Some f) (Some k) (Some n) = refl

    tests : (flags : Option (ℕ × ℕ)) (type tag : Option ℕ) → tests_flags (flags_lits flags ++ (type_lits type ++ tag_lits tag)) ≡ is_some flags
    tests None None None = refl
    tests None None (Some n) = refl
    tests None (Some k) None = refl
    tests None (Some k) (Some n) = refl
    tests (Some f) type tag = refl

    tags : (flags : Option (ℕ × ℕ)) (type tag : Option ℕ) (known : ℕ) → behind_cond (flags_lits flags ++ (type_lits type ++ tag_lits tag)) known ≡ behind_put tag known
    tags None None None known = refl
    tags None None (Some n) known = last (behind_tag n known)
    tags None (Some k) None known = refl
    tags None (Some k) (Some n) known = last (behind_tag n known)
    tags (Some f) None None known = refl
    tags (Some f) None (Some n) known = last (behind_tag n known)
    tags (Some f) (Some k) None known = refl
    tags (Some f) (Some k) (Some n) known = last (behind_tag n known)

    narrow : (flags : Option (ℕ × ℕ)) (type tag : Option ℕ) → list_all (λ lit. is_translation_test lit.test) (flags_lits flags ++ (type_lits type ++ tag_lits tag)) ≡ true → (flags ≡ None) × (type ≡ None)
    narrow None None tag h = (refl, refl)
    narrow None (Some k) tag h = never h
    narrow (Some f) type tag h = never h

pub options : (site : Site) (protocol : ℕ) (lits : List Lit) → ascend 6 lits ≡ true → list_all (is_printed_literal site protocol) lits ≡ true → AreOptions site protocol lits
options site protocol [] h printed = options_at site protocol [] None None None refl tt tt
options site protocol (lit ∷ lits) h printed = (let is = first site protocol 6 lit lits h printed in by_view (view site protocol lit.test) is.plain is.place is.test is.later is.others)
  where
    by_view : {t : Test} → View site protocol t → lit ≡ positive t → nat_le 6 (place_of t) ≡ true → is_printed_test site protocol t ≡ true → ascend (place_of t + 1) lits ≡ true
        → list_all (is_printed_literal site protocol) lits ≡ true → AreOptions site protocol (lit ∷ lits)
    by_view (of_flags mask want) plain place test later others =
        let rest = typed site protocol lits later others in
        options_at site protocol (lit ∷ lits) (Some (mask, want)) rest.type rest.tag (ap₂ (λ (x : Lit) (xs : List Lit). x ∷ xs) plain rest.divides) test rest.printed
    by_view (of_type set) plain place test later others =
        let rest = tagged site protocol lits later others in
        let same = one_type site protocol set test in
        options_at site protocol (lit ∷ lits) None (Some (first_number set)) rest.tag (ap₂ (λ (x : Lit) (xs : List Lit). x ∷ xs) (plain ∙ ap (λ s. positive (Icmp s)) same) rest.divides) tt
        (ap (λ s. is_printed_test site protocol (Icmp s)) (sym same) ∙ test)
    by_view (of_tag n) plain place test later others =
        options_at site protocol (lit ∷ lits) None None (Some n) (ap₂ (λ (x : Lit) (xs : List Lit). x ∷ xs) plain (none_behind site protocol lits later others)) tt tt
    by_view {t} (of_front low) plain place test later others = too_low 6 t (omega arith) place low
    by_view (of_other off) plain place test later others = never (sym off ∙ test)
