-- A printed condition, test by test.
use Rattle.std.proofs.Common.{◌≡◌, ◌≢◌, ℕ, suc, ◌+◌, ◌<◌, ◌≤◌, Bool, true, false, cond, ◌&&◌, not, nat_eq, nat_le, List, [], ◌∷◌, ◌++◌, refl, ap, ap₂, sym, ◌∙◌, inl, inr, arith, subst}
use Rattle.std.proofs.lemmas.Bool.{and_from, and_parts, and_right, leb-true, le-leb, eqb-true, eqb-false, ne_eqb, not-true, cases_Bool, eq-eqb}
use Rattle.std.specs.List.{list_all}
use Rattle.fws_iv.specs.declared.iv.Iv.{Iv}
use Rattle.fws_net.specs.declared.condition.Lit.{Lit}
use Rattle.fws_net.specs.declared.condition.Test.{Test}
use Rattle.fws_net.specs.declared.condition.Test.TheVariants.{Src, Dst, Sport, Dport, Proto, Icmp, Flags, AnyFlag, Recv, Xmit, Via, Outward, Est, Tag, Never}
use Rattle.fws_rules.specs.Literals.{one, positive}
use Rattle.fws_print.specs.Sets.{first_number, is_number, is_range}
use Rattle.fws_ios_print.specs.Printable.{ascend, is_block, is_port_protocol, is_printed_cond, is_printed_literal, is_printed_test, place_of, protocol_tested, test_set, tested}
use Rattle.fws_ios_print.specs.PrintedText.{option_words, options_words}
use Rattle.fws_ios_print.proofs.Basics.{if_true, if_false, never}

-- Places of tests

-- the test of these numbers at a place ahead of options
unfoldable pub test_at : ℕ → List Iv → Test
test_at n set = cond (nat_eq n 0) (Proto set) (cond (nat_eq n 1) (Src set) (cond (nat_eq n 2) (Sport set) (cond (nat_eq n 3) (Dst set) (Dport set))))

-- it asks for nothing where there are no numbers
abbrev pub lits_at : (List Iv → Test) → List Iv → List Lit
lits_at test [] = []
lits_at test (iv ∷ set) = positive (test (iv ∷ set)) ∷ []

-- a test ahead of options is that of its numbers at its place
at_place : (t : Test) → nat_le (place_of t) 4 ≡ true → t ≡ test_at (place_of t) (test_set t)
unfolding test_at
at_place (Proto set) h = refl
at_place (Src set) h = refl
at_place (Dst set) h = refl
at_place (Sport set) h = refl
at_place (Dport set) h = refl
at_place (Via set) h = never h
at_place (Flags mask want) h = never h
at_place (Icmp set) h = never h
at_place (Tag n) h = never h
at_place (AnyFlag mask) h = never h
at_place (Recv set) h = never h
at_place (Xmit set) h = never h
at_place Outward h = never h
at_place Est h = never h
at_place Never h = never h

-- such a test is no option
no_words : (t : Test) → nat_le (place_of t) 4 ≡ true → option_words t ≡ []
no_words (Proto set) h = refl
no_words (Src set) h = refl
no_words (Dst set) h = refl
no_words (Sport set) h = refl
no_words (Dport set) h = refl
no_words (Via set) h = never h
no_words (Flags mask want) h = never h
no_words (Icmp set) h = never h
no_words (Tag n) h = never h
no_words (AnyFlag mask) h = never h
no_words (Recv set) h = never h
no_words (Xmit set) h = never h
no_words Outward h = never h
no_words Est h = never h
no_words Never h = never h

-- a printed test ahead of options has numbers
has_numbers : (protocol : ℕ) (t : Test) → nat_le (place_of t) 4 ≡ true → is_printed_test protocol t ≡ true → test_set t ≡ [] → ⊥
has_numbers protocol (Proto []) h k e = never k
has_numbers protocol (Proto (iv ∷ set)) h k e = absurd cc
has_numbers protocol (Src []) h k e = never k
has_numbers protocol (Src (iv ∷ set)) h k e = absurd cc
has_numbers protocol (Dst []) h k e = never k
has_numbers protocol (Dst (iv ∷ set)) h k e = absurd cc
has_numbers protocol (Sport []) h k e = never (sym (and_right _ false refl) ∙ k)
has_numbers protocol (Sport (iv ∷ set)) h k e = absurd cc
has_numbers protocol (Dport []) h k e = never (sym (and_right _ false refl) ∙ k)
has_numbers protocol (Dport (iv ∷ set)) h k e = absurd cc
has_numbers protocol (Via set) h k e = never h
has_numbers protocol (Flags mask want) h k e = never h
has_numbers protocol (Icmp set) h k e = never h
has_numbers protocol (Tag n) h k e = never h
has_numbers protocol (AnyFlag mask) h k e = never h
has_numbers protocol (Recv set) h k e = never h
has_numbers protocol (Xmit set) h k e = never h
has_numbers protocol Outward h k e = never h
has_numbers protocol Est h k e = never h
has_numbers protocol Never h k e = never h

-- literals whose tests stand behind a place don't test it
none_there : (least k : ℕ) (lits : List Lit) → k < least → ascend least lits ≡ true → tested k lits ≡ []
none_there least k [] lt h = refl
none_there least k (lit ∷ lits) lt h =
    let parts = and_parts (nat_le least (place_of lit.test)) (ascend (place_of lit.test + 1) lits) h in
    let low : least ≤ place_of lit.test = leb-true least (place_of lit.test) parts.0 in
    let further : k < place_of lit.test + 1 = omega arith in
    if_false (nat_eq (place_of lit.test) k) (test_set lit.test) (tested k lits) (ne_eqb (place_of lit.test) k (λ e. omega arith)) ∙ none_there (place_of lit.test + 1) k lits further parts.1

-- The front of a condition

-- one place ahead of options: what it asks for there, and what it asks for behind
record IsPeeled (protocol k : ℕ) (lits : List Lit) : Type 0 where
  rest : List Lit
  divides : lits ≡ lits_at (test_at k) (tested k lits) ++ rest
  later : ascend (suc k) rest ≡ true
  printed : list_all (is_printed_literal protocol) rest ≡ true
  own : (tested k lits ≡ [] → ⊥) → is_printed_test protocol (test_at k (tested k lits)) ≡ true
  others : (j : ℕ) → k < j → tested j lits ≡ tested j rest
  words : options_words lits ≡ options_words rest

not_here : (protocol k : ℕ) (lits : List Lit) → tested k lits ≡ [] → ascend (suc k) lits ≡ true → list_all (is_printed_literal protocol) lits ≡ true → IsPeeled protocol k lits
not_here protocol k lits none later printed = record {
  rest = lits;
  divides = ap (λ set. lits_at (test_at k) set ++ lits) (sym none);
  later = later;
  printed = printed;
  own = λ some. absurd (some none);
  others = λ j lt. refl;
  words = refl;
}

-- the first literal stands at the place
here : (protocol : ℕ) (negated : Bool) (t : Test) (lits : List Lit) → nat_le (place_of t) 4 ≡ true → not negated ≡ true → is_printed_test protocol t ≡ true
    → ascend (suc (place_of t)) lits ≡ true → list_all (is_printed_literal protocol) lits ≡ true → IsPeeled protocol (place_of t) (record { not = negated; test = t } ∷ lits)
here protocol true t lits low off printed later others = never off
here protocol false t lits low off printed later others =
    let own : tested (place_of t) (positive t ∷ lits) ≡ test_set t =
    if_true (nat_eq (place_of t) (place_of t)) (test_set t) (tested (place_of t) lits) (grind (arith, eq-eqb)) in
    let same : test_at (place_of t) (tested (place_of t) (positive t ∷ lits)) ≡ t = ap (test_at (place_of t)) own ∙ sym (at_place t low) in
    record {
      rest = lits;
      divides = ap (λ (x : List Lit). x ++ lits) (sym (whole (tested (place_of t) (positive t ∷ lits)) own same));
      later = later;
      printed = others;
      own = λ some. ap (is_printed_test protocol) same ∙ printed;
      others = λ j lt. if_false (nat_eq (place_of t) j) (test_set t) (tested j lits) (ne_eqb (place_of t) j (λ e. omega arith));
      words = ap (λ (ws : List (List ℕ)). ws ++ options_words lits) (no_words t low);
    }
  where
    whole : (set : List Iv) → set ≡ test_set t → test_at (place_of t) set ≡ t → lits_at (test_at (place_of t)) set ≡ positive t ∷ []
    whole [] e same = absurd (has_numbers protocol t low printed (sym e))
    whole (iv ∷ set) e same = ap (λ t. positive t ∷ []) same

peel : (protocol k : ℕ) (lits : List Lit) → k ≤ 4 → ascend k lits ≡ true → list_all (is_printed_literal protocol) lits ≡ true → IsPeeled protocol k lits
peel protocol k [] low h printed = not_here protocol k [] refl refl refl
peel protocol k (lit ∷ lits) low h printed =
    let place = place_of lit.test in
    let parts = and_parts (nat_le k place) (ascend (place + 1) lits) h in
    let p = and_parts (is_printed_literal protocol lit) (list_all (is_printed_literal protocol) lits) printed in
    let q = and_parts (not lit.not) (is_printed_test protocol lit.test) p.0 in
    let least : k ≤ place = leb-true k place parts.0 in
    elim (cases_Bool (nat_eq place k)) [
      | inl e ↦
          (let same : place ≡ k = eqb-true place k e in
          let next : place + 1 ≡ suc place = omega arith in
          let within : place ≤ 4 = omega arith in
          subst (λ (j : ℕ). IsPeeled protocol j (lit ∷ lits)) same
          (here protocol lit.not lit.test lits (le-leb place 4 within) q.0 q.1 (ap (λ m. ascend m lits) (sym next) ∙ parts.1) p.1))
      | inr e ↦
          (let other : place ≢ k = eqb-false place k e in
          let further : suc k ≤ place = omega arith in
          let lt : k < place + 1 = omega arith in
          not_here protocol k (lit ∷ lits)
          (if_false (nat_eq place k) (test_set lit.test) (tested k lits) e ∙ none_there (place + 1) k lits lt parts.1)
          (and_from (nat_le (suc k) place) (ascend (place + 1) lits) (le-leb (suc k) place further) parts.1) printed)
    ]

-- Options

-- what stands behind addresses and ports: nothing, a type under ICMP, or `established` under TCP
pub data AreOptions (protocol : ℕ) : List Lit → Type 0 where
  no_option : AreOptions protocol []
  one_type : (n : ℕ) → nat_eq protocol 1 ≡ true → n ≤ 255 → AreOptions protocol (positive (Icmp (one n n)) ∷ [])
  established : nat_eq protocol 6 ≡ true → AreOptions protocol (positive (AnyFlag 20) ∷ [])

-- what is known of the first literal
record IsFirst (protocol least : ℕ) (lit : Lit) (lits : List Lit) : Type 0 where
  plain : lit ≡ positive lit.test
  test : is_printed_test protocol lit.test ≡ true
  place : nat_le least (place_of lit.test) ≡ true
  later : ascend (place_of lit.test + 1) lits ≡ true
  others : list_all (is_printed_literal protocol) lits ≡ true

first : (protocol least : ℕ) (lit : Lit) (lits : List Lit) → ascend least (lit ∷ lits) ≡ true → list_all (is_printed_literal protocol) (lit ∷ lits) ≡ true → IsFirst protocol least lit lits
first protocol least lit lits h printed =
    let parts = and_parts (nat_le least (place_of lit.test)) (ascend (place_of lit.test + 1) lits) h in
    let p = and_parts (is_printed_literal protocol lit) (list_all (is_printed_literal protocol) lits) printed in
    let q = and_parts (not lit.not) (is_printed_test protocol lit.test) p.0 in
    record { plain = ap (λ b. let l : Lit = record { not = b; test = lit.test } in l) (not-true lit.not q.0); test = q.1; place = parts.0; later = parts.1; others = p.1 }

-- what a test is
data View (protocol : ℕ) : Test → Type 0 where
  of_type : (set : List Iv) → View protocol (Icmp set)
  of_flags : (mask : ℕ) → View protocol (AnyFlag mask)
  of_front : {t : Test} → nat_le (place_of t) 4 ≡ true → View protocol t
  of_other : {t : Test} → is_printed_test protocol t ≡ false → View protocol t

view : (protocol : ℕ) (t : Test) → View protocol t
view protocol (Proto set) = of_front refl
view protocol (Src set) = of_front refl
view protocol (Dst set) = of_front refl
view protocol (Sport set) = of_front refl
view protocol (Dport set) = of_front refl
view protocol (Icmp set) = of_type set
view protocol (AnyFlag mask) = of_flags mask
view protocol (Via set) = of_other refl
view protocol (Flags mask want) = of_other refl
view protocol (Tag n) = of_other refl
view protocol (Recv set) = of_other refl
view protocol (Xmit set) = of_other refl
view protocol Outward = of_other refl
view protocol Est = of_other refl
view protocol Never = of_other refl

-- a place ahead of options isn't behind them
too_low : {A : Type 0} (least : ℕ) (t : Test) → 5 ≤ least → nat_le least (place_of t) ≡ true → nat_le (place_of t) 4 ≡ true → A
too_low least t low h k = (let a : least ≤ place_of t = leb-true least (place_of t) h in let b : place_of t ≤ 4 = leb-true (place_of t) 4 k in absurd (omega arith))

-- behind flags nothing is printed
none_behind : (protocol : ℕ) (lits : List Lit) → ascend 7 lits ≡ true → list_all (is_printed_literal protocol) lits ≡ true → lits ≡ []
none_behind protocol [] h printed = refl
none_behind protocol (lit ∷ lits) h printed = (let is = first protocol 7 lit lits h printed in by_view (view protocol lit.test) is.place is.test)
  where
    by_view : {t : Test} → View protocol t → nat_le 7 (place_of t) ≡ true → is_printed_test protocol t ≡ true → lit ∷ lits ≡ []
    by_view (of_type set) place test = never place
    by_view (of_flags mask) place test = never place
    by_view {t} (of_front low) place test = too_low 7 t (omega arith) place low
    by_view (of_other off) place test = never (sym off ∙ test)

-- behind a type under ICMP nothing is printed: flags ask for TCP
none_behind_type : (protocol : ℕ) → nat_eq protocol 1 ≡ true → (lits : List Lit) → ascend 6 lits ≡ true → list_all (is_printed_literal protocol) lits ≡ true → lits ≡ []
none_behind_type protocol icmp [] h printed = refl
none_behind_type protocol icmp (lit ∷ lits) h printed = (let is = first protocol 6 lit lits h printed in by_view (view protocol lit.test) is.place is.test)
  where
    by_view : {t : Test} → View protocol t → nat_le 6 (place_of t) ≡ true → is_printed_test protocol t ≡ true → lit ∷ lits ≡ []
    by_view (of_type set) place test = never place
    by_view (of_flags mask) place test =
        let a : protocol ≡ 1 = eqb-true protocol 1 icmp in
        let b : protocol ≡ 6 = eqb-true protocol 6 (and_parts (nat_eq protocol 6) (nat_eq mask 20) test).0 in
        absurd (omega arith)
    by_view {t} (of_front low) place test = too_low 6 t (omega arith) place low
    by_view (of_other off) place test = never (sym off ∙ test)

-- a printed type is one number
record IsType (protocol : ℕ) (set : List Iv) : Type 0 where
  icmp : nat_eq protocol 1 ≡ true
  short : first_number set ≤ 255
  same : set ≡ one (first_number set) (first_number set)

type_known : (protocol : ℕ) (set : List Iv) → is_printed_test protocol (Icmp set) ≡ true → IsType protocol set
type_known protocol [] h = never (sym (and_right (nat_eq protocol 1) false refl) ∙ h)
type_known protocol (iv ∷ []) h =
    let p = and_parts (nat_eq protocol 1) (nat_eq iv.lo iv.hi && nat_le iv.hi 255) h in
    let q = and_parts (nat_eq iv.lo iv.hi) (nat_le iv.hi 255) p.1 in
    let same : iv.lo ≡ iv.hi = eqb-true iv.lo iv.hi q.0 in
    let high : iv.hi ≤ 255 = leb-true iv.hi 255 q.1 in
    record { icmp = p.0; short = omega arith; same = ap (λ (hi : ℕ). one iv.lo hi) (sym same) }
type_known protocol (iv ∷ next ∷ set) h = never (sym (and_right (nat_eq protocol 1) false refl) ∙ h)

options : (protocol : ℕ) (lits : List Lit) → ascend 5 lits ≡ true → list_all (is_printed_literal protocol) lits ≡ true → AreOptions protocol lits
options protocol [] h printed = no_option
options protocol (lit ∷ lits) h printed = (let is = first protocol 5 lit lits h printed in by_view (view protocol lit.test) is.plain is.place is.test is.later is.others)
  where
    by_view : {t : Test} → View protocol t → lit ≡ positive t → nat_le 5 (place_of t) ≡ true → is_printed_test protocol t ≡ true → ascend (place_of t + 1) lits ≡ true
        → list_all (is_printed_literal protocol) lits ≡ true → AreOptions protocol (lit ∷ lits)
    by_view (of_type set) plain place test later others =
        let is = type_known protocol set test in
        subst (AreOptions protocol) (ap₂ (λ (x : Lit) (xs : List Lit). x ∷ xs) (sym (plain ∙ ap (λ s. positive (Icmp s)) is.same)) (sym (none_behind_type protocol is.icmp lits later others)))
        (one_type (first_number set) is.icmp is.short)
    by_view (of_flags mask) plain place test later others =
        let p = and_parts (nat_eq protocol 6) (nat_eq mask 20) test in
        subst (AreOptions protocol) (ap₂ (λ (x : Lit) (xs : List Lit). x ∷ xs) (sym (plain ∙ ap (λ m. positive (AnyFlag m)) (eqb-true mask 20 p.1))) (sym (none_behind protocol lits later others)))
        (established p.0)
    by_view {t} (of_front low) plain place test later others = too_low 5 t (omega arith) place low
    by_view (of_other off) plain place test later others = never (sym off ∙ test)

-- The whole condition

-- what is asked for at a place is printed
abbrev pub Printed : List Iv → Bool → Type 0
Printed set b = (set ≡ [] → ⊥) → b ≡ true

-- a printed condition, divided by what it asks for
pub record IsDivided (lits : List Lit) : Type 0 where
  pub proto : Printed (tested 0 lits) (is_number 255 (tested 0 lits))
  pub src : Printed (tested 1 lits) (is_block (tested 1 lits))
  pub sport : Printed (tested 2 lits) (is_port_protocol (protocol_tested lits) && is_range 65535 (tested 2 lits))
  pub dst : Printed (tested 3 lits) (is_block (tested 3 lits))
  pub dport : Printed (tested 4 lits) (is_port_protocol (protocol_tested lits) && is_range 65535 (tested 4 lits))
  pub rest : List Lit
  pub options : AreOptions (protocol_tested lits) rest
  pub divides : lits ≡ lits_at Proto (tested 0 lits) ++ (lits_at Src (tested 1 lits) ++ (lits_at Sport (tested 2 lits) ++ (lits_at Dst (tested 3 lits) ++ (lits_at Dport (tested 4 lits) ++ rest))))
  pub words : options_words lits ≡ options_words rest

pub divided : (lits : List Lit) → is_printed_cond lits ≡ true → IsDivided lits
unfolding test_at
divided lits h =
    let m = protocol_tested lits in
    let both = and_parts (ascend 0 lits) (list_all (is_printed_literal m) lits) h in
    let p0 = peel m 0 lits (omega arith) both.0 both.1 in
    let p1 = peel m 1 p0.rest (omega arith) p0.later p0.printed in
    let p2 = peel m 2 p1.rest (omega arith) p1.later p1.printed in
    let p3 = peel m 3 p2.rest (omega arith) p2.later p2.printed in
    let p4 = peel m 4 p3.rest (omega arith) p3.later p3.printed in
    let e1 : tested 1 lits ≡ tested 1 p0.rest = p0.others 1 (omega arith) in
    let e2 : tested 2 lits ≡ tested 2 p1.rest = p0.others 2 (omega arith) ∙ p1.others 2 (omega arith) in
    let e3 : tested 3 lits ≡ tested 3 p2.rest = p0.others 3 (omega arith) ∙ p1.others 3 (omega arith) ∙ p2.others 3 (omega arith) in
    let e4 : tested 4 lits ≡ tested 4 p3.rest = p0.others 4 (omega arith) ∙ p1.others 4 (omega arith) ∙ p2.others 4 (omega arith) ∙ p3.others 4 (omega arith) in
    record {
      proto = p0.own;
      src = λ some. ap is_block e1 ∙ p1.own (λ none. some (e1 ∙ none));
      sport = λ some. ap (λ s. is_port_protocol m && is_range 65535 s) e2 ∙ p2.own (λ none. some (e2 ∙ none));
      dst = λ some. ap is_block e3 ∙ p3.own (λ none. some (e3 ∙ none));
      dport = λ some. ap (λ s. is_port_protocol m && is_range 65535 s) e4 ∙ p4.own (λ none. some (e4 ∙ none));
      rest = p4.rest;
      options = options m p4.rest p4.later p4.printed;
      divides = p0.divides ∙ ap (λ (l : List Lit). lits_at Proto (tested 0 lits) ++ l)
          (moved Src 1 p0.rest p1.rest e1 p1.divides ∙ ap (λ (l : List Lit). lits_at Src (tested 1 lits) ++ l)
          (moved Sport 2 p1.rest p2.rest e2 p2.divides ∙ ap (λ (l : List Lit). lits_at Sport (tested 2 lits) ++ l)
          (moved Dst 3 p2.rest p3.rest e3 p3.divides ∙ ap (λ (l : List Lit). lits_at Dst (tested 3 lits) ++ l) (moved Dport 4 p3.rest p4.rest e4 p4.divides))));
      words = p0.words ∙ p1.words ∙ p2.words ∙ p3.words ∙ p4.words;
    }
  where
    moved : (test : List Iv → Test) (k : ℕ) (now rest : List Lit) → tested k lits ≡ tested k now → now ≡ lits_at test (tested k now) ++ rest → now ≡ lits_at test (tested k lits) ++ rest
    moved test k now rest e d = d ∙ ap (λ s. lits_at test s ++ rest) (sym e)
