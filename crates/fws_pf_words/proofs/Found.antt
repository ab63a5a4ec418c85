-- Places are found one by one.
use Rattle.std.proofs.Common.{◌≡◌, ℕ, zero, suc, ◌+◌, ◌<◌, ◌≤◌, Bool, true, false, nat_eq, cond, Option, Some, None, option_map, List, [], ◌∷◌, ◌++◌, length, length-append, get_or, arith, refl, sym, ap, ◌∙◌, subst, ⊎_elim, ◌⊎◌, inl, inr, eqb-true, eq-eqb}
use Rattle.std.specs.List.{list_any, IsDistinct}
use Rattle.std.specs.Option.{option_map_or}
use Rattle.std.specs.Str.{bytes_eq}
use Rattle.std.proofs.lemmas.Bool.{false≢true, or_cases, or_left, or_right}
use Rattle.std.proofs.lemmas.Cmp.{nat_eq_equiv}
use Rattle.std.proofs.lemmas.List.{get_or_append_left}
use Rattle.std.proofs.lemmas.List.Folds.{list_any-append}
use Rattle.std.proofs.lemmas.List.Quantifiers.{position-Some}
use Rattle.std.proofs.lemmas.Map.Keys.{IsDistinct-push}
use Rattle.std.proofs.lemmas.Map.Steps.{length-le_from_distinct_below}
use Rattle.std.proofs.Math.Seq.{get_or-append_seam}
use Rattle.fws_iv.specs.Ivs.{has}
use Rattle.fws_pf.specs.declared.tables.Table.{Table}
use Rattle.fws_pf.specs.Tables.{empty_table, table_named}
use Rattle.fws_pf_words.specs.Reached.{AreFound, IsClosure, IsPlace, IsReached, reaches, table_at, table_has, table_position, with_found, with_place, with_places}
use Rattle.fws_pf_words.proofs.Reaching.{named_at}

-- More tables on the way

any_more : (f g : List ℕ → Bool) → ((name : List ℕ) → f name ≡ true → g name ≡ true) → (names : List (List ℕ)) → list_any f names ≡ true → list_any g names ≡ true
any_more f g more [] h = absurd (false≢true h)
any_more f g more (name ∷ names) h =
    ⊎_elim (λ here. or_left (g name) (list_any g names) (more name here)) (λ rest. or_right (g name) (list_any g names) (any_more f g more names rest))
    (or_cases (f name) (list_any f names) h)

has_more : (f g : List ℕ → Bool) (v : ℕ) → ((name : List ℕ) → f name ≡ true → g name ≡ true) → (t : Table) → table_has f v t ≡ true → table_has g v t ≡ true
has_more f g v more t h =
    ⊎_elim (or_left (has t.own v) (list_any g t.named)) (λ rest. or_right (has t.own v) (list_any g t.named) (any_more f g more t.named rest))
    (or_cases (has t.own v) (list_any f t.named) h)

reaches_more : (tables : List Table) (v m n : ℕ) (name : List ℕ) → m ≤ n → reaches m tables v name ≡ true → reaches n tables v name ≡ true
reaches_more tables v zero n name le h = absurd (false≢true h)
reaches_more tables v (suc m) zero name le h = absurd (omega arith)
reaches_more tables v (suc m) (suc n) name le h = by (λ each. reaches_more tables v m n each (omega arith)) (table_named tables name) h
  where
    by : ((each : List ℕ) → reaches m tables v each ≡ true → reaches n tables v each ≡ true) → (t : Option Table) →
        option_map_or (table_has (reaches m tables v) v) t false ≡ true → option_map_or (table_has (reaches n tables v) v) t false ≡ true
    by more None h = absurd (false≢true h)
    by more (Some t) h = has_more (reaches m tables v) (reaches n tables v) v more t h

-- what the table of a name has, the name reaches
pub named_reaches : (tables : List Table) (name : List ℕ) (p m v : ℕ) → table_position tables name ≡ Some p → table_has (reaches m tables v) v (table_at tables p) ≡ true →
    reaches (suc m) tables v name ≡ true
named_reaches tables name p m v is h =
    ap (λ t. option_map_or (table_has (reaches m tables v) v) t false) (named_at tables name ∙ ap (option_map (table_at tables)) is) ∙ h

position_below : (tables : List Table) (name : List ℕ) (p : ℕ) → table_position tables name ≡ Some p → p < length tables
position_below tables name p is = (position-Some (λ (t : Table). bytes_eq t.name name) tables p (empty_table []) is).0

-- A place more

in_more : (places more : List ℕ) (p : ℕ) → IsPlace places p → IsPlace (places ++ more) p
in_more places more p on = list_any-append (nat_eq p) places more ∙ or_left (list_any (nat_eq p) places) (list_any (nat_eq p) more) on

in_last : (places : List ℕ) (p : ℕ) → IsPlace (places ++ p ∷ []) p
in_last places p =
    list_any-append (nat_eq p) places (p ∷ [])
    ∙ or_right (list_any (nat_eq p) places) (list_any (nat_eq p) (p ∷ [])) (or_left (nat_eq p p) false (eq-eqb p p refl))

pub in_longer : (P : ℕ → Type 0) (places : List ℕ) (p : ℕ) → ((q : ℕ) → IsPlace places q → P q) → P p → (q : ℕ) → IsPlace (places ++ p ∷ []) q → P q
in_longer P places p before last q on =
    ⊎_elim (before q) (λ end. ⊎_elim (λ same. subst P (sym (eqb-true q p same)) last) (λ none. absurd (false≢true none)) (or_cases (nat_eq q p) false end))
    (or_cases (list_any (nat_eq q) places) (list_any (nat_eq q) (p ∷ [])) (sym (list_any-append (nat_eq q) places (p ∷ [])) ∙ on))

found_grown : (tables : List Table) (old new : List ℕ) → ((q : ℕ) → IsPlace old q → IsPlace new q) → (names : List (List ℕ)) → AreFound tables old names → AreFound tables new names
found_grown tables old new grown [] f = tt
found_grown tables old new grown (name ∷ names) f = (λ p e. grown p (f.0 p e), found_grown tables old new grown names f.1)

before_or_last : (k : ℕ) (places : List ℕ) (p : ℕ) → k < length (places ++ p ∷ []) → (k < length places) ⊎ (k ≡ length places)
before_or_last k [] p lt = inr (omega arith)
before_or_last zero (q ∷ places) p lt = inl (omega arith)
before_or_last (suc k) (q ∷ places) p lt =
    ⊎_elim (λ less. inl (omega arith)) (λ same. inr (omega arith)) (before_or_last k places p (omega arith))

-- what a table reaches, the name reaches by way of n tables more
abbrev ReachesOn : List Table → List ℕ → ℕ → ℕ → Type 0
ReachesOn tables name p l = (m n v : ℕ) → m + l < n → table_has (reaches m tables v) v (table_at tables p) ≡ true → reaches n tables v name ≡ true

pushed : (tables : List Table) (name places : List ℕ) (next p : ℕ) → list_any (nat_eq p) places ≡ false → IsReached tables name places next → p < length tables →
    ReachesOn tables name p (length places) → IsReached tables name (places ++ p ∷ []) next
pushed tables name places next p new r lt on =
    let sized : length (places ++ p ∷ []) ≡ length places + 1 = length-append places (p ∷ []) in
    let room : next ≤ length places = r.room in
    record {
      distinct = IsDistinct-push nat_eq_equiv places p r.distinct new;
      below = in_longer (λ q. q < length tables) places p r.below lt;
      root = λ q e. in_more places (p ∷ []) q (r.root q e);
      closed = λ k less. let within : k < length places = omega arith in
          found_grown tables places (places ++ p ∷ []) (λ q. in_more places (p ∷ []) q) (table_at tables (get_or (places ++ p ∷ []) k 0)).named
          (subst (λ q. AreFound tables places (table_at tables q).named) (sym (get_or_append_left places (p ∷ []) 0 k within)) (r.closed k less));
      within = λ k m n v less bound h.
          ⊎_elim
          (λ before. r.within k m n v before bound
          (subst (λ q. table_has (reaches m tables v) v (table_at tables q) ≡ true) (get_or_append_left places (p ∷ []) 0 k before) h))
          (λ last. on m n v (omega arith)
          (subst (λ q. table_has (reaches m tables v) v (table_at tables q) ≡ true) (get_or-append_seam places p [] 0)
          (subst (λ i. table_has (reaches m tables v) v (table_at tables (get_or (places ++ p ∷ []) i 0)) ≡ true) last h)))
          (before_or_last k places p less);
      room = omega arith;
    }

-- A name more

-- what stays and what is there, after a name behind the place at the index
record Grown (tables : List Table) (name places : List ℕ) (next : ℕ) (t : Table) (new : List ℕ) : Type 0 where
  pub reached : IsReached tables name new next
  pub kept : (q : ℕ) → IsPlace places q → IsPlace new q
  pub here : table_at tables (get_or new next 0) ≡ t
  pub within : next < length new

same_grown : (tables : List Table) (name places : List ℕ) (next : ℕ) (t : Table) → IsReached tables name places next → table_at tables (get_or places next 0) ≡ t →
    next < length places → Grown tables name places next t places
same_grown tables name places next t r here lt = record { reached = r; kept = λ q on. on; here = here; within = lt }

one_grown : (tables : List Table) (name places : List ℕ) (next : ℕ) (t : Table) → IsReached tables name places next → table_at tables (get_or places next 0) ≡ t →
    next < length places → (o : Option ℕ) → ((p : ℕ) → o ≡ Some p → (p < length tables) × ReachesOn tables name p (suc next)) →
    Grown tables name places next t (with_found places o) × ((p : ℕ) → o ≡ Some p → IsPlace (with_found places o) p)
one_grown tables name places next t r here lt None known = (same_grown tables name places next t r here lt, λ p e. cc)
one_grown tables name places next t r here lt (Some p) known = by (list_any (nat_eq p) places) refl
  where
    by : (b : Bool) → list_any (nat_eq p) places ≡ b → Grown tables name places next t (cond b places (places ++ p ∷ []))
        × ((q : ℕ) → Some p ≡ Some q → IsPlace (cond b places (places ++ p ∷ [])) q)
    by true e = (same_grown tables name places next t r here lt, λ q is. let same : p ≡ q = cc in subst (λ x. IsPlace places x) same e)
    by false e =
        let more = known p refl in
        let sized : length (places ++ p ∷ []) ≡ length places + 1 = length-append places (p ∷ []) in
        let grown : Grown tables name places next t (places ++ p ∷ []) = record {
          reached = pushed tables name places next p e r more.0 (λ m n v bound h. more.1 m n v (omega arith) h);
          kept = λ q. in_more places (p ∷ []) q;
          here = ap (table_at tables) (get_or_append_left places (p ∷ []) 0 next lt) ∙ here;
          within = omega arith;
        } in
        (grown, λ q is. let same : p ≡ q = cc in subst (λ x. IsPlace (places ++ p ∷ []) x) same (in_last places p))

names_grown : (tables : List Table) (name : List ℕ) (next : ℕ) (t : Table) (names : List (List ℕ)) (places : List ℕ) → IsReached tables name places next →
    table_at tables (get_or places next 0) ≡ t → next < length places →
    ((m v : ℕ) → list_any (reaches m tables v) names ≡ true → list_any (reaches m tables v) t.named ≡ true) →
    Grown tables name places next t (with_places tables places names) × AreFound tables (with_places tables places names) names
names_grown tables name next t [] places r here lt part = (same_grown tables name places next t r here lt, tt)
names_grown tables name next t (each ∷ names) places r here lt part =
    let one = one_grown tables name places next t r here lt (table_position tables each)
    (λ p e. (
      position_below tables each p e,
      λ m n v bound h.
          r.within next (suc m) n v lt (omega arith)
          (ap (table_has (reaches (suc m) tables v) v) here
          ∙ or_right (has t.own v) (list_any (reaches (suc m) tables v) t.named)
          (part (suc m) v (or_left (reaches (suc m) tables v each) (list_any (reaches (suc m) tables v) names) (named_reaches tables each p m v e h)))),
    )) in
    let rest = names_grown tables name next t names (with_place tables places each) one.0.reached one.0.here one.0.within
    (λ m v h. part m v (or_right (reaches m tables v each) (list_any (reaches m tables v) names) h)) in
    let grown : Grown tables name places next t (with_places tables places (each ∷ names)) = record {
      reached = rest.0.reached;
      kept = λ q on. rest.0.kept q (one.0.kept q on);
      here = rest.0.here;
      within = rest.0.within;
    } in
    (grown, (λ p e. rest.0.kept p (one.1 p e), rest.1))

-- all that a table names is found
pub next_reached : (tables : List Table) (name places new : List ℕ) (next : ℕ) (t : Table) → IsReached tables name places next → next < length places →
    t ≡ table_at tables (get_or places next 0) → new ≡ with_places tables places t.named → IsReached tables name new (next + 1)
next_reached tables name places new next t r lt here is =
    let both = names_grown tables name next t t.named places r (sym here) lt (λ m v h. h) in
    let after : List ℕ = with_places tables places t.named in
    let less : next < length after = both.0.within in
    let made : IsReached tables name after (next + 1) = record {
      distinct = both.0.reached.distinct;
      below = both.0.reached.below;
      root = both.0.reached.root;
      closed = λ k bound. ⊎_elim (both.0.reached.closed k)
          (λ same. subst (λ i. AreFound tables after (table_at tables (get_or after i 0)).named) (sym same)
          (subst (λ (x : Table). AreFound tables after x.named) (sym both.0.here) both.1))
          (below_or_same k next (omega arith));
      within = both.0.reached.within;
      room = omega arith;
    } in
    subst (λ l. IsReached tables name l (next + 1)) (sym is) made
  where
    below_or_same : (a b : ℕ) → a < b + 1 → (a < b) ⊎ (a ≡ b)
    below_or_same zero zero lt = inr refl
    below_or_same zero (suc b) lt = inl (omega arith)
    below_or_same (suc a) zero lt = absurd (omega arith)
    below_or_same (suc a) (suc b) lt = ⊎_elim (λ less. inl (omega arith)) (λ same. inr (ap suc same)) (below_or_same a b (omega arith))

-- The first place

none_reached : (tables : List Table) (name : List ℕ) → table_position tables name ≡ None → IsReached tables name [] 0
unfolding IsDistinct
none_reached tables name none = record {
  distinct = tt;
  below = λ p on. absurd (false≢true on);
  root = λ p e. cc;
  closed = λ k lt. absurd (omega arith);
  within = λ k m n v lt. absurd (omega arith);
  room = omega arith;
}

one_reached : (tables : List Table) (name : List ℕ) (p : ℕ) → table_position tables name ≡ Some p → IsReached tables name (p ∷ []) 0
unfolding IsDistinct
one_reached tables name p is = record {
  distinct = (tt, tt);
  below = λ q on. ⊎_elim (λ here. subst (λ x. x < length tables) (sym (eqb-true q p here)) (position_below tables name p is)) (λ none. absurd (false≢true none)) (or_cases (nat_eq q p) false on);
  root = λ q e. let same : p ≡ q = cc in subst (λ x. IsPlace (p ∷ []) x) same (or_left (nat_eq p p) false (eq-eqb p p refl));
  closed = λ k lt. absurd (omega arith);
  within = λ k m n v lt bound h.
      let first : k ≡ 0 = omega arith in
      let here : get_or (p ∷ []) k 0 ≡ p = ap (λ i. get_or (p ∷ []) i 0) first in
      reaches_more tables v (suc m) n name (omega arith)
      (named_reaches tables name p m v is (subst (λ x. table_has (reaches m tables v) v (table_at tables x) ≡ true) here h));
  room = omega arith;
}

pub first_reached : (tables : List Table) (name new : List ℕ) → new ≡ with_place tables [] name → IsReached tables name new 0
first_reached tables name new is = subst (λ l. IsReached tables name l 0) (sym is) (by (table_position tables name) refl)
  where
    by : (o : Option ℕ) → table_position tables name ≡ o → IsReached tables name (with_found [] o) 0
    by None e = none_reached tables name e
    by (Some p) e = one_reached tables name p e

-- The last place

index_of : (places : List ℕ) (p : ℕ) → IsPlace places p → (k : ℕ) × (k < length places) × (get_or places k 0 ≡ p)
index_of [] p on = absurd (false≢true on)
index_of (q ∷ places) p on =
    ⊎_elim (λ here. let first : 0 < length (q ∷ places) = omega arith in (0, first, sym (eqb-true p q here)))
    (λ more. let at = index_of places p more in let lt : suc at.0 < length (q ∷ places) = let less : at.0 < length places = at.1 in omega arith in (suc at.0, lt, at.2))
    (or_cases (nat_eq p q) (list_any (nat_eq p) places) on)

pub in_at : (places : List ℕ) (k : ℕ) → k < length places → IsPlace places (get_or places k 0)
in_at [] k lt = absurd (omega arith)
in_at (q ∷ places) zero lt = or_left (nat_eq q q) (list_any (nat_eq q) places) (eq-eqb q q refl)
in_at (q ∷ places) (suc k) lt = or_right (nat_eq (get_or places k 0) q) (list_any (nat_eq (get_or places k 0)) places) (in_at places k (omega arith))

-- there are no more places than tables
pub no_more_than_tables : (tables : List Table) (name places : List ℕ) (next : ℕ) → IsReached tables name places next → length places ≤ length tables
no_more_than_tables tables name places next r = length-le_from_distinct_below places (length tables) r.distinct r.below

pub all_reached : (tables : List Table) (name places : List ℕ) (next : ℕ) → IsReached tables name places next → length places ≤ next → IsClosure tables name places
all_reached tables name places next r le = record {
  below = r.below;
  root = r.root;
  closed = λ p on. let at = index_of places p on in
      let less : at.0 < length places = at.1 in
      subst (λ q. AreFound tables places (table_at tables q).named) at.2 (r.closed at.0 (omega arith));
  within = λ p v on h. let at = index_of places p on in
      let less : at.0 < length places = at.1 in
      let few : length places ≤ length tables = no_more_than_tables tables name places next r in
      r.within at.0 0 (length tables) v less (omega arith)
      (subst (λ q. table_has (reaches 0 tables v) v (table_at tables q) ≡ true) (sym at.2)
      (or_left (has (table_at tables p).own v) (list_any (reaches 0 tables v) (table_at tables p).named) h));
}

-- What the code shows of these

pub next_below : (tables shown : List Table) (name places keys : List ℕ) (next : ℕ) → IsReached tables name places next → keys ≡ places → shown ≡ tables →
    next < length places → get_or keys next 0 < length shown
next_below tables shown name places keys next r k s lt =
    subst (λ (ts : List Table). get_or keys next 0 < length ts) (sym s) (subst (λ (l : List ℕ). get_or l next 0 < length tables) (sym k) (r.below (get_or places next 0) (in_at places next lt)))

pub goes_on : (tables shown : List Table) (name places keys new : List ℕ) (names : List (List ℕ)) (next : ℕ) (t : Table) → IsReached tables name places next →
    next < length places → keys ≡ places → shown ≡ tables → t ≡ table_at shown (get_or keys next 0) → names ≡ t.named → new ≡ with_places tables places names →
    IsReached tables name new (next + 1)
goes_on tables shown name places keys new names next t r lt k s is n e =
    next_reached tables name places new next t r lt (is ∙ ap (λ (l : List ℕ). table_at shown (get_or l next 0)) k ∙ ap (λ (ts : List Table). table_at ts (get_or places next 0)) s)
    (e ∙ ap (with_places tables places) n)
