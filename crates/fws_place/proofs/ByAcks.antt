-- Points that flags tell apart though ACK and RST are the same.
use Rattle.std.proofs.Common.{◌≡◌, ℕ, Bool, true, false, ◌&&◌, ◌||◌, not, Option, Some, None, List, [], ◌∷◌, inl, inr, refl, sym, ◌∙◌, ap, arith, subst, get_or, MatchOption}
use Rattle.std.proofs.lemmas.Bool.{and_from, and_left, and_parts, and_right, cases_lt, eq-eqb, le-leb, lt-leb, ne_eqb, not-true, not_from_false}
use Rattle.std.specs.Prelude.{nat_eq, nat_le, slice_index, if◌then◌else◌}
use Rattle.fws_iv.specs.declared.iv.Iv.{Iv}
use Rattle.fws_iv.specs.Ivs.{has}
use Rattle.fws_box.specs.Sides.{IsWithin}
use Rattle.fws_net.specs.declared.site.Site.{Site}
use Rattle.fws_net.specs.Points.{tops_of}
use Rattle.fws_tree.specs.Changed.{Agree}
use Rattle.fws_tree.specs.Plain.{Plain, value}
use Rattle.fws_place.specs.Apart.{flags_alone, AreTrueNear, NoneTrueNear}
use Rattle.fws_place.specs.ByAck.{acknowledges, acknowledges_as, arrives_at, is_found, AreAheadAt, AreFalseNear, AreToldByMore, flags_pass, IsArrivingWith, IsFalseWith, NoneFalseNear, IsFirstWithAck}
use Rattle.fws_place.proofs.FieldSides.{kept_back, kept_true}
use Rattle.fws_place.proofs.PairPoints.{within_top}
use Rattle.fws_place.proofs.Passing.{from_one}
use Rattle.fws_place.proofs.Viewing.{some_once}
use Rattle.fws_place.specs.Kept.{IsKeptWhere}

-- of points that agree in all but flags either both arrive or neither
pub both_arrive : (p q : List ℕ) → Agree flags_alone p q → arrives_at p ≡ true → arrives_at q ≡ true
both_arrive p q near e = ap (λ x. not (nat_eq x 0)) (sym (near 0 refl)) ∙ e

-- Flags that tell more

false_there : (asked : Bool) (tops : List ℕ) (t second : Plain Bool) → IsFalseWith asked tops t second → (q : List ℕ) → IsWithin tops q → value second q ≡ Some true
    → (flags_pass asked q ≡ true) × (value t q ≡ Some false)
false_there asked tops t second se q v e =
    let here = se q v in
    let c = kept_true (flags_pass asked q) (Some (not here.0)) (value second q) here.2 e in
    (c.0, here.1 ∙ ap Some (not-true here.0 (some_once (not here.0) true c.1)))

false_back : (asked : Bool) (tops : List ℕ) (t second : Plain Bool) → IsFalseWith asked tops t second → (q : List ℕ) → IsWithin tops q → flags_pass asked q ≡ true → value t q ≡ Some false
    → value second q ≡ Some true
false_back asked tops t second se q v flags e =
    let here = se q v in
    kept_back (flags_pass asked q) (Some (not here.0)) (value second q) here.2 flags (ap Some (not_from_false here.0 (some_once here.0 false (sym here.1 ∙ e))))

-- what was found where the one tree is true and the other false
pub false_sought : (asked : Bool) (tops others : List ℕ) (t u second : Plain Bool) → others ≡ tops → IsFalseWith asked tops u second → (found : Option (List ℕ × List ℕ))
    → MatchOption found (NoneTrueNear flags_alone others t second) (λ pair. AreTrueNear flags_alone others t second pair.0 pair.1)
    → MatchOption found (NoneFalseNear asked tops t u) (λ pair. AreFalseNear asked tops t u pair.0 pair.1)
false_sought asked tops others t u second e se None h = λ p q near.
    let none : NoneTrueNear flags_alone tops t second = subst (λ ts. NoneTrueNear flags_alone ts t second) e h in
    none p q (record { first = near.first; second = (near.within, false_back asked tops u second se q near.within near.flags near.second); near = near.near })
false_sought asked tops others t u second e se (Some pair) h =
    let near : AreTrueNear flags_alone tops t second pair.0 pair.1 = subst (λ ts. AreTrueNear flags_alone ts t second pair.0 pair.1) e h in
    let c = false_there asked tops u second se pair.1 near.second.0 near.second.1 in
    record { first = near.first; within = near.second.0; second = c.1; flags = c.0; near = near.near }

-- what was found
pub told_sought : (asked : Bool) (tops : List ℕ) (t first : Plain Bool) → IsArrivingWith asked tops t first → (found : Option (List ℕ × List ℕ))
    → MatchOption found (NoneFalseNear asked tops first t) (λ pair. AreFalseNear asked tops first t pair.0 pair.1)
    → MatchOption found ((p q : List ℕ) → AreToldByMore asked tops t p q → ⊥) (λ pair. AreToldByMore asked tops t pair.0 pair.1)
told_sought asked tops t first fi None none = λ p q h.
    let w = h.first.0 in
    let arriving : Option Bool = if arrives_at p then value t p else Some false in
    none p q (record {
      first = (w, kept_back (flags_pass asked p) arriving (value first p) (fi p w) h.flags (kept_back (arrives_at p) (value t p) arriving refl h.arrives h.first.1));
      within = h.within;
      second = h.second;
      flags = h.other_flags;
      near = h.near;
    })
told_sought asked tops t first fi (Some pair) h =
    let p : List ℕ = pair.0 in
    let w = h.first.0 in
    let arriving : Option Bool = if arrives_at p then value t p else Some false in
    let a = kept_true (flags_pass asked p) arriving (value first p) (fi p w) h.first.1 in
    let b = kept_true (arrives_at p) (value t p) arriving refl a.1 in
    record {
      first = (w, b.1);
      within = h.within;
      second = h.second;
      arrives = b.0;
      flags = a.0;
      other_flags = h.flags;
      near = h.near;
    }

-- either as it is asked
pub told_either : (tops : List ℕ) (t : Plain Bool) (found : Option (List ℕ × List ℕ)) → ((p q : List ℕ) → AreToldByMore true tops t p q → ⊥)
    → MatchOption found ((p q : List ℕ) → AreToldByMore false tops t p q → ⊥) (λ pair. AreToldByMore false tops t pair.0 pair.1)
    → MatchOption found ((asked : Bool) (p q : List ℕ) → AreToldByMore asked tops t p q → ⊥) (λ pair. (asked : Bool) × AreToldByMore asked tops t pair.0 pair.1)
told_either tops t None none h = by
  where
    by : (asked : Bool) (p q : List ℕ) → AreToldByMore asked tops t p q → ⊥
    by true p q = none p q
    by false p q = h p q
told_either tops t (Some pair) none h = (false, h)

-- Packets that are accepted without ACK and RST

pub ahead_sought : (site : Site) (sometimes new first : Plain Bool) → IsFirstWithAck site sometimes new first → (found : Option (List ℕ × List ℕ))
    → MatchOption found (NoneFalseNear false (tops_of site) first sometimes) (λ pair. AreFalseNear false (tops_of site) first sometimes pair.0 pair.1)
    → MatchOption found ((p q : List ℕ) → AreAheadAt site sometimes new p q → ⊥) (λ pair. AreAheadAt site sometimes new pair.0 pair.1)
ahead_sought site sometimes new first fi None none = λ p q h.
    let w = h.first.0 in
    let here = fi p w in
    let test : Bool = nat_eq (slice_index p 1) 6 && is_found site (slice_index p 2) in
    let alone : Option Bool = Some (here.0 && not here.1) in
    let such : Option Bool = if arrives_at p && test then alone else Some false in
    let on : here.0 ≡ true = some_once here.0 true (sym here.2 ∙ h.first.1) in
    let off : here.1 ≡ false = some_once here.1 false (sym here.3 ∙ h.dropped) in
    none p q (record {
      first = (
        w,
        kept_back (flags_pass true p) such (value first p) here.4 h.flags
            (kept_back (arrives_at p && test) alone such refl
            (and_from (arrives_at p) test h.arrives (and_from (nat_eq (slice_index p 1) 6) (is_found site (slice_index p 2)) h.tcp h.found))
            (ap Some (and_from here.0 (not here.1) on (not_from_false here.1 off)))),
      );
      within = h.within;
      second = h.never;
      flags = not_from_false (acknowledges (slice_index q 6)) h.other_flags;
      near = h.near;
    })
ahead_sought site sometimes new first fi (Some pair) h =
    let p : List ℕ = pair.0 in
    let w = h.first.0 in
    let here = fi p w in
    let test : Bool = nat_eq (slice_index p 1) 6 && is_found site (slice_index p 2) in
    let alone : Option Bool = Some (here.0 && not here.1) in
    let such : Option Bool = if arrives_at p && test then alone else Some false in
    let a = kept_true (flags_pass true p) such (value first p) here.4 h.first.1 in
    let b = kept_true (arrives_at p && test) alone such refl a.1 in
    let tests = and_parts (arrives_at p) test b.0 in
    let more = and_parts (nat_eq (slice_index p 1) 6) (is_found site (slice_index p 2)) tests.1 in
    let both = and_parts here.0 (not here.1) (some_once (here.0 && not here.1) true b.1) in
    record {
      first = (w, here.2 ∙ ap Some both.0);
      dropped = here.3 ∙ ap Some (not-true here.1 both.1);
      within = h.within;
      never = h.second;
      arrives = tests.0;
      tcp = more.0;
      found = more.1;
      flags = a.0;
      other_flags = not-true (acknowledges (slice_index pair.1 6)) h.flags;
      near = h.near;
    }

-- one test of both
pub both_tests : (a c d : Bool) (x y z : Option Bool) → y ≡ (if c && d then x else Some false) → z ≡ (if a then y else Some false) → z ≡ (if a && (c && d) then x else Some false)
both_tests true c d x y z e f = f ∙ e
both_tests false c d x y z e f = f

-- a set of values of a field as a test of points
pub kept_where : (tops others : List ℕ) → others ≡ tops → (test : List ℕ → Bool) (f : ℕ) (set : List Iv) (t u : Plain Bool)
    → ((q : List ℕ) → IsWithin tops q → has set (slice_index q f) ≡ test q)
    → ((q : List ℕ) → IsWithin others q → value u q ≡ (if has set (slice_index q f) then value t q else Some false)) → IsKeptWhere tops test t u
kept_where tops others e test f set t u same kept q w =
    kept q (subst (λ ts. IsWithin ts q) (sym e) w) ∙ ap (λ b. if b then value t q else Some false) (same q w)

-- the entries of packets that arrive
pub entries_are : (site : Site) (set : List Iv) (tops : List ℕ) → tops ≡ tops_of site → set ≡ record { lo = 1; hi = get_or tops 0 0 } ∷ [] → (q : List ℕ) → IsWithin (tops_of site) q
    → has set (slice_index q 0) ≡ arrives_at q
entries_are site set tops same is q w =
    let from : List ℕ → List Iv = λ ts. record { lo = 1; hi = get_or ts 0 0 } ∷ [] in
    ap (λ s. has s (slice_index q 0)) (is ∙ ap from same) ∙ from_one (slice_index q 0) (get_or (tops_of site) 0 0) (within_top (tops_of site) q 0 w (omega arith))

-- a range of one number
one_number : (e m : ℕ) → (nat_le m e && nat_le e m) ≡ nat_eq e m
one_number e m = elim (cases_lt e m) [
  | inl less ↦ and_left (nat_le m e) (nat_le e m) (lt-leb m e less) ∙ sym (ne_eqb e m (λ same. omega (arith, same, less)))
  | inr late ↦ elim (cases_lt m e) [
    | inl more ↦ and_right (nat_le m e) (nat_le e m) (lt-leb e m more) ∙ sym (ne_eqb e m (λ same. omega (arith, same, more)))
    | inr last ↦
        let same : e ≡ m = omega arith in
        ap (λ x. x && nat_le e m) (le-leb m e late) ∙ le-leb e m last ∙ sym (eq-eqb e m same)
  ]
]

-- one number alone
pub one_is : (n : ℕ) (set : List Iv) (x : ℕ) → set ≡ record { lo = n; hi = n } ∷ [] → has set x ≡ nat_eq x n
one_is n set x is = ap (λ s. has s x) is ∙ alone (nat_le n x && nat_le x n) ∙ one_number x n
  where
    alone : (b : Bool) → (b || false) ≡ b
    alone true = refl
    alone false = refl

-- two sets one after the other
pub kept_twice : (c d e f : Bool) (x y z : Option Bool) → e ≡ c → f ≡ d → y ≡ (if f then x else Some false) → z ≡ (if e then y else Some false) → z ≡ (if c && d then x else Some false)
kept_twice true d e f x y z same also first second =
    second ∙ ap (λ b. if b then y else Some false) same ∙ first ∙ ap (λ b. if b then x else Some false) also
kept_twice false d e f x y z same also first second = second ∙ ap (λ b. if b then y else Some false) same

-- and what is kept of a tree that is made of two
pub kept_there : (a : Bool) (s n b v : Option Bool) (f : Bool → Bool → Option Bool) → (x : Bool) × (y : Bool) × (s ≡ Some x) × (n ≡ Some y) × (b ≡ f x y)
    → v ≡ (if a then b else Some false) → (x : Bool) × (y : Bool) × (s ≡ Some x) × (n ≡ Some y) × (v ≡ (if a then f x y else Some false))
kept_there a s n b v f told last = (told.0, told.1, told.2, told.3, last ∙ ap (λ x. if a then x else Some false) told.4)

-- and of the other one of a tree
pub other_there : (a : Bool) (t m v : Option Bool) → (x : Bool) × (t ≡ Some x) × (m ≡ Some (not x)) → v ≡ (if a then m else Some false)
    → (x : Bool) × (t ≡ Some x) × (v ≡ (if a then Some (not x) else Some false))
other_there a t m v other last = (other.0, other.1, last ∙ ap (λ x. if a then x else Some false) other.2)
