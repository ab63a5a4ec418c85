-- Which uses are noted.
use Rattle.std.proofs.Common.{◌≡◌, ◌≢◌, ℕ, zero, suc, ◌+◌, ◌-◌, ◌<◌, ◌≤◌, Bool, true, false, cond, ◌&&◌, ◌||◌, not, nat_eq, nat_lt, Option, Some, None, option_map, All, List, [], ◌∷◌, get_or, length, set, take, slice_get, inl, inr, ◌⊎◌, refl, sym, ◌∙◌, ap, subst, arith}
use Rattle.std.specs.List.{list_any}
use Rattle.std.proofs.lemmas.Bool.{cases_Bool, and_parts, eqb-true, eqb-false, ne_eqb, true≢false, false≢true}
use Rattle.std.proofs.lemmas.List.Elements.{All-head, All-tail}
use Rattle.std.proofs.lemmas.List.{get_or_default, get_or-set_same, get_or-set_other, length-set}
use Rattle.std.proofs.lemmas.Option.{same_Some, slice_get-get_or, slice_get_past}
use borrow.Author.Tests.{ltb-true}
use Rattle.fws_flat.specs.declared.code.Ins.{Ins}
use Rattle.fws_net.specs.declared.view.View.{View}
use Rattle.fws_net.specs.Conditions.{holds}
use Rattle.fws_tree.specs.declared.mark.Mark.{Mark}
use Rattle.fws_tree.specs.declared.touch.Touch.{Touch}
use Rattle.fws_tree.specs.Marks.{mark_at}
use Rattle.fws_tree.specs.Touched.{AreAllTold, IsTouch}
use Rattle.fws_exec.specs.declared.progress.Progress.{Progress}
use Rattle.fws_exec.specs.declared.sheet.Sheet.{Sheet}
use Rattle.fws_exec.specs.Courses.{Tells}
use Rattle.fws_exec.specs.Divided.{says_at, says_from, AreNoted, AreSet, IsSaid}
use Rattle.fws_exec.specs.Runs.{numbered}
use Rattle.fws_exec.specs.Sheets.{among, IsSheet}
use Rattle.fws_exec.proofs.Listing.{any_more}
use Rattle.fws_exec.proofs.Putting.{not_below}
use Rattle.fws_exec.proofs.Telling.{tells_same}

-- nothing is to be noted of instructions that were reached, or aren't asked for
pub noted_known : (says : ℕ → ℕ → Bool) (A : ℕ → Bool) (label : Progress → List ℕ → ℕ) (s : Sheet)
    → ((k : ℕ) (g : Progress) (p : List ℕ) → says (label g p) k ≡ true → slice_get s.reached.items k ≢ Some false) → AreNoted says A label s s
noted_known says A label s known = record { noted = λ k m. known k m.1.progress m.0 m.5; tells = tells_same s.reached.items (IsSaid says A label s) }

-- numbers of a run name its instructions
number_within : (n : ℕ) (code : List Ins) (v : View) → (numbered n v code ≡ 0) ⊎ ((n ≤ numbered n v code) × (numbered n v code < n + length code))
number_within n [] v = inl refl
number_within n (ins ∷ code) v = elim (cases_Bool (holds ins.cond v)) [
  | inl met ↦ (let is : numbered n v (ins ∷ code) ≡ n = ap (λ b. cond b n (numbered (n + 1) v code)) met in inr (omega arith, omega arith))
  | inr miss ↦ (
      let is : numbered n v (ins ∷ code) ≡ numbered (n + 1) v code = ap (λ b. cond b n (numbered (n + 1) v code)) miss in
      elim (number_within (n + 1) code v) [
        | inl none ↦ inl (is ∙ none)
        | inr range ↦ (let low = range.0 in let high = range.1 in inr (omega arith, omega arith))
      ])
]

pub said_within : (place past : ℕ) (code : List Ins) (v : View) (k : ℕ) → length code ≡ past - place → says_from place (numbered 1 v code) k ≡ true → (place ≤ k) × (k < past)
said_within place past code v k long said =
    let parts = and_parts (not (nat_eq (numbered 1 v code) 0)) (nat_eq k (place + (numbered 1 v code - 1))) said in
    let is : k ≡ place + (numbered 1 v code - 1) = eqb-true k (place + (numbered 1 v code - 1)) parts.1 in
    elim (number_within 1 code v) [
      | inl none ↦ absurd (true≢false (sym parts.0 ∙ ap (λ n. not (nat_eq n 0)) none))
      | inr range ↦ (let low = range.0 in let high = range.1 in (omega arith, omega arith))
    ]

-- Truth values that are set

set_none : (o : Option Bool) → option_map {T = Bool} (λ b. true) o ≡ Some false → ⊥
set_none None e = let no : None ≡ Some false = e in cc
set_none (Some b) e = true≢false (same_Some true false e)

pub set_tells : (test : ℕ → Bool) (old new : List Bool) (meets : ℕ → Type 0) → AreSet test old new → length new ≡ length old → ((k : ℕ) → test k ≡ true → meets k) → Tells old new meets
set_tells test old new meets is long met = record { count = long; opens = opens; found = found }
  where
    opens : (k : ℕ) → slice_get new k ≡ Some false → slice_get old k ≡ Some false
    opens k free = by (test k) (sym (is k) ∙ free)
      where
        by : (b : Bool) → cond b (option_map {T = Bool} (λ c. true) (slice_get old k)) (slice_get old k) ≡ Some false → slice_get old k ≡ Some false
        by true h = absurd (set_none (slice_get old k) h)
        by false h = h

    found : (k : ℕ) → slice_get new k ≡ Some true → (slice_get old k ≡ Some true) ⊎ ((slice_get old k ≡ Some false) × meets k)
    found k got = by (test k) (met k) (slice_get old k) refl (sym (is k) ∙ got)
      where
        by : (b : Bool) → (b ≡ true → meets k) → (o : Option Bool) → slice_get old k ≡ o → cond b (option_map {T = Bool} (λ c. true) (slice_get old k)) (slice_get old k) ≡ Some true → (slice_get old k ≡ Some true) ⊎ ((slice_get old k ≡ Some false) × meets k)
        by true m None e h = absurd (let no : option_map {T = Bool} (λ c. true) None ≡ Some true = ap (option_map {T = Bool} (λ c. true)) (sym e) ∙ h in let never : None ≡ Some true = no in cc)
        by true m (Some true) e h = inl e
        by true m (Some false) e h = inr (e, m refl)
        by false m o e h = inl h

pub set_known : (test : ℕ → Bool) (old new : List Bool) (k : ℕ) → AreSet test old new → test k ≡ true → slice_get new k ≢ Some false
set_known test old new k is t free = set_none (slice_get old k) (sym (is k ∙ ap (λ b. cond b (option_map {T = Bool} (λ c. true) (slice_get old k)) (slice_get old k)) t) ∙ free)

-- one is set
pub set_one : (xs : List Bool) (place : ℕ) → place < length xs → AreSet (λ k. nat_eq k place) xs (set xs place true)
set_one xs place lt k = elim (cases_Bool (nat_eq k place)) [
  | inl here ↦ (
      let long : length (set xs place true) ≡ length xs = length-set xs place true in
      let is : k ≡ place = eqb-true k place here in
      ap (λ j. slice_get (set xs place true) j) is ∙ slice_get-get_or (set xs place true) place true (omega arith) ∙ ap Some (get_or-set_same xs place true true lt)
      ∙ sym (ap (λ b. cond b (option_map {T = Bool} (λ c. true) (slice_get xs k)) (slice_get xs k)) here ∙ ap (λ j. option_map {T = Bool} (λ c. true) (slice_get xs j)) is ∙ ap (option_map {T = Bool} (λ c. true)) (slice_get-get_or xs place true lt)))
  | inr away ↦ other (eqb-false k place away) ∙ sym (ap (λ b. cond b (option_map {T = Bool} (λ c. true) (slice_get xs k)) (slice_get xs k)) away)
]
  where
    other : k ≢ place → slice_get (set xs place true) k ≡ slice_get xs k
    other d =
        let long : length (set xs place true) ≡ length xs = length-set xs place true in
        elim (cases_Bool (nat_lt k (length xs))) [
          | inl t ↦ (let within : k < length xs = ltb-true k (length xs) t in
              slice_get-get_or (set xs place true) k true (omega arith) ∙ ap Some (get_or-set_other xs place k true true d) ∙ sym (slice_get-get_or xs k true within))
          | inr f ↦ (let past : length xs ≤ k = not_below k (length xs) f in
              slice_get_past (set xs place true) k (omega arith) ∙ sym (slice_get_past xs k past))
        ]

-- none is set
pub set_past : (xs : List Bool) (place : ℕ) → length xs ≤ place → AreSet (λ k. nat_eq k place) xs xs
set_past xs place past k = elim (cases_Bool (nat_eq k place)) [
  | inl here ↦ (
      let is : k ≡ place = eqb-true k place here in
      let none : slice_get xs k ≡ None = slice_get_past xs k (omega arith) in
      none ∙ sym (ap (λ b. cond b (option_map {T = Bool} (λ c. true) (slice_get xs k)) (slice_get xs k)) here ∙ ap (option_map {T = Bool} (λ c. true)) none))
  | inr away ↦ sym (ap (λ b. cond b (option_map {T = Bool} (λ c. true) (slice_get xs k)) (slice_get xs k)) away)
]

pub set_same : (test : ℕ → Bool) (xs : List Bool) → ((k : ℕ) → test k ≡ false) → AreSet test xs xs
set_same test xs none k = sym (ap (λ b. cond b (option_map {T = Bool} (λ c. true) (slice_get xs k)) (slice_get xs k)) (none k))

-- some are set, and then others
pub set_both : (f g h : ℕ → Bool) (old mid new : List Bool) → ((k : ℕ) → h k ≡ (f k || g k)) → AreSet f old mid → AreSet g mid new → AreSet h old new
set_both f g h old mid new parts first second k =
    second k ∙ by (f k) (g k) (slice_get old k) (slice_get mid k) (first k) ∙ ap (λ b. cond b (option_map {T = Bool} (λ c. true) (slice_get old k)) (slice_get old k)) (sym (parts k))
  where
    twice : (o : Option Bool) → option_map {T = Bool} (λ c. true) (option_map {T = Bool} (λ c. true) o) ≡ option_map {T = Bool} (λ c. true) o
    twice None = refl
    twice (Some b) = refl

    by : (a b : Bool) (o m : Option Bool) → m ≡ cond a (option_map {T = Bool} (λ c. true) o) o → cond b (option_map {T = Bool} (λ c. true) m) m ≡ cond (a || b) (option_map {T = Bool} (λ c. true) o) o
    by true true o m e = ap (option_map {T = Bool} (λ c. true)) e ∙ twice o
    by true false o m e = e
    by false true o m e = ap (option_map {T = Bool} (λ c. true)) e
    by false false o m e = e

-- those are set that one more touch says
pub set_more : (place : ℕ) (ts : List Touch) (n : ℕ) (other : Touch) (old mid new : List Bool) → n < length ts
    → AreSet (λ k. list_any (λ t. says_from place t.label k) (take n ts)) old mid → AreSet (says_from place (get_or ts n other).label) mid new
    → AreSet (λ k. list_any (λ t. says_from place t.label k) (take (n + 1) ts)) old new
set_more place ts n other old mid new lt first second =
    set_both (λ k. list_any (λ t. says_from place t.label k) (take n ts)) (says_from place (get_or ts n other).label) (λ k. list_any (λ t. says_from place t.label k) (take (n + 1) ts)) old mid new
    (λ k. any_more (λ t. says_from place t.label k) ts n (get_or ts n other) lt (get_or_default ts n other (get_or ts n other) lt)) first second

-- What touches tell

-- a touch that passes a test
any_at : (f : Touch → Bool) (ts : List Touch) (j : ℕ) (t : Touch) → slice_get ts j ≡ Some t → f t ≡ true → list_any f ts ≡ true
any_at f [] j t got h = let no : None ≡ Some t = sym (slice_get_past {X = Touch} [] j (omega arith)) ∙ got in cc
any_at f (x ∷ ts) zero t got h = ap (λ b. b || list_any f ts) (ap f (same_Some x t got) ∙ h)
any_at f (x ∷ ts) (suc j) t got h = ap (λ b. f x || b) (any_at f ts j t got h) ∙ or_true (f x)
  where
    or_true : (a : Bool) → (a || true) ≡ true
    or_true true = refl
    or_true false = refl

any_found : (P : Touch → Type 0) (f : Touch → Bool) (ts : List Touch) → All P ts → list_any f ts ≡ true → (t : Touch) × P t × (f t ≡ true)
any_found P f [] all h = absurd (false≢true h)
any_found P f (t ∷ ts) all h = by (λ k. any_found P f ts (All-tail P t ts all) k) (f t) refl h
  where
    by : (list_any f ts ≡ true → (u : Touch) × P u × (f u ≡ true)) → (b : Bool) → f t ≡ b → (b || list_any f ts) ≡ true → (u : Touch) × P u × (f u ≡ true)
    by rest true e k = (t, All-head P t ts all, e)
    by rest false e k = rest k

-- a label of a touch says what the marks say at its point
touch_said : (says : ℕ → ℕ → Bool) (s : Sheet) (numbers : List ℕ) (marks : List Mark) (k : ℕ) (t : Touch) → IsSheet s → IsTouch s.canvas numbers marks t → says t.label k ≡ true → IsSaid says (among numbers) (λ g p. mark_at marks 0 p) s k
touch_said says s numbers marks k t sheet touch said =
    let used = sheet.used t.point touch.0 in
    (t.point, used.0, touch.0, used.1, touch.1, ap (λ l. says l k) touch.2 ∙ said)

-- labels of a run that touches told of are noted
pub run_noted : (place : ℕ) (numbers : List ℕ) (marks : List Mark) (ts : List Touch) (old new : Sheet) → IsSheet old → AreAllTold old.canvas numbers marks ts → All (λ t. IsTouch old.canvas numbers marks t) ts
    → AreSet (λ k. list_any (λ t. says_from place t.label k) ts) old.reached.items new.reached.items → length new.reached.items ≡ length old.reached.items
    → AreNoted (says_from place) (among numbers) (λ g p. mark_at marks 0 p) old new
run_noted place numbers marks ts old new sheet told found is long = record {
  noted = λ k m. (
      let label = mark_at marks 0 m.0 in
      let parts = and_parts (not (nat_eq label 0)) (nat_eq k (place + (label - 1))) m.5 in
      let touch = told m.0 m.2 m.4 (λ none. true≢false (sym parts.0 ∙ ap (λ n. not (nat_eq n 0)) none)) in
      set_known (λ j. list_any (λ t. says_from place t.label j) ts) old.reached.items new.reached.items k is
      (any_at (λ t. says_from place t.label k) ts touch.0 touch.1 touch.2 (ap (λ l. says_from place l k) touch.3 ∙ m.5)));
  tells = set_tells (λ j. list_any (λ t. says_from place t.label j) ts) old.reached.items new.reached.items (IsSaid (says_from place) (among numbers) (λ g p. mark_at marks 0 p) old) is long
      (λ k t. (
      let one = any_found (λ u. IsTouch old.canvas numbers marks u) (λ u. says_from place u.label k) ts found t in
      touch_said (says_from place) old numbers marks k one.0 sheet one.1 one.2));
}

pub nothing_told : (ts : List Touch) → length ts ≡ 0 → ts ≡ []
nothing_told [] none = refl
nothing_told (t ∷ ts) none = absurd (omega arith)

-- no touch tells of a use
pub none_noted : (place : ℕ) (numbers : List ℕ) (marks : List Mark) (ts : List Touch) (old new : Sheet) → ts ≡ [] → AreAllTold old.canvas numbers marks ts → new.reached.items ≡ old.reached.items
    → AreNoted (says_at place) (among numbers) (λ g p. mark_at marks 0 p) old new
none_noted place numbers marks ts old new none told same = record {
  noted = λ k m. (
      let label = mark_at marks 0 m.0 in
      let parts = and_parts (not (nat_eq label 0)) (nat_eq k place) m.5 in
      let touch = told m.0 m.2 m.4 (λ e. true≢false (sym parts.0 ∙ ap (λ n. not (nat_eq n 0)) e)) in
      λ free. (let no : None ≡ Some touch.1 = sym (slice_get_past {X = Touch} [] touch.0 (omega arith)) ∙ ap (λ us. slice_get us touch.0) (sym none) ∙ touch.2 in cc));
  tells = subst (λ xs. Tells old.reached.items xs (IsSaid (says_at place) (among numbers) (λ g p. mark_at marks 0 p) old)) (sym same) (tells_same old.reached.items (IsSaid (says_at place) (among numbers) (λ g p. mark_at marks 0 p) old));
}

-- some touch does
pub one_noted : (place : ℕ) (numbers : List ℕ) (marks : List Mark) (ts : List Touch) (old new : Sheet) → IsSheet old → length ts ≢ 0 → All (λ t. IsTouch old.canvas numbers marks t) ts
    → AreSet (λ k. nat_eq k place) old.reached.items new.reached.items → length new.reached.items ≡ length old.reached.items
    → AreNoted (says_at place) (among numbers) (λ g p. mark_at marks 0 p) old new
one_noted place numbers marks [] old new sheet some found is long = absurd (some refl)
one_noted place numbers marks (t ∷ ts) old new sheet some found is long =
    let touch : IsTouch old.canvas numbers marks t = All-head (λ u. IsTouch old.canvas numbers marks u) t ts found in
    record {
      noted = λ k m. (
          let label = mark_at marks 0 m.0 in
          let parts = and_parts (not (nat_eq label 0)) (nat_eq k place) m.5 in
          set_known (λ j. nat_eq j place) old.reached.items new.reached.items k is parts.1);
      tells = set_tells (λ j. nat_eq j place) old.reached.items new.reached.items (IsSaid (says_at place) (among numbers) (λ g p. mark_at marks 0 p) old) is long
          (λ k here. touch_said (says_at place) old numbers marks k t sheet touch (ap (λ b. not b && nat_eq k place) (ne_eqb t.label 0 touch.3) ∙ here));
    }
