-- What becomes of the points of classes that are divided one after another.
use Rattle.std.proofs.Common.{◌≡◌, ◌≢◌, ℕ, ◌+◌, Bool, true, false, ◌||◌, nat_lt, Some, List, slice_get, inl, inr, refl, sym, ◌∙◌, ap, subst, arith}
use Rattle.std.proofs.lemmas.Bool.{cases_Bool, false≢true}
use Rattle.std.proofs.lemmas.Bool.Decides.{nat_tests}
use Rattle.std.proofs.lemmas.Option.{same_Some}
use Rattle.fws_box.specs.Sides.{IsWithin}
use Rattle.fws_exec.specs.declared.going.Going.{Going}
use Rattle.fws_exec.specs.declared.going.Going.TheVariants.{To, Behind, Leaving}
use Rattle.fws_exec.specs.declared.progress.Progress.{Progress}
use Rattle.fws_exec.specs.declared.sheet.Sheet.{Sheet}
use Rattle.fws_exec.specs.declared.spot.Class.{Class}
use Rattle.fws_exec.specs.declared.spot.Spot.{Spot}
use Rattle.fws_exec.specs.declared.spot.Spot.TheVariants.{At}
use Rattle.fws_exec.specs.Classes.{is_before, is_unused}
use Rattle.fws_exec.specs.Courses.{Tells}
use Rattle.fws_exec.specs.Divided.{says_of, AreMoved, AreNoted, IsSaid}
use Rattle.fws_exec.specs.Goings.{lands, IsGone}
use Rattle.fws_exec.specs.Sheets.{tops_in, class_at, IsSheet, IsUsed, Grows, StandsAt, AllAt}
use Rattle.fws_exec.proofs.Telling.{tells_by, tells_same, tells_then}

-- a used class has one number alone
pub same_used : (cs : List Class) (n : ℕ) (c d : Class) → IsUsed cs n c → IsUsed cs n d → c ≡ d
same_used cs n c d a b = same_Some c d (sym a.0 ∙ b.0)

-- classes that stand at a spot stay there while others are added
pub at_grows : (here : Spot) (old new : List Class) (test : ℕ → Bool) → is_unused here ≡ false → Grows old new → AllAt here old test → AllAt here new test
at_grows here old new test used grows at n h = let s = at n h in (s.0, (grows n (record { spot = here; progress = s.0 }) (s.1, used)).0)

-- a class elsewhere isn't one that stands at the spot
pub away : (here : Spot) (cs : List Class) (n : ℕ) (d : Class) → StandsAt here cs n → slice_get cs n ≡ Some d → d.spot ≢ here → ⊥
away here cs n d at got apart = apart (ap (λ k. k.spot) (same_Some d (record { spot = here; progress = at.0 }) (sym got ∙ at.1)))

-- a class behind a place isn't one that stands there
pub behind_away : (place : ℕ) (cs : List Class) (n : ℕ) (d : Class) → StandsAt (At place) cs n → slice_get cs n ≡ Some d → is_before (place + 1) d.spot ≡ false → ⊥
behind_away place cs n d at got behind = away (At place) cs n d at got (λ e. false≢true (sym behind ∙ ap (λ s. is_before (place + 1) s) e ∙ self place))
  where
    self : (place : ℕ) → nat_lt place (place + 1) ≡ true
    self place = grind (arith, nat_tests)

pub or_left : (a b c : Bool) → c ≡ (a || b) → a ≡ true → c ≡ true
or_left a b c e h = e ∙ ap (λ k. k || b) h

pub or_right : (a b c : Bool) → c ≡ (a || b) → b ≡ true → c ≡ true
or_right a b c e h = e ∙ ap (λ k. a || k) h ∙ by a
  where
    by : (a : Bool) → (a || true) ≡ true
    by true = refl
    by false = refl

pub or_either : (X : Type 0) (a b c : Bool) → c ≡ (a || b) → c ≡ true → (a ≡ true → X) → (b ≡ true → X) → X
or_either X true b c e h f g = f refl
or_either X false true c e h f g = g refl
or_either X false false c e h f g = absurd (false≢true (sym e ∙ h))

pub or_neither : (a b c : Bool) → c ≡ (a || b) → a ≡ false → b ≡ false → c ≡ false
or_neither a b c e f g = e ∙ ap (λ k. k || b) f ∙ g

-- the points of some classes move, and then those of others
pub moved_both : (going : Going) (A B C : ℕ → Bool) (label : Progress → List ℕ → ℕ) (old mid new : Sheet) (here : Spot)
    → ((n : ℕ) → C n ≡ (A n || B n)) → Grows old.roll.classes.items mid.roll.classes.items → Grows mid.roll.classes.items new.roll.classes.items → tops_in mid ≡ tops_in old
    → AllAt here mid.roll.classes.items B → ((l : ℕ) → lands going l ≢ here)
    → AreMoved going A label old mid → AreMoved going B label mid new → AreMoved going C label old new
moved_both going A B C label old mid new here parts before after tops at apart first second p c w used =
    let inside : IsWithin (tops_in mid) p = subst (λ ts. IsWithin ts p) (sym tops) w in
    elim (first p c w used) [
      | inl h ↦ inl (
        or_left (A (class_at old p)) (B (class_at old p)) (C (class_at old p)) (parts (class_at old p)) h.0,
        h.1,
        (
          h.2.0,
          subst (λ n. IsUsed new.roll.classes.items n h.2.0) (sym (elim (second p h.2.0 inside h.2.1) [
            | inl k ↦ absurd (away here mid.roll.classes.items (class_at mid p) h.2.0 (at (class_at mid p) k.0) h.2.1.0 (λ e. apart (label c.progress p) (sym h.2.2.0 ∙ e)))
            | inr k ↦ k.1
          ])) (after (class_at mid p) h.2.0 h.2.1),
          h.2.2,
        ),
      )
      | inr h ↦ elim (second p c inside (subst (λ n. IsUsed mid.roll.classes.items n c) (sym h.1) (before (class_at old p) c used))) [
        | inl k ↦ inl (or_right (A (class_at old p)) (B (class_at old p)) (C (class_at old p)) (parts (class_at old p)) (ap B (sym h.1) ∙ k.0), k.1, k.2)
        | inr k ↦ inr (λ some. or_either (label c.progress p ≡ 0) (A (class_at old p)) (B (class_at old p)) (C (class_at old p)) (parts (class_at old p)) some h.0 (λ b. k.0 (ap B h.1 ∙ b)), k.1 ∙ h.1)
      ]
    ]

-- no point moves
pub moved_none : (going : Going) (A : ℕ → Bool) (label : Progress → List ℕ → ℕ) (s : Sheet) → ((n : ℕ) → A n ≡ false) → AreMoved going A label s s
moved_none going A label s none p c w used = inr (λ h. absurd (false≢true (sym (none (class_at s p)) ∙ h)), refl)

-- a test with the same answers
pub moved_test : (going : Going) (A B : ℕ → Bool) (label : Progress → List ℕ → ℕ) (old new : Sheet) → ((n : ℕ) → A n ≡ true → B n ≡ true)
    → ((p : List ℕ) (c : Class) → IsUsed old.roll.classes.items (class_at old p) c → B (class_at old p) ≡ true → A (class_at old p) ≡ false → label c.progress p ≡ 0)
    → AreMoved going A label old new → AreMoved going B label old new
moved_test going A B label old new more left moved p c w used = elim (moved p c w used) [
  | inl h ↦ inl (more (class_at old p) h.0, h.1, h.2)
  | inr h ↦ inr (λ b. elim (cases_Bool (A (class_at old p))) [ inl a ↦ h.0 a | inr a ↦ left p c used b a ], h.1)
]

-- another label that is the same at the points of the classes that are meant
pub moved_label : (going : Going) (A : ℕ → Bool) (f g : Progress → List ℕ → ℕ) (old new : Sheet)
    → ((p : List ℕ) (c : Class) → IsWithin (tops_in old) p → IsUsed old.roll.classes.items (class_at old p) c → A (class_at old p) ≡ true → f c.progress p ≡ g c.progress p)
    → AreMoved going A f old new → AreMoved going A g old new
moved_label going A f g old new same moved p c w used = elim (moved p c w used) [
  | inl h ↦ inl (h.0, subst (λ l. l ≢ 0) (same p c w used h.0) h.1, subst (λ l. IsGone going l c.progress new.roll.classes.items (class_at new p)) (same p c w used h.0) h.2)
  | inr h ↦ inr (λ a. sym (same p c w used a) ∙ h.0 a, h.1)
]

-- What is noted of their uses

pub noted_none : (says : ℕ → ℕ → Bool) (A : ℕ → Bool) (label : Progress → List ℕ → ℕ) (s : Sheet) → ((n : ℕ) → A n ≡ false) → AreNoted says A label s s
noted_none says A label s none = record {
  noted = λ k m. absurd (false≢true (sym (none (class_at s m.0)) ∙ m.4));
  tells = tells_same s.reached.items (IsSaid says A label s);
}

-- those of some classes are noted, and then those of others
pub noted_both : (going : Going) (says : ℕ → ℕ → Bool) (A B C : ℕ → Bool) (label : Progress → List ℕ → ℕ) (old mid new : Sheet) (here : Spot) → IsSheet old
    → ((n : ℕ) → C n ≡ (A n || B n)) → Grows old.roll.classes.items mid.roll.classes.items → tops_in mid ≡ tops_in old
    → AllAt here mid.roll.classes.items B → ((l : ℕ) → lands going l ≢ here)
    → AreMoved going A label old mid → AreNoted says A label old mid → AreNoted says B label mid new → AreNoted says C label old new
noted_both going says A B C label old mid new here sheet parts before tops stand apart moved first second = record {
  noted = noted;
  tells = tells_then old.reached.items mid.reached.items new.reached.items (IsSaid says A label old) (IsSaid says B label mid) (IsSaid says C label old) first.tells second.tells
      (λ k m. (m.0, m.1, m.2, m.3, or_left (A (class_at old m.0)) (B (class_at old m.0)) (C (class_at old m.0)) (parts (class_at old m.0)) m.4, m.5))
      (λ k got m. (
      let inside : IsWithin (tops_in old) m.0 = subst (λ ts. IsWithin ts m.0) tops m.2 in
      let c = (sheet.used m.0 inside).0 in
      let used = (sheet.used m.0 inside).1 in
      let same : class_at mid m.0 ≡ class_at old m.0 = elim (moved m.0 c inside used) [
        | inl h ↦ absurd (away here mid.roll.classes.items (class_at mid m.0) h.2.0 (stand (class_at mid m.0) m.4) h.2.1.0 (λ e. apart (label c.progress m.0) (sym h.2.2.0 ∙ e)))
        | inr h ↦ h.1
      ] in
      let own : m.1 ≡ c = same_used mid.roll.classes.items (class_at mid m.0) m.1 c m.3 (subst (λ n. IsUsed mid.roll.classes.items n c) (sym same) (before (class_at old m.0) c used)) in (
        m.0,
        c,
        inside,
        used,
        or_right (A (class_at old m.0)) (B (class_at old m.0)) (C (class_at old m.0)) (parts (class_at old m.0)) (ap B (sym same) ∙ m.4),
        ap (λ (d : Class). says (label d.progress m.0) k) (sym own) ∙ m.5,
      )));
}
  where
    noted : (k : ℕ) → IsSaid says C label old k → slice_get new.reached.items k ≢ Some false
    noted k m free = elim (cases_Bool (A (class_at old m.0))) [
      | inl a ↦ first.noted k (m.0, m.1, m.2, m.3, a, m.5) (second.tells.opens k free)
      | inr a ↦ (
          let same : class_at mid m.0 ≡ class_at old m.0 = elim (moved m.0 m.1 m.2 m.3) [ inl h ↦ absurd (false≢true (sym a ∙ h.0)) | inr h ↦ h.1 ] in
          let b : B (class_at old m.0) ≡ true = or_either (B (class_at old m.0) ≡ true) (A (class_at old m.0)) (B (class_at old m.0)) (C (class_at old m.0)) (parts (class_at old m.0)) m.4 (λ t. absurd (false≢true (sym a ∙ t))) (λ t. t) in
          second.noted k (
            m.0,
            m.1,
            subst (λ ts. IsWithin ts m.0) (sym tops) m.2,
            subst (λ n. IsUsed mid.roll.classes.items n m.1) (sym same) (before (class_at old m.0) m.1 m.3),
            ap B same ∙ b,
            m.5,
          ) free)
    ]

-- a test with the same answers, where there is a label that says something
pub noted_test : (says : ℕ → ℕ → Bool) (A B : ℕ → Bool) (label : Progress → List ℕ → ℕ) (old new : Sheet) → ((k : ℕ) → says 0 k ≡ false) → ((n : ℕ) → A n ≡ true → B n ≡ true)
    → ((p : List ℕ) (c : Class) → IsUsed old.roll.classes.items (class_at old p) c → B (class_at old p) ≡ true → A (class_at old p) ≡ false → label c.progress p ≡ 0)
    → AreNoted says A label old new → AreNoted says B label old new
noted_test says A B label old new none more left noted = record {
  noted = λ k m. elim (cases_Bool (A (class_at old m.0))) [
    | inl a ↦ noted.noted k (m.0, m.1, m.2, m.3, a, m.5)
    | inr a ↦ absurd (false≢true (sym (none k) ∙ ap (λ l. says l k) (sym (left m.0 m.1 m.3 m.4 a)) ∙ m.5))
  ];
  tells = tells_by old.reached.items new.reached.items (IsSaid says A label old) (IsSaid says B label old) (λ k got m. (m.0, m.1, m.2, m.3, more (class_at old m.0) m.4, m.5)) noted.tells;
}

-- another label that is the same at the points of the classes that are meant
pub noted_label : (says : ℕ → ℕ → Bool) (A : ℕ → Bool) (f g : Progress → List ℕ → ℕ) (old new : Sheet)
    → ((p : List ℕ) (c : Class) → IsWithin (tops_in old) p → IsUsed old.roll.classes.items (class_at old p) c → A (class_at old p) ≡ true → f c.progress p ≡ g c.progress p)
    → AreNoted says A f old new → AreNoted says A g old new
noted_label says A f g old new same noted = record {
  noted = λ k m. noted.noted k (m.0, m.1, m.2, m.3, m.4, ap (λ l. says l k) (same m.0 m.1 m.2 m.3 m.4) ∙ m.5);
  tells = tells_by old.reached.items new.reached.items (IsSaid says A f old) (IsSaid says A g old) (λ k got m. (m.0, m.1, m.2, m.3, m.4, ap (λ l. says l k) (sym (same m.0 m.1 m.2 m.3 m.4)) ∙ m.5)) noted.tells;
}

-- what is noted stays so where points move
pub noted_onwards : (says : ℕ → ℕ → Bool) (A : ℕ → Bool) (label : Progress → List ℕ → ℕ) (old mid new : Sheet) → new.reached.items ≡ mid.reached.items → AreNoted says A label old mid → AreNoted says A label old new
noted_onwards says A label old mid new same noted = record {
  noted = λ k m. subst (λ xs. slice_get xs k ≢ Some false) (sym same) (noted.noted k m);
  tells = subst (λ xs. Tells old.reached.items xs (IsSaid says A label old)) (sym same) noted.tells;
}

-- no label says anything
pub says_nothing : (going : Going) (k : ℕ) → says_of going 0 k ≡ false
says_nothing (To spot) k = refl
says_nothing (Behind state stage place act) k = refl
says_nothing (Leaving stage place) k = refl
