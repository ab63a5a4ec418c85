-- How points pass instructions one after another.
use Rattle.std.proofs.Common.{◌≡◌, ◌≢◌, ℕ, ◌+◌, ◌≤◌, Bool, true, false, cond, ◌&&◌, ◌||◌, not, nat_eq, Some, option_map, List, [], ◌∷◌, length, slice_get, inl, inr, ◌⊎◌, refl, sym, ◌∙◌, ap, subst, arith}
use Rattle.std.proofs.lemmas.Bool.{cases_Bool, eq-eqb, eqb-true, false≢true}
use Rattle.std.proofs.lemmas.Option.{same_Some}
use Rattle.std.proofs.Math.Nat.{le_refl, le_trans}
use Rattle.fws_box.specs.Sides.{IsWithin}
use Rattle.fws_net.specs.declared.outcome.Outcome.{Outcome}
use Rattle.fws_net.specs.declared.outcome.Outcome.TheVariants as outcomes
use Rattle.fws_net.specs.declared.transit.Transit.{Transit}
use Rattle.fws_net.specs.Conditions.{holds}
use Rattle.fws_net.specs.Points.{tops_of}
use Rattle.fws_flat.specs.declared.code.Ins.{Ins}
use Rattle.fws_flat.specs.Walk.{sees}
use Rattle.fws_tree.specs.declared.canvas.Canvas.{Canvas}
use Rattle.fws_tree.specs.Painted as painted
use Rattle.fws_exec.specs.declared.errand.Errand.{Errand}
use Rattle.fws_exec.specs.declared.going.Going.{Going}
use Rattle.fws_exec.specs.declared.going.Going.TheVariants as goings
use Rattle.fws_exec.specs.declared.groups.Group.{Group}
use Rattle.fws_exec.specs.declared.progress.Progress.{Progress}
use Rattle.fws_exec.specs.declared.roll.Roll.{Roll}
use Rattle.fws_exec.specs.declared.sheet.Sheet.{Sheet}
use Rattle.fws_exec.specs.declared.spot.Class.{Class}
use Rattle.fws_exec.specs.declared.spot.Spot.{Spot}
use Rattle.fws_exec.specs.declared.spot.Spot.TheVariants.{At}
use Rattle.fws_exec.specs.declared.spot.Stage.{Stage}
use Rattle.fws_exec.specs.Classes.{kind_of, meant, transit_of, future, is_before, is_unused}
use Rattle.fws_exec.specs.Courses.{aim_at, caught, course, course_used, Aim, IsOpen, Keeps, Meets, Obeys}
use Rattle.fws_exec.specs.Divided.{says_at, AreMoved, AreNoted, IsSaid}
use Rattle.fws_exec.specs.Goings.{lands, Goes, IsGone}
use Rattle.fws_exec.specs.Looks.{ComesTo}
use Rattle.fws_exec.specs.Moving.{IsGrown}
use Rattle.fws_exec.specs.Passing.{is_apart, is_together, is_parted, HasPassed, MeetsFrom, Passed, IsOnward}
use Rattle.fws_exec.specs.Sheets.{among, tops_in, class_at, IsPut, IsUsed, Grows, IsSheet, AllAt, AreSent, KeepsFutures}
use Rattle.fws_exec.specs.Views.{is_in}
use Rattle.fws_exec.proofs.Dividing.{before_less}
use Rattle.fws_exec.proofs.Hulled.{same_hulled}
use Rattle.fws_exec.proofs.Moved.{at_grows, behind_away, or_left, or_right, or_neither, same_used}
use Rattle.fws_exec.proofs.Putting.{future_of, future_same, same_or_not}
use Rattle.fws_exec.proofs.Running.{used_caught, used_free}
use Rattle.fws_exec.proofs.Telling.{open_at, open_before, tells_by, tells_equal, tells_same, tells_then, unsought}

-- a point that went on stays where it is while the classes of others pass
stays_on : (e : Errand) (aim : Aim) (p : List ℕ) (B : ℕ → Bool) (place at here : ℕ) (mid new : Sheet) (d : Class)
    → IsOpen new.reached.items aim → IsWithin (tops_in mid) p → Passed e B at here mid new → AllAt (At place) mid.roll.classes.items B → IsUsed mid.roll.classes.items (class_at mid p) d → is_before (place + 1) d.spot ≡ false
    → class_at new p ≡ class_at mid p
stays_on e aim p B place at here mid new d free w second stand used behind = elim (second.kept aim p d free w used) [
  | inl k ↦ absurd (behind_away place mid.roll.classes.items (class_at mid p) d (stand (class_at mid p) k.0) used.0 behind)
  | inr k ↦ k.1
]

-- a point whose class still stands at the place stayed in it, and goes on as at the other place if its class passed
still : (e : Errand) (aim : Aim) (p : List ℕ) (A B : ℕ → Bool) (place at : ℕ) (old mid : Sheet) (c : Class) → IsOpen mid.reached.items aim → IsWithin (tops_in old) p
    → IsUsed old.roll.classes.items (class_at old p) c → Passed e A place at old mid → AllAt (At place) mid.roll.classes.items B → B (class_at mid p) ≡ true
    → (class_at mid p ≡ class_at old p) × (A (class_at old p) ≡ true → course e aim p place (transit_of c.progress p) ≡ course e aim p at (transit_of c.progress p))
still e aim p A B place at old mid c free w used first stand called = elim (first.kept aim p c free w used) [
  | inl h ↦ elim h.1 [
    | inl s ↦ (s.0, λ a. s.1)
    | inr d ↦ absurd (behind_away place mid.roll.classes.items (class_at mid p) d.0 (stand (class_at mid p) called) d.1.0 d.2)
  ]
  | inr h ↦ (h.1, λ a. absurd (false≢true (sym h.0 ∙ a)))
]

-- nothing becomes of packets
no_stage : Stage → Transit → Outcome
no_stage stage t = outcomes.Drop

-- a point that uses an instruction while classes that stand at the place pass, used it before
met_before : (e : Errand) (A B C : ℕ → Bool) (place at here : ℕ) (old mid : Sheet) → IsSheet old → Grows old.roll.classes.items mid.roll.classes.items → tops_in mid ≡ tops_in old
    → AllAt (At place) mid.roll.classes.items B → Passed e A place at old mid → ((n : ℕ) → B n ≡ true → C n ≡ true)
    → ((aim : Aim) (p : List ℕ) (t : Transit) (n : ℕ) → B n ≡ true → (A n ≡ true → course e aim p place t ≡ course e aim p at t) → course e aim p here t ≡ caught → course e aim p place t ≡ caught)
    → (k : ℕ) → slice_get mid.reached.items k ≡ Some false → MeetsFrom e B here mid k → MeetsFrom e C place old k
met_before e A B C place at here old mid sheet before tops stand first more goes k got m =
    let inside : IsWithin (tops_in old) m.0 = subst (λ ts. IsWithin ts m.0) tops m.2 in
    let c = (sheet.used m.0 inside).0 in
    let used = (sheet.used m.0 inside).1 in
    let stays = λ (next : Stage → Transit → Outcome). still e (aim_at k next) m.0 A B place at old mid c (open_at mid.reached.items k next got) inside used first stand m.4 in
    let same : class_at mid m.0 ≡ class_at old m.0 = (stays no_stage).0 in
    let called : B (class_at old m.0) ≡ true = ap B (sym same) ∙ m.4 in
    let own : m.1 ≡ c = same_used mid.roll.classes.items (class_at mid m.0) m.1 c m.3 (subst (λ n. IsUsed mid.roll.classes.items n c) (sym same) (before (class_at old m.0) c used)) in (
      m.0,
      c,
      inside,
      used,
      more (class_at old m.0) called,
      λ next. goes (aim_at k next) m.0 (transit_of c.progress m.0) (class_at old m.0) called (stays next).1 (subst (λ (d : Class). course e (aim_at k next) m.0 here (transit_of d.progress m.0) ≡ caught) own (m.5 next)),
    )

-- the same for more classes
met_more : (e : Errand) (A C : ℕ → Bool) (place : ℕ) (s : Sheet) → ((n : ℕ) → A n ≡ true → C n ≡ true) → (k : ℕ) → MeetsFrom e A place s k → MeetsFrom e C place s k
met_more e A C place s more k m = (m.0, m.1, m.2, m.3, more (class_at s m.0) m.4, m.5)

-- some classes pass, and then others
pub passed_both : (e : Errand) (A B C : ℕ → Bool) (place at : ℕ) (old mid new : Sheet) → IsSheet old
    → ((n : ℕ) → C n ≡ (A n || B n)) → Grows old.roll.classes.items mid.roll.classes.items → Grows mid.roll.classes.items new.roll.classes.items → tops_in mid ≡ tops_in old
    → AllAt (At place) mid.roll.classes.items B → Passed e A place at old mid → Passed e B place at mid new → Passed e C place at old new
passed_both e A B C place at old mid new sheet parts before after tops stand first second = record {
  kept = kept;
  tells = tells_then old.reached.items mid.reached.items new.reached.items (MeetsFrom e A place old) (MeetsFrom e B place mid) (MeetsFrom e C place old) first.tells second.tells
      (met_more e A C place old (λ n a. or_left (A n) (B n) (C n) (parts n) a))
      (met_before e A B C place at place old mid sheet before tops stand first (λ n b. or_right (A n) (B n) (C n) (parts n) b) (λ aim p t n b same got. got));
}
  where
    kept : (aim : Aim) (p : List ℕ) (c : Class) → IsOpen new.reached.items aim → IsWithin (tops_in old) p → IsUsed old.roll.classes.items (class_at old p) c
        → ((C (class_at old p) ≡ true) × HasPassed e aim p place at c.progress new.roll.classes.items (class_at old p) (class_at new p))
        ⊎ ((C (class_at old p) ≡ false) × (class_at new p ≡ class_at old p))
    kept aim p c free w used =
        let inside : IsWithin (tops_in mid) p = subst (λ ts. IsWithin ts p) (sym tops) w in
        let earlier : IsOpen mid.reached.items aim = open_before mid.reached.items new.reached.items (MeetsFrom e B place mid) aim second.tells free in
        elim (first.kept aim p c earlier w used) [
          | inl h ↦ inl (
            or_left (A (class_at old p)) (B (class_at old p)) (C (class_at old p)) (parts (class_at old p)) h.0,
            elim h.1 [
              | inl s ↦ elim (second.kept aim p c free inside (subst (λ n. IsUsed mid.roll.classes.items n c) (sym s.0) (before (class_at old p) c used))) [
                | inl k ↦ subst (λ n. HasPassed e aim p place at c.progress new.roll.classes.items n (class_at new p)) s.0 k.1
                | inr k ↦ inl (k.1 ∙ s.0, s.1)
              ]
              | inr d ↦ inr (
                d.0,
                subst (λ n. IsUsed new.roll.classes.items n d.0) (sym (stays_on e aim p B place place at mid new d.0 free inside second stand d.1 d.2)) (after (class_at mid p) d.0 d.1),
                d.2,
                d.3,
              )
            ],
          )
          | inr h ↦ elim (second.kept aim p c free inside (subst (λ n. IsUsed mid.roll.classes.items n c) (sym h.1) (before (class_at old p) c used))) [
            | inl k ↦ inl (
              or_right (A (class_at old p)) (B (class_at old p)) (C (class_at old p)) (parts (class_at old p)) (ap B (sym h.1) ∙ k.0),
              subst (λ n. HasPassed e aim p place at c.progress new.roll.classes.items n (class_at new p)) h.1 k.1,
            )
            | inr k ↦ inr (or_neither (A (class_at old p)) (B (class_at old p)) (C (class_at old p)) (parts (class_at old p)) h.0 (ap B (sym h.1) ∙ k.0), k.1 ∙ h.1)
          ]
        ]

-- classes pass one more instruction
pub passed_on : (e : Errand) (A : ℕ → Bool) (place at : ℕ) (old mid new : Sheet) → IsSheet old → place ≤ at
    → Grows old.roll.classes.items mid.roll.classes.items → Grows mid.roll.classes.items new.roll.classes.items → tops_in mid ≡ tops_in old
    → AllAt (At place) mid.roll.classes.items A → Passed e A place at old mid → Passed e A at (at + 1) mid new → Passed e A place (at + 1) old new
passed_on e A place at old mid new sheet le before after tops stand first second = record {
  kept = kept;
  tells = tells_then old.reached.items mid.reached.items new.reached.items (MeetsFrom e A place old) (MeetsFrom e A at mid) (MeetsFrom e A place old) first.tells second.tells (λ k m. m)
      (met_before e A A A place at at old mid sheet before tops stand first (λ n a. a) (λ aim p t n a same got. same a ∙ got));
}
  where
    kept : (aim : Aim) (p : List ℕ) (c : Class) → IsOpen new.reached.items aim → IsWithin (tops_in old) p → IsUsed old.roll.classes.items (class_at old p) c
        → ((A (class_at old p) ≡ true) × HasPassed e aim p place (at + 1) c.progress new.roll.classes.items (class_at old p) (class_at new p))
        ⊎ ((A (class_at old p) ≡ false) × (class_at new p ≡ class_at old p))
    kept aim p c free w used =
        let inside : IsWithin (tops_in mid) p = subst (λ ts. IsWithin ts p) (sym tops) w in
        let earlier : IsOpen mid.reached.items aim = open_before mid.reached.items new.reached.items (MeetsFrom e A at mid) aim second.tells free in
        elim (first.kept aim p c earlier w used) [
          | inl h ↦ inl (
            h.0,
            elim h.1 [
              | inl s ↦ elim (second.kept aim p c free inside (subst (λ n. IsUsed mid.roll.classes.items n c) (sym s.0) (before (class_at old p) c used))) [
                | inl k ↦ elim k.1 [
                  | inl t ↦ inl (t.0 ∙ s.0, s.1 ∙ t.1)
                  | inr d ↦ inr (d.0, d.1, before_less (place + 1) (at + 1) d.0.spot (let more : place + 1 ≤ at + 1 = omega arith in more) d.2, d.3 ∙ sym s.1)
                ]
                | inr k ↦ absurd (false≢true (sym k.0 ∙ ap A s.0 ∙ h.0))
              ]
              | inr d ↦ inr (
                d.0,
                subst (λ n. IsUsed new.roll.classes.items n d.0) (sym (stays_on e aim p A place at (at + 1) mid new d.0 free inside second stand d.1 d.2)) (after (class_at mid p) d.0 d.1),
                d.2,
                d.3,
              )
            ],
          )
          | inr h ↦ elim (second.kept aim p c free inside (subst (λ n. IsUsed mid.roll.classes.items n c) (sym h.1) (before (class_at old p) c used))) [
            | inl k ↦ absurd (false≢true (sym h.0 ∙ ap A (sym h.1) ∙ k.0))
            | inr k ↦ inr (h.0, k.1 ∙ h.1)
          ]
        ]

-- classes pass no instruction
pub passed_same : (e : Errand) (A : ℕ → Bool) (place : ℕ) (s : Sheet) → Passed e A place place s s
passed_same e A place s = record {
  kept = λ aim p c free w used. elim (cases_Bool (A (class_at s p))) [
    | inl a ↦ inl (a, inl (refl, refl))
    | inr a ↦ inr (a, refl)
  ];
  tells = tells_same s.reached.items (MeetsFrom e A place s);
}

-- classes whose packets go on as if they had passed
pub passed_wide : (e : Errand) (A B : ℕ → Bool) (place at : ℕ) (old new : Sheet) → ((n : ℕ) → A n ≡ true → B n ≡ true)
    → ((n : ℕ) (c : Class) → B n ≡ true → A n ≡ false → slice_get old.roll.classes.items n ≡ Some c → (aim : Aim) (p : List ℕ) → IsOpen new.reached.items aim → course e aim p place (transit_of c.progress p) ≡ course e aim p at (transit_of c.progress p))
    → Passed e A place at old new → Passed e B place at old new
passed_wide e A B place at old new more stay passed = record {
  kept = λ aim p c free w used. elim (passed.kept aim p c free w used) [
    | inl h ↦ inl (more (class_at old p) h.0, h.1)
    | inr h ↦ elim (cases_Bool (B (class_at old p))) [
      | inl b ↦ inl (b, inl (h.1, stay (class_at old p) c b h.0 used.0 aim p free))
      | inr b ↦ inr (b, h.1)
    ]
  ];
  tells = tells_by old.reached.items new.reached.items (MeetsFrom e A place old) (MeetsFrom e B place old) (λ k got m. met_more e A B place old more k m) passed.tells;
}

-- packets that an instruction leaves as they are go on as behind it, if it isn't sought
pub stay_on : (e : Errand) (place : ℕ) (ins : Ins) (g : Progress) (xs : List Bool) → ((aim : Aim) (p : List ℕ) → Obeys e aim p place ins)
    → Goes (goings.Behind e.ground.state e.stage place ins.act) 1 g (record { spot = At (place + 1); progress = g }) → slice_get xs place ≢ Some false
    → (aim : Aim) (p : List ℕ) → IsOpen xs aim → course e aim p place (transit_of g p) ≡ course e aim p (place + 1) (transit_of g p)
stay_on e place ins g xs obeys goes known aim p free =
    obeys aim p (transit_of g p)
    ∙ either (holds ins.cond (sees e.ground.site.now (kind_of e.ground.state p) e.part (transit_of g p)))
    (used_free e aim p place ins (transit_of g p) (unsought xs aim place free known) ∙ sym (goes.1 (course e aim p) aim.next p))
  where
    either : {x y : Outcome} → (b : Bool) → x ≡ y → cond b x y ≡ y
    either true h = h
    either false h = refl

-- no class passes
pub passed_none : (e : Errand) (A : ℕ → Bool) (place at : ℕ) (s : Sheet) → ((n : ℕ) → A n ≡ false) → Passed e A place at s s
passed_none e A place at s none = record { kept = λ aim p c free w used. inr (none (class_at s p), refl); tells = tells_same s.reached.items (MeetsFrom e A place s) }

-- a test with the same answers
pub passed_test : (e : Errand) (A B : ℕ → Bool) (place at : ℕ) (old new : Sheet) → ((n : ℕ) → B n ≡ A n) → Passed e A place at old new → Passed e B place at old new
passed_test e A B place at old new same passed = record {
  kept = λ aim p c free w used. elim (passed.kept aim p c free w used) [
    | inl h ↦ inl (same (class_at old p) ∙ h.0, h.1)
    | inr h ↦ inr (same (class_at old p) ∙ h.0, h.1)
  ];
  tells = tells_by old.reached.items new.reached.items (MeetsFrom e A place old) (MeetsFrom e B place old) (λ k got m. met_more e A B place old (λ n a. same n ∙ a) k m) passed.tells;
}

-- classes that are added, from a place on
pub onward_same : (place : ℕ) (cs : List Class) → IsOnward place cs cs
onward_same place cs = record { grows = λ n c used. used; count = le_refl (length cs); comes = λ q le n h. h }

pub onward_then : (place : ℕ) (old mid new : List Class) → IsOnward place old mid → IsOnward place mid new → IsOnward place old new
onward_then place old mid new f g = record { grows = λ n c used. g.grows n c (f.grows n c used); count = le_trans f.count g.count; comes = λ q le n h. g.comes q le n (f.comes q le n h) }

pub onward_of : (place : ℕ) (going : Going) (old new : List Class) → ((l : ℕ) → is_before (place + 1) (lands going l) ≡ false) → IsGrown going old new → IsOnward place old new
onward_of place going old new none g = record { grows = g.grows; count = g.count; comes = λ q le. g.comes (is_before q) (λ l. before_less q (place + 1) (lands going l) le (none l)) }

-- an earlier place
pub onward_less : (place at : ℕ) (old new : List Class) → place ≤ at → IsOnward at old new → IsOnward place old new
onward_less place at old new less g = record { grows = g.grows; count = g.count; comes = λ q le. g.comes q (let more : q ≤ at + 1 = omega arith in more) }

-- classes that are sent to a spot
pub sent_at : (spot : Spot) (A : ℕ → Bool) (mid new : List Class) (n : ℕ) (c : Class) → AreSent spot A mid new → A n ≡ true → slice_get mid n ≡ Some c → slice_get new n ≡ Some (record c { spot = spot })
sent_at spot A mid new n c sent a got = sent n ∙ ap (λ b. cond b (option_map {T = Class} (λ d. record d { spot = spot }) (slice_get mid n)) (slice_get mid n)) a ∙ ap (option_map {T = Class} (λ d. record d { spot = spot })) got

pub sent_away : (spot : Spot) (A : ℕ → Bool) (mid new : List Class) (n : ℕ) → AreSent spot A mid new → A n ≡ false → slice_get new n ≡ slice_get mid n
sent_away spot A mid new n sent a = sent n ∙ ap (λ b. cond b (option_map {T = Class} (λ d. record d { spot = spot }) (slice_get mid n)) (slice_get mid n)) a

-- a sheet whose classes are sent to a spot is one
pub sent_sheet : (spot : Spot) (A : ℕ → Bool) (mid new : Sheet) → is_unused spot ≡ false → new.canvas ≡ mid.canvas → new.hulls.items ≡ mid.hulls.items → AreSent spot A mid.roll.classes.items new.roll.classes.items → IsSheet mid → IsSheet new
sent_sheet spot A mid new used canvas hulls sent sheet = record { used = sent_used; hulled = same_hulled mid new canvas hulls sheet }
  where
    sent_used : (p : List ℕ) → IsWithin (tops_in new) p → (c : Class) × IsUsed new.roll.classes.items (class_at new p) c
    sent_used p w =
        let same : class_at new p ≡ class_at mid p = ap (λ k. painted.value_at k p) canvas in
        let old = sheet.used p (subst (λ (k : Canvas). IsWithin (painted.tops_of k) p) canvas w) in
        elim (cases_Bool (A (class_at mid p))) [
          | inl a ↦ (record old.0 { spot = spot }, subst (λ n. IsUsed new.roll.classes.items n (record old.0 { spot = spot })) (sym same) (sent_at spot A mid.roll.classes.items new.roll.classes.items (class_at mid p) old.0 sent a old.1.0, used))
          | inr a ↦ (old.0, subst (λ n. IsUsed new.roll.classes.items n old.0) (sym same) (sent_away spot A mid.roll.classes.items new.roll.classes.items (class_at mid p) sent a ∙ old.1.0, old.1.1))
        ]

-- what becomes of each packet stays, if the classes passed and those that stood at the place are sent on
pub sent_kept : (e : Errand) (A : ℕ → Bool) (place at : ℕ) (old mid new : Sheet) → IsSheet old → tops_in old ≡ tops_of e.ground.site.now
    → Grows old.roll.classes.items mid.roll.classes.items → AllAt (At place) old.roll.classes.items A → Passed e A place at old mid
    → new.canvas ≡ mid.canvas → new.reached.items ≡ mid.reached.items → AreSent (At at) A mid.roll.classes.items new.roll.classes.items → Keeps e old new
sent_kept e A place at old mid new sheet tops grows stand passed canvas same sent = record {
  kept = kept;
  tells = tells_by old.reached.items new.reached.items (MeetsFrom e A place old) (Meets e old)
      (λ k got m. (
        m.0,
        subst (λ ts. IsWithin ts m.0) tops m.2,
        λ next. future_here (aim_at k next) m.0 m.1 m.3 m.4 ∙ m.5 next,
      ))
      (tells_equal old.reached.items old.reached.items mid.reached.items new.reached.items (MeetsFrom e A place old) refl same passed.tells);
}
  where
    future_here : (aim : Aim) (p : List ℕ) (c : Class) → IsUsed old.roll.classes.items (class_at old p) c → A (class_at old p) ≡ true
        → future (course e aim p) aim.next old.roll.classes.items (class_at old p) p ≡ course e aim p place (transit_of c.progress p)
    future_here aim p c used a =
        let spot : c.spot ≡ At place = ap (λ k. k.spot) (same_Some c (record { spot = At place; progress = (stand (class_at old p) a).0 }) (sym used.0 ∙ (stand (class_at old p) a).1)) in
        future_of (course e aim p) aim.next old.roll.classes.items (class_at old p) c p used.0 ∙ ap (λ s. meant (course e aim p) aim.next s (transit_of c.progress p)) spot

    kept : (aim : Aim) (p : List ℕ) → IsOpen new.reached.items aim → IsWithin (tops_of e.ground.site.now) p
        → future (course e aim p) aim.next new.roll.classes.items (class_at new p) p ≡ future (course e aim p) aim.next old.roll.classes.items (class_at old p) p
    kept aim p free w =
        let inside : IsWithin (tops_in old) p = subst (λ ts. IsWithin ts p) (sym tops) w in
        let c = (sheet.used p inside).0 in
        let used = (sheet.used p inside).1 in
        ap (λ k. future (course e aim p) aim.next new.roll.classes.items (painted.value_at k p) p) canvas
        ∙ (elim (passed.kept aim p c (subst (λ xs. IsOpen xs aim) same free) inside used) [
          | inl h ↦ (
              let before = future_here aim p c used h.0 in
              elim h.1 [
                | inl s ↦ future_of (course e aim p) aim.next new.roll.classes.items (class_at mid p) (record c { spot = At at }) p
                    (sent_at (At at) A mid.roll.classes.items new.roll.classes.items (class_at mid p) c sent (ap A s.0 ∙ h.0) (ap (λ n. slice_get mid.roll.classes.items n) s.0 ∙ (grows (class_at old p) c used).0))
                    ∙ sym s.1 ∙ sym before
                | inr d ↦ future_of (course e aim p) aim.next new.roll.classes.items (class_at mid p) d.0 p
                    (sent_away (At at) A mid.roll.classes.items new.roll.classes.items (class_at mid p) sent (elim (cases_Bool (A (class_at mid p))) [
                      | inl a ↦ absurd (behind_away place mid.roll.classes.items (class_at mid p) d.0 (at_grows (At place) old.roll.classes.items mid.roll.classes.items A refl grows stand (class_at mid p) a) d.1.0 d.2)
                      | inr a ↦ a
                    ]) ∙ d.1.0)
                    ∙ d.3 ∙ sym before
              ])
          | inr h ↦ future_of (course e aim p) aim.next new.roll.classes.items (class_at mid p) c p
              (sent_away (At at) A mid.roll.classes.items new.roll.classes.items (class_at mid p) sent (ap A h.1 ∙ h.0) ∙ ap (λ n. slice_get mid.roll.classes.items n) h.1 ∙ (grows (class_at old p) c used).0)
              ∙ sym (future_of (course e aim p) aim.next old.roll.classes.items (class_at old p) c p used.0)
        ])

-- a sheet one of whose classes is put in the place of another is one
pub put_sheet : (number : ℕ) (d : Class) (old new : Sheet) → is_unused d.spot ≡ false → new.canvas ≡ old.canvas → new.hulls.items ≡ old.hulls.items → IsPut number d old.roll.classes.items new.roll.classes.items → IsSheet old → IsSheet new
put_sheet number d old new used canvas hulls put sheet = record { used = put_used; hulled = same_hulled old new canvas hulls sheet }
  where
    put_used : (p : List ℕ) → IsWithin (tops_in new) p → (c : Class) × IsUsed new.roll.classes.items (class_at new p) c
    put_used p w =
        let same : class_at new p ≡ class_at old p = ap (λ k. painted.value_at k p) canvas in
        let before = sheet.used p (subst (λ (k : Canvas). IsWithin (painted.tops_of k) p) canvas w) in
        elim (same_or_not (class_at old p) number) [
          | inl e ↦ (d, subst (λ n. IsUsed new.roll.classes.items n d) (sym (same ∙ e)) (put.0, used))
          | inr away ↦ (before.0, subst (λ n. IsUsed new.roll.classes.items n before.0) (sym same) (put.1 (class_at old p) away ∙ before.1.0, before.1.1))
        ]

-- what becomes of each packet stays, if a class passes an instruction as a whole whose uses were noted
pub whole_kept : (e : Errand) (place : ℕ) (ins : Ins) (number : ℕ) (c d : Class) (old mid new : Sheet) → IsSheet old → tops_in old ≡ tops_of e.ground.site.now
    → ((p : List ℕ) → class_at mid p ≡ class_at old p) → mid.roll.classes.items ≡ old.roll.classes.items
    → IsUsed old.roll.classes.items number c → c.spot ≡ At place → Goes (goings.Behind e.ground.state e.stage place ins.act) 1 c.progress d → IsPut number d mid.roll.classes.items new.roll.classes.items
    → new.canvas ≡ mid.canvas → new.reached.items ≡ mid.reached.items
    → ((p : List ℕ) → IsWithin (tops_in old) p → class_at old p ≡ number → holds ins.cond (sees e.ground.site.now (kind_of e.ground.state p) e.part (transit_of c.progress p)) ≡ true)
    → ((aim : Aim) (p : List ℕ) → Obeys e aim p place ins)
    → AreNoted (says_at place) (among (number ∷ [])) (λ g p. 1) old mid → Keeps e old new
whole_kept e place ins number c d old mid new sheet tops stays roll used spot goes put canvas same held obeys noted = record {
  kept = kept;
  tells = tells_by old.reached.items new.reached.items (IsSaid (says_at place) (among (number ∷ [])) (λ g p. 1) old) (Meets e old)
      (λ k got m. (
        m.0,
        subst (λ ts. IsWithin ts m.0) tops m.2,
        λ next. future_here (aim_at k next) m.0 (one_number (class_at old m.0) m.4)
            ∙ acts (aim_at k next) m.0 m.2 (one_number (class_at old m.0) m.4) ∙ used_caught e (aim_at k next) m.0 place ins (transit_of c.progress m.0) (eq-eqb k place (eqb-true k place m.5)),
      ))
      (tells_equal old.reached.items old.reached.items mid.reached.items new.reached.items (IsSaid (says_at place) (among (number ∷ [])) (λ g p. 1) old) refl same noted.tells);
}
  where
    one_number : (n : ℕ) → among (number ∷ []) n ≡ true → n ≡ number
    one_number n a = eqb-true n number (or_nothing (nat_eq n number) a)
      where
        or_nothing : (b : Bool) → (b || false) ≡ true → b ≡ true
        or_nothing true h = refl
        or_nothing false h = h

    number_one : (n : ℕ) → n ≡ number → among (number ∷ []) n ≡ true
    number_one n e = ap (λ b. b || false) (eq-eqb n number e)

    acts : (aim : Aim) (p : List ℕ) → IsWithin (tops_in old) p → class_at old p ≡ number → course e aim p place (transit_of c.progress p) ≡ course_used e aim p place ins (transit_of c.progress p)
    acts aim p inside here =
        obeys aim p (transit_of c.progress p)
        ∙ ap (λ b. cond b (course_used e aim p place ins (transit_of c.progress p)) (course e aim p (place + 1) (transit_of c.progress p))) (held p inside here)

    future_here : (aim : Aim) (p : List ℕ) → class_at old p ≡ number → future (course e aim p) aim.next old.roll.classes.items (class_at old p) p ≡ course e aim p place (transit_of c.progress p)
    future_here aim p here =
        ap (λ n. future (course e aim p) aim.next old.roll.classes.items n p) here ∙ future_of (course e aim p) aim.next old.roll.classes.items number c p used.0
        ∙ ap (λ s. meant (course e aim p) aim.next s (transit_of c.progress p)) spot

    kept : (aim : Aim) (p : List ℕ) → IsOpen new.reached.items aim → IsWithin (tops_of e.ground.site.now) p
        → future (course e aim p) aim.next new.roll.classes.items (class_at new p) p ≡ future (course e aim p) aim.next old.roll.classes.items (class_at old p) p
    kept aim p free w =
        let inside : IsWithin (tops_in old) p = subst (λ ts. IsWithin ts p) (sym tops) w in
        ap (λ k. future (course e aim p) aim.next new.roll.classes.items (painted.value_at k p) p) canvas
        ∙ ap (λ n. future (course e aim p) aim.next new.roll.classes.items n p) (stays p)
        ∙ elim (same_or_not (class_at old p) number) [
          | inl here ↦ (
              let out : aim.sought place ≡ false = unsought mid.reached.items aim place (subst (λ xs. IsOpen xs aim) same free)
              (noted.noted place (p, (sheet.used p inside).0, inside, (sheet.used p inside).1, number_one (class_at old p) here, eq-eqb place place refl)) in
              ap (λ n. future (course e aim p) aim.next new.roll.classes.items n p) here
              ∙ future_of (course e aim p) aim.next new.roll.classes.items number d p put.0 ∙ goes.1 (course e aim p) aim.next p
              ∙ sym (acts aim p inside here ∙ used_free e aim p place ins (transit_of c.progress p) out)
              ∙ sym (future_here aim p here))
          | inr away ↦ future_same (course e aim p) aim.next mid.roll.classes.items new.roll.classes.items (class_at old p) p (put.1 (class_at old p) away)
              ∙ ap (λ cs. future (course e aim p) aim.next cs (class_at old p) p) roll
        ]

-- what becomes of each packet stays, if a class without points is put in the place of another, since no uses of an instruction by them were found
pub pointless_kept : (e : Errand) (place number : ℕ) (d : Class) (old mid new : Sheet) → IsSheet old → tops_in old ≡ tops_of e.ground.site.now
    → ((p : List ℕ) → class_at mid p ≡ class_at old p) → mid.roll.classes.items ≡ old.roll.classes.items
    → IsPut number d mid.roll.classes.items new.roll.classes.items → new.canvas ≡ mid.canvas → new.reached.items ≡ mid.reached.items
    → AreNoted (says_at place) (among (number ∷ [])) (λ g p. 1) old mid → slice_get mid.reached.items place ≡ Some false → Keeps e old new
pointless_kept e place number d old mid new sheet tops stays roll put canvas same noted unfound = record {
  kept = kept;
  tells = tells_by old.reached.items new.reached.items (IsSaid (says_at place) (among (number ∷ [])) (λ g p. 1) old) (Meets e old)
      (λ k got m. absurd (pointless m.0 m.2 (one_number (class_at old m.0) m.4)))
      (tells_equal old.reached.items old.reached.items mid.reached.items new.reached.items (IsSaid (says_at place) (among (number ∷ [])) (λ g p. 1) old) refl same noted.tells);
}
  where
    one_number : (n : ℕ) → among (number ∷ []) n ≡ true → n ≡ number
    one_number n a = eqb-true n number (or_nothing (nat_eq n number) a)
      where
        or_nothing : (b : Bool) → (b || false) ≡ true → b ≡ true
        or_nothing true h = refl
        or_nothing false h = h

    pointless : (p : List ℕ) → IsWithin (tops_in old) p → class_at old p ≢ number
    pointless p inside here =
        noted.noted place (p, (sheet.used p inside).0, inside, (sheet.used p inside).1, ap (λ b. b || false) (eq-eqb (class_at old p) number here), eq-eqb place place refl) unfound

    kept : (aim : Aim) (p : List ℕ) → IsOpen new.reached.items aim → IsWithin (tops_of e.ground.site.now) p
        → future (course e aim p) aim.next new.roll.classes.items (class_at new p) p ≡ future (course e aim p) aim.next old.roll.classes.items (class_at old p) p
    kept aim p free w =
        let inside : IsWithin (tops_in old) p = subst (λ ts. IsWithin ts p) (sym tops) w in
        ap (λ k. future (course e aim p) aim.next new.roll.classes.items (painted.value_at k p) p) canvas
        ∙ ap (λ n. future (course e aim p) aim.next new.roll.classes.items n p) (stays p)
        ∙ future_same (course e aim p) aim.next mid.roll.classes.items new.roll.classes.items (class_at old p) p (put.1 (class_at old p) (pointless p inside))
        ∙ ap (λ cs. future (course e aim p) aim.next cs (class_at old p) p) roll

-- what becomes of each packet stays, if a class goes to where its packets come as they are
pub gone_kept : (e : Errand) (place to number : ℕ) (c : Class) (old new : Sheet) → tops_in old ≡ tops_of e.ground.site.now
    → IsUsed old.roll.classes.items number c → c.spot ≡ At place → IsPut number (record c { spot = At to }) old.roll.classes.items new.roll.classes.items
    → new.canvas ≡ old.canvas → new.reached.items ≡ old.reached.items → ComesTo e old number place to → Keeps e old new
gone_kept e place to number c old new tops used spot put canvas same comes = record {
  kept = kept;
  tells = tells_equal old.reached.items old.reached.items old.reached.items new.reached.items (Meets e old) refl same (tells_same old.reached.items (Meets e old));
}
  where
    kept : (aim : Aim) (p : List ℕ) → IsOpen new.reached.items aim → IsWithin (tops_of e.ground.site.now) p
        → future (course e aim p) aim.next new.roll.classes.items (class_at new p) p ≡ future (course e aim p) aim.next old.roll.classes.items (class_at old p) p
    kept aim p free w =
        let inside : IsWithin (tops_in old) p = subst (λ ts. IsWithin ts p) (sym tops) w in
        ap (λ k. future (course e aim p) aim.next new.roll.classes.items (painted.value_at k p) p) canvas
        ∙ elim (same_or_not (class_at old p) number) [
          | inl here ↦ ap (λ n. future (course e aim p) aim.next new.roll.classes.items n p) here
              ∙ future_of (course e aim p) aim.next new.roll.classes.items number (record c { spot = At to }) p put.0
              ∙ sym (comes aim c p (subst (λ xs. IsOpen xs aim) same free) used.0 inside here)
              ∙ sym (ap (λ n. future (course e aim p) aim.next old.roll.classes.items n p) here ∙ future_of (course e aim p) aim.next old.roll.classes.items number c p used.0
              ∙ ap (λ s. meant (course e aim p) aim.next s (transit_of c.progress p)) spot)
          | inr away ↦ future_same (course e aim p) aim.next old.roll.classes.items new.roll.classes.items (class_at old p) p (put.1 (class_at old p) away)
        ]

-- the same from a sheet with the same classes at the same points
pub noted_from : (says : ℕ → ℕ → Bool) (A : ℕ → Bool) (label : Progress → List ℕ → ℕ) (old mid new : Sheet) → ((p : List ℕ) → class_at mid p ≡ class_at old p) → mid.roll ≡ old.roll → tops_in mid ≡ tops_in old → mid.reached.items ≡ old.reached.items
    → AreNoted says A label mid new → AreNoted says A label old new
noted_from says A label old mid new same roll tops reached noted = record {
  noted = λ k m. noted.noted k (later k m);
  tells = tells_by old.reached.items new.reached.items (IsSaid says A label mid) (IsSaid says A label old) (λ k got m. earlier k m)
      (tells_equal old.reached.items mid.reached.items new.reached.items new.reached.items (IsSaid says A label mid) reached refl noted.tells);
}
  where
    later : (k : ℕ) → IsSaid says A label old k → IsSaid says A label mid k
    later k m = (
      m.0,
      m.1,
      subst (λ ts. IsWithin ts m.0) (sym tops) m.2,
      subst (λ n. IsUsed mid.roll.classes.items n m.1) (sym (same m.0)) (subst (λ (r : Roll). IsUsed r.classes.items (class_at old m.0) m.1) (sym roll) m.3),
      ap A (same m.0) ∙ m.4,
      m.5,
    )

    earlier : (k : ℕ) → IsSaid says A label mid k → IsSaid says A label old k
    earlier k m = (
      m.0,
      m.1,
      subst (λ ts. IsWithin ts m.0) tops m.2,
      subst (λ n. IsUsed old.roll.classes.items n m.1) (same m.0) (subst (λ (r : Roll). IsUsed r.classes.items (class_at mid m.0) m.1) roll m.3),
      ap A (sym (same m.0)) ∙ m.4,
      m.5,
    )

pub moved_from : (going : Going) (A : ℕ → Bool) (label : Progress → List ℕ → ℕ) (old mid new : Sheet) → ((p : List ℕ) → class_at mid p ≡ class_at old p) → mid.roll ≡ old.roll → tops_in mid ≡ tops_in old → AreMoved going A label mid new → AreMoved going A label old new
moved_from going A label old mid new same roll tops moved p c w used =
    subst (λ n. ((A n ≡ true) × (label c.progress p ≢ 0) × IsGone going (label c.progress p) c.progress new.roll.classes.items (class_at new p)) ⊎ ((A n ≡ true → label c.progress p ≡ 0) × (class_at new p ≡ n))) (same p)
    (moved p c (subst (λ ts. IsWithin ts p) (sym tops) w) (subst (λ n. IsUsed mid.roll.classes.items n c) (sym (same p)) (subst (λ (r : Roll). IsUsed r.classes.items (class_at old p) c) (sym roll) used)))

-- groups that pass a run together, and those that pass it by themselves
pub in_parts : (crowded : Bool) (groups : List Group) (n : ℕ) → is_in groups n ≡ (is_together crowded groups n || is_parted crowded groups n)
in_parts crowded [] n = refl
in_parts crowded (g ∷ groups) n = by (is_apart crowded g) (among g.numbers.items n) (is_in groups n) (is_together crowded groups n) (is_parted crowded groups n) (in_parts crowded groups n)
  where
    by : (a m i t q : Bool) → i ≡ (t || q) → (m || i) ≡ (((not a && m) || t) || ((a && m) || q))
    by true true i true q e = refl
    by true true i false q e = refl
    by true false i t q e = e
    by false true i t q e = refl
    by false false i t q e = e

-- a sheet with the same classes at the same points is one, and what becomes of each packet stays
pub same_sheet : (old new : Sheet) → new.canvas ≡ old.canvas → new.hulls.items ≡ old.hulls.items → new.roll.classes.items ≡ old.roll.classes.items → IsSheet old → IsSheet new
same_sheet old new canvas hulls classes sheet = record { used = same_used; hulled = same_hulled old new canvas hulls sheet }
  where
    same_used : (p : List ℕ) → IsWithin (tops_in new) p → (c : Class) × IsUsed new.roll.classes.items (class_at new p) c
    same_used p w =
        let before = sheet.used p (subst (λ (k : Canvas). IsWithin (painted.tops_of k) p) canvas w) in
        (before.0, subst (λ n. IsUsed new.roll.classes.items n before.0) (sym (ap (λ k. painted.value_at k p) canvas)) (ap (λ cs. slice_get cs (class_at old p)) classes ∙ before.1.0, before.1.1))

pub same_futures : (old new : Sheet) → new.canvas ≡ old.canvas → new.roll.classes.items ≡ old.roll.classes.items → KeepsFutures old new
same_futures old new canvas classes at next p w =
    ap (λ k. future at next new.roll.classes.items (painted.value_at k p) p) canvas
    ∙ ap (λ cs. future at next cs (class_at old p) p) classes
