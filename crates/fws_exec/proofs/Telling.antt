-- What is told of uses by one step after another.
use Rattle.std.proofs.Common.{◌≡◌, ◌≢◌, ℕ, Bool, false, Some, List, slice_get, inl, inr, refl, sym, ◌∙◌, subst}
use Rattle.std.proofs.lemmas.Bool.{cases_Bool, eqb-true, false≢true}
use Rattle.fws_box.specs.Sides.{IsWithin}
use Rattle.fws_net.specs.declared.outcome.Outcome.{Outcome}
use Rattle.fws_net.specs.declared.site.Site.{Site}
use Rattle.fws_net.specs.declared.transit.Transit.{Transit}
use Rattle.fws_net.specs.Points.{tops_of}
use Rattle.fws_exec.specs.declared.errand.Errand.{Errand}
use Rattle.fws_exec.specs.declared.sheet.Sheet.{Sheet}
use Rattle.fws_exec.specs.declared.spot.Stage.{Stage}
use Rattle.fws_exec.specs.Classes.{future}
use Rattle.fws_exec.specs.Courses.{aim_at, course, Aim, IsOpen, Keeps, Meets, Tells}
use Rattle.fws_exec.specs.Sheets.{class_at, tops_in, KeepsFutures}
use Rattle.fws_exec.specs.Stages.{nowhere, through_part, Becomes, MeetsBefore}
use Rattle.fws_exec.proofs.Meaning.{future_by}

-- what isn't reached behind a step wasn't before it
pub open_before : (old new : List Bool) (meets : ℕ → Type 0) (aim : Aim) → Tells old new meets → IsOpen new aim → IsOpen old aim
open_before old new meets aim told free k s = told.opens k (free k s)

-- nothing is sought
pub open_none : (xs : List Bool) (next : Stage → Transit → Outcome) → IsOpen xs (record { next = next; sought = λ n. false })
open_none xs next k s = absurd (false≢true s)

-- one instruction is sought
pub open_at : (xs : List Bool) (n : ℕ) (next : Stage → Transit → Outcome) → slice_get xs n ≡ Some false → IsOpen xs (aim_at n next)
open_at xs n next got k e = subst (λ j. slice_get xs j ≡ Some false) (eqb-true n k e) got

-- what was reached, or isn't asked for, isn't sought
pub unsought : (xs : List Bool) (aim : Aim) (k : ℕ) → IsOpen xs aim → slice_get xs k ≢ Some false → aim.sought k ≡ false
unsought xs aim k free known = elim (cases_Bool (aim.sought k)) [ inl s ↦ absurd (known (free k s)) | inr s ↦ s ]

pub tells_same : (xs : List Bool) (meets : ℕ → Type 0) → Tells xs xs meets
tells_same xs meets = record { count = refl; opens = λ k h. h; found = λ k h. inl h }

pub tells_then : (old mid new : List Bool) (first second both : ℕ → Type 0) → Tells old mid first → Tells mid new second → ((k : ℕ) → first k → both k) → ((k : ℕ) → slice_get mid k ≡ Some false → second k → both k) → Tells old new both
tells_then old mid new first second both f g early late = record {
  count = g.count ∙ f.count;
  opens = λ k h. f.opens k (g.opens k h);
  found = λ k h. elim (g.found k h) [
    | inl before ↦ elim (f.found k before) [ inl o ↦ inl o | inr n ↦ inr (n.0, early k n.1) ]
    | inr n ↦ inr (f.opens k n.0, late k n.0 n.1)
  ];
}

-- what is met otherwise
pub tells_by : (old new : List Bool) (first second : ℕ → Type 0) → ((k : ℕ) → slice_get old k ≡ Some false → first k → second k) → Tells old new first → Tells old new second
tells_by old new first second by f = record {
  count = f.count;
  opens = f.opens;
  found = λ k h. elim (f.found k h) [ inl o ↦ inl o | inr n ↦ inr (n.0, by k n.0 n.1) ];
}

-- what is told of equal lists
pub tells_equal : (old mid late new : List Bool) (meets : ℕ → Type 0) → mid ≡ old → new ≡ late → Tells mid late meets → Tells old new meets
tells_equal old mid late new meets before after told = subst (λ xs. Tells xs new meets) before (subst (λ xs. Tells mid xs meets) (sym after) told)

pub keeps_same : (e : Errand) (s : Sheet) → Keeps e s s
keeps_same e s = record { kept = λ aim p free w. refl; tells = tells_same s.reached.items (Meets e s) }

pub keeps_then : (e : Errand) (old mid new : Sheet) → Keeps e old mid → Keeps e mid new → Keeps e old new
keeps_then e old mid new f g = record {
  kept = λ aim p free w. g.kept aim p free w ∙ f.kept aim p (open_before mid.reached.items new.reached.items (Meets e mid) aim g.tells free) w;
  tells = tells_then old.reached.items mid.reached.items new.reached.items (Meets e old) (Meets e mid) (Meets e old) f.tells g.tells (λ k m. m)
      (λ k got m. (m.0, m.1, λ next. sym (f.kept (aim_at k next) m.0 (open_at mid.reached.items k next got) m.1) ∙ m.2 next));
}

-- a step that keeps what becomes of packets, whatever becomes of them at instructions
pub keeps_by : (e : Errand) (old new : Sheet) → tops_in old ≡ tops_of e.ground.site.now → new.reached.items ≡ old.reached.items → KeepsFutures old new → Keeps e old new
keeps_by e old new tops same kept = record {
  kept = λ aim p free w. kept (course e aim p) aim.next p (subst (λ ts. IsWithin ts p) (sym tops) w);
  tells = tells_equal old.reached.items old.reached.items old.reached.items new.reached.items (Meets e old) refl same (tells_same old.reached.items (Meets e old));
}

-- classes enter a part, pass it, and leave it
pub crossed : (e : Errand) (old mid late new : Sheet) → mid.reached.items ≡ old.reached.items → new.reached.items ≡ late.reached.items → Keeps e mid late
    → ((aim : Aim) (p : List ℕ) → IsWithin (tops_of e.ground.site.now) p
    → future (course e aim p) aim.next mid.roll.classes.items (class_at mid p) p ≡ future nowhere (through_part e.code.now e.ground.site.now e.ground.state e.stage e.part aim p) old.roll.classes.items (class_at old p) p)
    → ((aim : Aim) (p : List ℕ) → IsWithin (tops_of e.ground.site.now) p
    → future nowhere aim.next new.roll.classes.items (class_at new p) p ≡ future (course e aim p) aim.next late.roll.classes.items (class_at late p) p)
    → Becomes e.ground.site.now old new (through_part e.code.now e.ground.site.now e.ground.state e.stage e.part)
crossed e old mid late new before after keeps enter leave = record {
  kept = λ aim p free w. leave aim p w ∙ keeps.kept aim p (subst (λ xs. IsOpen xs aim) after free) w ∙ enter aim p w;
  tells = tells_by old.reached.items new.reached.items (Meets e mid) (MeetsBefore e.ground.site.now old (through_part e.code.now e.ground.site.now e.ground.state e.stage e.part))
      (λ k got m. (m.0, m.1, λ next. sym (enter (aim_at k next) m.0 m.1) ∙ m.2 next))
      (tells_equal old.reached.items mid.reached.items late.reached.items new.reached.items (Meets e mid) before after keeps.tells);
}

-- by two rules: what becomes of each packet in the second sheet by the one is what becomes of it in the first by the other
pub record Comes (site : Site) (old new : Sheet) (before behind : Aim → List ℕ → Stage → Transit → Outcome) : Type 0 where
  pub kept : (aim : Aim) (p : List ℕ) → IsOpen new.reached.items aim → IsWithin (tops_of site) p
      → future nowhere (behind aim p) new.roll.classes.items (class_at new p) p ≡ future nowhere (before aim p) old.roll.classes.items (class_at old p) p
  pub tells : Tells old.reached.items new.reached.items (MeetsBefore site old before)

pub comes_same : (site : Site) (s : Sheet) (f : Aim → List ℕ → Stage → Transit → Outcome) → Comes site s s f f
comes_same site s f = record { kept = λ aim p free w. refl; tells = tells_same s.reached.items (MeetsBefore site s f) }

-- one step more, of which what is left ahead of it is that behind it with the step in front
pub comes_then : (site : Site) (old mid new : Sheet) (f g h step : Aim → List ℕ → Stage → Transit → Outcome)
    → ((aim : Aim) (p : List ℕ) (other : Stage) (t : Transit) → step (record { next = h aim p; sought = aim.sought }) p other t ≡ g aim p other t)
    → Comes site old mid f g → Becomes site mid new step → Comes site old new f h
comes_then site old mid new f g h step ahead one two = record {
  kept = λ aim p free w. two.kept (record { next = h aim p; sought = aim.sought }) p free w
      ∙ future_by nowhere (step (record { next = h aim p; sought = aim.sought }) p) (g aim p) mid.roll.classes.items (class_at mid p) p (ahead aim p)
      ∙ one.kept aim p (open_before mid.reached.items new.reached.items (MeetsBefore site mid step) aim two.tells free) w;
  tells = tells_then old.reached.items mid.reached.items new.reached.items (MeetsBefore site old f) (MeetsBefore site mid step) (MeetsBefore site old f) one.tells two.tells (λ k m. m)
      (λ k got m. (
        m.0,
        m.1,
        λ next. sym (one.kept (aim_at k next) m.0 (open_at mid.reached.items k next got) m.1)
            ∙ sym (future_by nowhere (step (aim_at k (h (aim_at k next) m.0)) m.0) (g (aim_at k next) m.0) mid.roll.classes.items (class_at mid m.0) m.0 (ahead (aim_at k next) m.0))
            ∙ m.2 (h (aim_at k next) m.0),
      ));
}

-- nothing is left
pub comes_all : (site : Site) (old new : Sheet) (f g : Aim → List ℕ → Stage → Transit → Outcome) → ((aim : Aim) (p : List ℕ) (other : Stage) (t : Transit) → aim.next other t ≡ g aim p other t) → Comes site old new f g → Becomes site old new f
comes_all site old new f g none comes = record {
  kept = λ aim p free w. future_by nowhere aim.next (g aim p) new.roll.classes.items (class_at new p) p (none aim p) ∙ comes.kept aim p free w;
  tells = comes.tells;
}

-- stages one after another
pub becomes_then : (site : Site) (old mid new : Sheet) (f g : Aim → List ℕ → Stage → Transit → Outcome) → Becomes site old mid f → Becomes site mid new g → Becomes site old new (λ aim p. f (record { next = g aim p; sought = aim.sought }) p)
becomes_then site old mid new f g one two = record {
  kept = λ aim p free w. two.kept aim p free w ∙ one.kept (record { next = g aim p; sought = aim.sought }) p (open_before mid.reached.items new.reached.items (MeetsBefore site mid g) aim two.tells free) w;
  tells = tells_then old.reached.items mid.reached.items new.reached.items (MeetsBefore site old f) (MeetsBefore site mid g) (MeetsBefore site old (λ aim p. f (record { next = g aim p; sought = aim.sought }) p)) one.tells two.tells
      (λ k m. (m.0, m.1, λ next. m.2 (g (aim_at k next) m.0)))
      (λ k got m. (m.0, m.1, λ next. sym (one.kept (aim_at k (g (aim_at k next) m.0)) m.0 (open_at mid.reached.items k (g (aim_at k next) m.0) got) m.1) ∙ m.2 next));
}
