-- How classes enter a part and leave it.
use Rattle.std.proofs.Common.{◌≡◌, ℕ, ◌-◌, ◌≤◌, Bool, true, false, cond, nat_lt, Option, Some, None, option_map, List, take, drop, slice_get, refl, sym, ◌∙◌, ap, subst, arith}
use Rattle.std.specs.Option.{option_map_or}
use Rattle.std.proofs.lemmas.Bool.{false≢true}
use Rattle.std.proofs.lemmas.Bool.Decides.{nat_tests}
use Rattle.fws_net.specs.declared.outcome.Outcome.TheVariants as outcomes
use Rattle.fws_net.specs.Points.{packet_of}
use Rattle.fws_exec.specs.declared.errand.Errand.{Errand}
use Rattle.fws_exec.specs.declared.progress.Progress.{Progress}
use Rattle.fws_exec.specs.declared.spot.Class.{Class}
use Rattle.fws_exec.specs.declared.spot.Spot.{Spot}
use Rattle.fws_exec.specs.declared.spot.Spot.TheVariants.{Unused, Dropped, At, Before}
use Rattle.fws_exec.specs.declared.spot.Stage.{Stage}
use Rattle.fws_exec.specs.declared.spot.Stage.TheVariants.{Arrive, Deliver, Forward, Send}
use Rattle.fws_exec.specs.declared.turn.Turn.{Turn}
use Rattle.fws_exec.specs.declared.turn.Turn.TheVariants.{Enter, Leave}
use Rattle.fws_flat.specs.declared.code.Part.{Part}
use Rattle.fws_exec.specs.Classes.{kind_of, meant, transit_of, untouched, future, same_stage, is_inside, is_before, is_unused}
use Rattle.fws_exec.specs.Courses.{fate, left, course, Aim}
use Rattle.fws_box.specs.Sides.{IsWithin}
use Rattle.fws_tree.specs.declared.canvas.Canvas.{Canvas}
use Rattle.fws_tree.specs.Painted as painted
use Rattle.fws_exec.specs.declared.sheet.Sheet.{Sheet}
use Rattle.fws_exec.specs.Sheets.{tops_in, class_at, IsSheet, IsUsed, stands}
use Rattle.fws_exec.proofs.Hulled.{same_hulled}
use Rattle.fws_exec.specs.Stages.{part_fate, turned, nowhere, through_part}

pub same_stages : (a b : Stage) → same_stage a b ≡ true → b ≡ a
same_stages Arrive Arrive h = refl
same_stages Deliver Deliver h = refl
same_stages Forward Forward h = refl
same_stages Send Send h = refl
same_stages Arrive Deliver h = absurd (false≢true h)
same_stages Arrive Forward h = absurd (false≢true h)
same_stages Arrive Send h = absurd (false≢true h)
same_stages Deliver Arrive h = absurd (false≢true h)
same_stages Deliver Forward h = absurd (false≢true h)
same_stages Deliver Send h = absurd (false≢true h)
same_stages Forward Arrive h = absurd (false≢true h)
same_stages Forward Deliver h = absurd (false≢true h)
same_stages Forward Send h = absurd (false≢true h)
same_stages Send Arrive h = absurd (false≢true h)
same_stages Send Deliver h = absurd (false≢true h)
same_stages Send Forward h = absurd (false≢true h)

-- what becomes of a class that enters
enter_meant : (e : Errand) (aim : Aim) (p : List ℕ) (s : Spot) (g : Progress) → is_inside s ≡ false
    → meant (course e aim p) aim.next (turned (Enter e.part e.stage) (record { spot = s; progress = g })).spot (transit_of (turned (Enter e.part e.stage) (record { spot = s; progress = g })).progress p)
    ≡ meant nowhere (through_part e.code.now e.ground.site.now e.ground.state e.stage e.part aim p) s (transit_of g p)
enter_meant e aim p Unused g h = refl
enter_meant e aim p Dropped g h = refl
enter_meant e aim p (At place) g h = absurd (false≢true (sym h))
enter_meant e aim p (Before other) g h = by (same_stage e.stage other) (same_stages e.stage other)
  where
    by : (b : Bool) → (b ≡ true → other ≡ e.stage)
        → meant (course e aim p) aim.next (cond {A = Class} b (record { spot = At e.part.first; progress = record g { verdict = e.part.end } }) (record { spot = Before other; progress = g })).spot (transit_of (cond {A = Class} b (record { spot = At e.part.first; progress = record g { verdict = e.part.end } }) (record { spot = Before other; progress = g })).progress p)
        ≡ cond b (part_fate e.code.now e.ground.site.now (packet_of p) (kind_of e.ground.state p) aim.sought e.part (aim.next other) (transit_of g p)) (aim.next other (transit_of g p))
    by true same = ap (λ k. part_fate e.code.now e.ground.site.now (packet_of p) (kind_of e.ground.state p) aim.sought e.part (aim.next k) (transit_of g p)) (sym (same refl))
    by false same = refl

-- the class behind a part, by the verdict
abbrev behind : Stage → Progress → Bool → Class
behind stage g verdict = cond {A = Class} verdict (record { spot = Before stage; progress = g }) (record { spot = Dropped; progress = untouched })

-- what becomes of a class that leaves
leave_meant : (e : Errand) (aim : Aim) (p : List ℕ) (s : Spot) (g : Progress) → is_before e.part.past s ≡ false
    → meant nowhere aim.next (turned (Leave e.stage) (record { spot = s; progress = g })).spot (transit_of (turned (Leave e.stage) (record { spot = s; progress = g })).progress p)
    ≡ meant (course e aim p) aim.next s (transit_of g p)
leave_meant e aim p Unused g h = refl
leave_meant e aim p Dropped g h = refl
leave_meant e aim p (Before other) g h = refl
leave_meant e aim p (At place) g h =
    by g.verdict
    ∙ ap (λ k. fate e.ground.site.now (packet_of p) (kind_of e.ground.state p) e.part aim.sought (aim.next e.stage) place (take k (drop place e.code.now)) 0 (transit_of g p)) (sym (none_left e.part.past place h))
  where
    none_left : (past place : ℕ) → nat_lt place past ≡ false → past - place ≡ 0
    none_left past place h = let le : past ≤ place = grind (arith, nat_tests) in omega arith

    by : (b : Bool) → meant nowhere aim.next (behind e.stage g b).spot (transit_of (behind e.stage g b).progress p) ≡ left (aim.next e.stage) (cond b (Some (transit_of g p)) None)
    by true = refl
    by false = refl

enter_inside : (e : Errand) (s : Spot) (g : Progress) → is_inside s ≡ false → is_before e.part.first (turned (Enter e.part e.stage) (record { spot = s; progress = g })).spot ≡ false
enter_inside e Unused g h = refl
enter_inside e Dropped g h = refl
enter_inside e (At place) g h = absurd (false≢true (sym h))
enter_inside e (Before other) g h = by (same_stage e.stage other)
  where
    by : (b : Bool) → is_before e.part.first (cond {A = Class} b (record { spot = At e.part.first; progress = record g { verdict = e.part.end } }) (record { spot = Before other; progress = g })).spot ≡ false
    by true = self e.part.first
      where
        self : (n : ℕ) → nat_lt n n ≡ false
        self n = grind (arith, nat_tests)
    by false = refl

leave_inside : (stage : Stage) (s : Spot) (g : Progress) → is_inside (turned (Leave stage) (record { spot = s; progress = g })).spot ≡ false
leave_inside stage Unused g = refl
leave_inside stage Dropped g = refl
leave_inside stage (Before other) g = refl
leave_inside stage (At place) g = by g.verdict
  where
    by : (b : Bool) → is_inside (behind stage g b).spot ≡ false
    by true = refl
    by false = refl

-- the same for classes by number
pub enter_future : (e : Errand) (aim : Aim) (p : List ℕ) (old new : List Class) (n : ℕ) → slice_get new n ≡ option_map (turned (Enter e.part e.stage)) (slice_get old n) → stands is_inside old n ≡ false
    → future (course e aim p) aim.next new n p ≡ future nowhere (through_part e.code.now e.ground.site.now e.ground.state e.stage e.part aim p) old n p
enter_future e aim p old new n step out =
    ap (λ (o : Option Class). option_map_or (λ c. meant (course e aim p) aim.next c.spot (transit_of c.progress p)) o outcomes.Drop) step ∙ by (slice_get old n) out
  where
    by : (o : Option Class) → option_map_or (λ c. is_inside c.spot) o false ≡ false
        → option_map_or (λ c. meant (course e aim p) aim.next c.spot (transit_of c.progress p)) (option_map (turned (Enter e.part e.stage)) o) outcomes.Drop
        ≡ option_map_or (λ c. meant nowhere (through_part e.code.now e.ground.site.now e.ground.state e.stage e.part aim p) c.spot (transit_of c.progress p)) o outcomes.Drop
    by None h = refl
    by (Some c) h = enter_meant e aim p c.spot c.progress h

pub leave_future : (e : Errand) (aim : Aim) (p : List ℕ) (old new : List Class) (n : ℕ) → slice_get new n ≡ option_map (turned (Leave e.stage)) (slice_get old n) → stands (is_before e.part.past) old n ≡ false
    → future nowhere aim.next new n p ≡ future (course e aim p) aim.next old n p
leave_future e aim p old new n step out =
    ap (λ (o : Option Class). option_map_or (λ c. meant nowhere aim.next c.spot (transit_of c.progress p)) o outcomes.Drop) step ∙ by (slice_get old n) out
  where
    by : (o : Option Class) → option_map_or (λ c. is_before e.part.past c.spot) o false ≡ false
        → option_map_or (λ c. meant nowhere aim.next c.spot (transit_of c.progress p)) (option_map (turned (Leave e.stage)) o) outcomes.Drop
        ≡ option_map_or (λ c. meant (course e aim p) aim.next c.spot (transit_of c.progress p)) o outcomes.Drop
    by None h = refl
    by (Some c) h = leave_meant e aim p c.spot c.progress h

pub enter_stands : (e : Errand) (old new : List Class) (n : ℕ) → slice_get new n ≡ option_map (turned (Enter e.part e.stage)) (slice_get old n) → stands is_inside old n ≡ false → stands (is_before e.part.first) new n ≡ false
enter_stands e old new n step out = ap (λ (o : Option Class). option_map_or (λ c. is_before e.part.first c.spot) o false) step ∙ by (slice_get old n) out
  where
    by : (o : Option Class) → option_map_or (λ c. is_inside c.spot) o false ≡ false → option_map_or (λ c. is_before e.part.first c.spot) (option_map (turned (Enter e.part e.stage)) o) false ≡ false
    by None h = refl
    by (Some c) h = enter_inside e c.spot c.progress h

pub leave_stands : (stage : Stage) (old new : List Class) (n : ℕ) → slice_get new n ≡ option_map (turned (Leave stage)) (slice_get old n) → stands is_inside new n ≡ false
leave_stands stage old new n step = ap (λ (o : Option Class). option_map_or (λ c. is_inside c.spot) o false) step ∙ by (slice_get old n)
  where
    by : (o : Option Class) → option_map_or (λ c. is_inside c.spot) (option_map (turned (Leave stage)) o) false ≡ false
    by None = refl
    by (Some c) = leave_inside stage c.spot c.progress

-- a class that enters or leaves is unused only if it was
enter_unused : (part : Part) (stage : Stage) (s : Spot) (g : Progress) → is_unused (turned (Enter part stage) (record { spot = s; progress = g })).spot ≡ is_unused s
enter_unused part stage Unused g = refl
enter_unused part stage Dropped g = refl
enter_unused part stage (At place) g = refl
enter_unused part stage (Before other) g = by (same_stage stage other)
  where
    by : (b : Bool) → is_unused (cond {A = Class} b (record { spot = At part.first; progress = record g { verdict = part.end } }) (record { spot = Before other; progress = g })).spot ≡ false
    by true = refl
    by false = refl

leave_unused : (stage : Stage) (s : Spot) (g : Progress) → is_unused (turned (Leave stage) (record { spot = s; progress = g })).spot ≡ is_unused s
leave_unused stage Unused g = refl
leave_unused stage Dropped g = refl
leave_unused stage (Before other) g = refl
leave_unused stage (At place) g = by g.verdict
  where
    by : (b : Bool) → is_unused (behind stage g b).spot ≡ false
    by true = refl
    by false = refl

turn_unused : (turn : Turn) (c : Class) → is_unused (turned turn c).spot ≡ is_unused c.spot
turn_unused (Enter part stage) c = enter_unused part stage c.spot c.progress
turn_unused (Leave stage) c = leave_unused stage c.spot c.progress

-- a sheet whose classes enter or leave is one
pub turned_sheet : (turn : Turn) (old new : Sheet) → IsSheet old → new.canvas ≡ old.canvas → new.hulls.items ≡ old.hulls.items
    → ((n : ℕ) → slice_get new.roll.classes.items n ≡ option_map (turned turn) (slice_get old.roll.classes.items n)) → IsSheet new
turned_sheet turn old new sheet canvas hulls step = record { used = turned_used; hulled = same_hulled old new canvas hulls sheet }
  where
    turned_used : (p : List ℕ) → IsWithin (tops_in new) p → (c : Class) × IsUsed new.roll.classes.items (class_at new p) c
    turned_used p w =
        let same : class_at new p ≡ class_at old p = ap (λ k. painted.value_at k p) canvas in
        let before = sheet.used p (subst (λ (k : Canvas). IsWithin (painted.tops_of k) p) canvas w) in
        let got : slice_get new.roll.classes.items (class_at old p) ≡ Some (turned turn before.0) = step (class_at old p) ∙ ap (option_map (turned turn)) before.1.0 in
        (turned turn before.0, subst (λ n. IsUsed new.roll.classes.items n (turned turn before.0)) (sym same) (got, turn_unused turn before.0 ∙ before.1.1))
