-- How classes are routed, and where packets come in.
use Rattle.std.proofs.Common.{◌≡◌, ◌≢◌, ℕ, Bool, true, false, cond, nat_eq, Option, Some, None, option_map, List, [], ◌∷◌, slice_get, inl, inr, refl, sym, ◌∙◌, ap, subst, arith}
use Rattle.std.specs.Option.{option_map_or}
use Rattle.std.proofs.lemmas.Bool.{cases_Bool, false≢true}
use Rattle.std.proofs.lemmas.Option.{same_Some}
use Rattle.fws_box.specs.Sides.{IsWithin, sides_have}
use Rattle.fws_flat.specs.declared.code.Part.{Part}
use Rattle.fws_iv.specs.declared.iv.Iv.{Iv}
use Rattle.fws_net.specs.declared.condition.Lit.{Lit}
use Rattle.fws_net.specs.declared.outcome.Outcome.{Outcome}
use Rattle.fws_net.specs.declared.outcome.Outcome.TheVariants as outcomes
use Rattle.fws_net.specs.declared.packet.State.{State}
use Rattle.fws_net.specs.declared.site.Site.{Site}
use Rattle.fws_net.specs.declared.transit.Transit.{Transit}
use Rattle.fws_net.specs.declared.view.View.{View}
use Rattle.fws_net.specs.Conditions.{holds}
use Rattle.fws_net.specs.Points.{packet_of, tops_of}
use Rattle.fws_net.specs.Routes.{is_local}
use Rattle.fws_net.specs.Transits.{entered}
use Rattle.fws_tree.specs.declared.mark.Mark.{Mark}
use Rattle.fws_tree.specs.Marks.{mark_at, sides_of}
use Rattle.fws_tree.specs.Painted as painted
use Rattle.fws_exec.specs.declared.going.Going.TheVariants as goings
use Rattle.fws_exec.specs.declared.progress.Progress.{Progress}
use Rattle.fws_exec.specs.declared.sheet.Sheet.{Sheet}
use Rattle.fws_exec.specs.declared.spot.Class.{Class}
use Rattle.fws_exec.specs.declared.spot.Spot.{Spot}
use Rattle.fws_exec.specs.declared.spot.Spot.TheVariants.{Unused, Dropped, At, Before}
use Rattle.fws_exec.specs.declared.spot.Stage.{Stage}
use Rattle.fws_exec.specs.declared.spot.Stage.TheVariants.{Arrive, Deliver, Forward, Send}
use Rattle.fws_exec.specs.Courses.{Aim, IsOpen}
use Rattle.fws_exec.specs.Classes.{transit_of, meant, future, is_inside, is_at_stage, is_unused}
use Rattle.fws_exec.specs.Divided.{held, says_of, seen_at, AreMoved, AreNoted, IsSaid}
use Rattle.fws_exec.specs.Moving.{IsGrown}
use Rattle.fws_exec.specs.Sheets.{tops_in, class_at, stands, IsUsed, Grows, IsSheet, StandsAt, AllAt, AreSent}
use Rattle.fws_exec.specs.Stages.{nowhere, coming_in, Becomes, IsWhole, MeetsBefore, through_routing, onward_spot}
use Rattle.fws_exec.proofs.Moved.{at_grows, away}
use Rattle.fws_exec.proofs.Passed.{sent_at, sent_away}
use Rattle.fws_exec.proofs.Putting.{future_of}
use Rattle.fws_exec.proofs.Telling.{tells_by, tells_equal}

-- the part without instructions, between those of a packet's way
abbrev pub between : Part
between = record { first = 0; past = 0; shows_recv = true; shows_xmit = false; outward = false; end = true }

-- where a packet goes on that isn't delivered
onward : (f : Bool) (next : Stage → Transit → Outcome) (t : Transit) → meant nowhere next (onward_spot f) t ≡ cond f (next Forward t) outcomes.Drop
onward true next t = refl
onward false next t = refl

onward_outside : (f : Bool) → is_inside (onward_spot f) ≡ false
onward_outside true = refl
onward_outside false = refl

pub onward_used : (f : Bool) → is_unused (onward_spot f) ≡ false
onward_used true = refl
onward_used false = refl

some_held : (b : Bool) → cond {A = ℕ} b 1 0 ≢ 0 → b ≡ true
some_held true h = refl
some_held false h = absurd (h refl)

none_held : (b : Bool) → cond {A = ℕ} b 1 0 ≡ 0 → b ≡ false
none_held false h = refl
none_held true h = absurd (omega arith)

-- a class that stands elsewhere than before routing has its own future there
not_arriving : (site : Site) (aim : Aim) (p : List ℕ) (s : Spot) (t : Transit) → (s ≡ Before Arrive → ⊥) → meant nowhere aim.next s t ≡ meant nowhere (through_routing site aim p) s t
not_arriving site aim p Unused t h = refl
not_arriving site aim p Dropped t h = refl
not_arriving site aim p (At place) t h = refl
not_arriving site aim p (Before Arrive) t h = absurd (h refl)
not_arriving site aim p (Before Deliver) t h = refl
not_arriving site aim p (Before Forward) t h = refl
not_arriving site aim p (Before Send) t h = refl

pub deliver_apart : Before Deliver ≢ Before Arrive
deliver_apart e = false≢true (ap (is_at_stage Arrive) e)

pub send_apart : Before Send ≢ Before Arrive
send_apart e = false≢true (ap (is_at_stage Arrive) e)

-- all classes before routing are routed
pub routed : (site : Site) (state : State) (part : Part) (lits : List Lit) (A : ℕ → Bool) (old mid new : Sheet) → IsSheet old → tops_in old ≡ tops_of site
    → ((v : View) → holds lits v ≡ is_local site v.packet.dst) → AllAt (Before Arrive) old.roll.classes.items A → ((n : ℕ) → StandsAt (Before Arrive) old.roll.classes.items n → A n ≡ true)
    → Grows old.roll.classes.items mid.roll.classes.items → AreMoved (goings.To (Before Deliver)) A (held site state part lits) old mid
    → new.canvas ≡ mid.canvas → new.reached.items ≡ mid.reached.items → AreNoted (says_of (goings.To (Before Deliver))) A (held site state part lits) old mid → AreSent (onward_spot site.forwarding) A mid.roll.classes.items new.roll.classes.items → Becomes site old new (through_routing site)
routed site state part lits A old mid new sheet tops local stand all grows moved canvas same noted sent = record {
  kept = kept;
  tells = tells_by old.reached.items new.reached.items (IsSaid (says_of (goings.To (Before Deliver))) A (held site state part lits) old) (MeetsBefore site old (through_routing site)) (λ k got m. absurd (false≢true m.5))
      (tells_equal old.reached.items old.reached.items mid.reached.items new.reached.items (IsSaid (says_of (goings.To (Before Deliver))) A (held site state part lits) old) refl same noted.tells);
}
  where
    kept : (aim : Aim) (p : List ℕ) → IsOpen new.reached.items aim → IsWithin (tops_of site) p → future nowhere aim.next new.roll.classes.items (class_at new p) p ≡ future nowhere (through_routing site aim p) old.roll.classes.items (class_at old p) p
    kept aim p free w =
        let inside : IsWithin (tops_in old) p = subst (λ ts. IsWithin ts p) (sym tops) w in
        let c = (sheet.used p inside).0 in
        let used = (sheet.used p inside).1 in
        ap (λ k. future nowhere aim.next new.roll.classes.items (painted.value_at k p) p) canvas
        ∙ elim (moved p c inside used) [
          | inl h ↦ (
              let spot : c.spot ≡ Before Arrive = ap (λ k. k.spot) (same_Some c (record { spot = Before Arrive; progress = (stand (class_at old p) h.0).0 }) (sym used.0 ∙ (stand (class_at old p) h.0).1)) in
              future_of nowhere aim.next new.roll.classes.items (class_at mid p) h.2.0 p
              (sent_away (onward_spot site.forwarding) A mid.roll.classes.items new.roll.classes.items (class_at mid p) sent (elim (cases_Bool (A (class_at mid p))) [
                | inl a ↦ absurd (away (Before Arrive) mid.roll.classes.items (class_at mid p) h.2.0 (at_grows (Before Arrive) old.roll.classes.items mid.roll.classes.items A refl grows stand (class_at mid p) a) h.2.1.0 (λ e. deliver_apart (sym h.2.2.0 ∙ e)))
                | inr a ↦ a
              ]) ∙ h.2.1.0)
              ∙ h.2.2.1 nowhere aim.next p
              ∙ ap (λ b. cond b (aim.next Deliver (transit_of c.progress p)) (cond site.forwarding (aim.next Forward (transit_of c.progress p)) outcomes.Drop)) (sym (sym (local (seen_at site state part c.progress p)) ∙ some_held (holds lits (seen_at site state part c.progress p)) h.1))
              ∙ sym (future_of nowhere (through_routing site aim p) old.roll.classes.items (class_at old p) c p used.0 ∙ ap (λ s. meant nowhere (through_routing site aim p) s (transit_of c.progress p)) spot))
          | inr h ↦ elim (cases_Bool (A (class_at old p))) [
            | inl a ↦ (
                let spot : c.spot ≡ Before Arrive = ap (λ k. k.spot) (same_Some c (record { spot = Before Arrive; progress = (stand (class_at old p) a).0 }) (sym used.0 ∙ (stand (class_at old p) a).1)) in
                future_of nowhere aim.next new.roll.classes.items (class_at mid p) (record c { spot = onward_spot site.forwarding }) p
                (sent_at (onward_spot site.forwarding) A mid.roll.classes.items new.roll.classes.items (class_at mid p) c sent (ap A h.1 ∙ a) (ap (λ n. slice_get mid.roll.classes.items n) h.1 ∙ (grows (class_at old p) c used).0))
                ∙ onward site.forwarding aim.next (transit_of c.progress p)
                ∙ ap (λ b. cond b (aim.next Deliver (transit_of c.progress p)) (cond site.forwarding (aim.next Forward (transit_of c.progress p)) outcomes.Drop)) (sym (sym (local (seen_at site state part c.progress p)) ∙ none_held (holds lits (seen_at site state part c.progress p)) (h.0 a)))
                ∙ sym (future_of nowhere (through_routing site aim p) old.roll.classes.items (class_at old p) c p used.0 ∙ ap (λ s. meant nowhere (through_routing site aim p) s (transit_of c.progress p)) spot))
            | inr a ↦ future_of nowhere aim.next new.roll.classes.items (class_at mid p) c p
                (sent_away (onward_spot site.forwarding) A mid.roll.classes.items new.roll.classes.items (class_at mid p) sent (ap A h.1 ∙ a) ∙ ap (λ n. slice_get mid.roll.classes.items n) h.1 ∙ (grows (class_at old p) c used).0)
                ∙ not_arriving site aim p c.spot (transit_of c.progress p) (λ e. false≢true (sym a ∙ all (class_at old p) (c.progress, used.0 ∙ ap (λ (s : Spot). Some (record { spot = s; progress = c.progress })) e)))
                ∙ sym (future_of nowhere (through_routing site aim p) old.roll.classes.items (class_at old p) c p used.0)
          ]
        ]

-- no class stands at an instruction then
pub routed_outside : (f : Bool) (A : ℕ → Bool) (old mid new : List Class) → ((n : ℕ) → stands is_inside old n ≡ false) → IsGrown (goings.To (Before Deliver)) old mid → AreSent (onward_spot f) A mid new → (n : ℕ) → stands is_inside new n ≡ false
routed_outside f A old mid new outside grown sent n = elim (cases_Bool (A n)) [
  | inl a ↦ ap (λ (o : Option Class). option_map_or (λ c. is_inside c.spot) o false) (sent n ∙ ap (λ b. cond b (option_map {T = Class} (λ d. record d { spot = onward_spot f }) (slice_get mid n)) (slice_get mid n)) a) ∙ there (slice_get mid n)
  | inr a ↦ ap (λ (o : Option Class). option_map_or (λ c. is_inside c.spot) o false) (sent_away (onward_spot f) A mid new n sent a) ∙ grown.comes is_inside (λ l. refl) n (outside n)
]
  where
    there : (o : Option Class) → option_map_or (λ c. is_inside c.spot) (option_map {T = Class} (λ d. record d { spot = onward_spot f }) o) false ≡ false
    there None = refl
    there (Some c) = onward_outside f

-- a class that stands elsewhere than before arrival doesn't come in
not_coming : (next : Stage → Transit → Outcome) (p : List ℕ) (s : Spot) (t : Transit) → (s ≡ Before Arrive → ⊥) → meant nowhere next s t ≡ meant nowhere (coming_in next p) s t
not_coming next p Unused t h = refl
not_coming next p Dropped t h = refl
not_coming next p (At place) t h = refl
not_coming next p (Before Arrive) t h = absurd (h refl)
not_coming next p (Before Deliver) t h = refl
not_coming next p (Before Forward) t h = refl
not_coming next p (Before Send) t h = refl

-- packets before arrival come in: those of the host are sent, and all others arrive
pub came_in : (site : Site) (state : State) (part : Part) (lits : List Lit) (A : ℕ → Bool) (old new : Sheet) (p : List ℕ) (next : Stage → Transit → Outcome) → IsSheet old → IsWithin (tops_in old) p
    → ((g : Progress) → holds lits (seen_at site state part g p) ≡ nat_eq (packet_of p).entry 0)
    → AllAt (Before Arrive) old.roll.classes.items A → ((n : ℕ) → StandsAt (Before Arrive) old.roll.classes.items n → A n ≡ true)
    → Grows old.roll.classes.items new.roll.classes.items → AreMoved (goings.To (Before Send)) A (held site state part lits) old new
    → future nowhere next new.roll.classes.items (class_at new p) p ≡ future nowhere (coming_in next p) old.roll.classes.items (class_at old p) p
came_in site state part lits A old new p next sheet w test stand all grows moved =
    let c = (sheet.used p w).0 in
    let used = (sheet.used p w).1 in
    elim (moved p c w used) [
      | inl h ↦ (
          let spot : c.spot ≡ Before Arrive = ap (λ k. k.spot) (same_Some c (record { spot = Before Arrive; progress = (stand (class_at old p) h.0).0 }) (sym used.0 ∙ (stand (class_at old p) h.0).1)) in
          future_of nowhere next new.roll.classes.items (class_at new p) h.2.0 p h.2.1.0
          ∙ h.2.2.1 nowhere next p
          ∙ ap (λ b. cond b (next Send (transit_of c.progress p)) (next Arrive (transit_of c.progress p))) (sym (sym (test c.progress) ∙ some_held (holds lits (seen_at site state part c.progress p)) h.1))
          ∙ sym (future_of nowhere (coming_in next p) old.roll.classes.items (class_at old p) c p used.0 ∙ ap (λ s. meant nowhere (coming_in next p) s (transit_of c.progress p)) spot))
      | inr h ↦ elim (cases_Bool (A (class_at old p))) [
        | inl a ↦ (
            let spot : c.spot ≡ Before Arrive = ap (λ k. k.spot) (same_Some c (record { spot = Before Arrive; progress = (stand (class_at old p) a).0 }) (sym used.0 ∙ (stand (class_at old p) a).1)) in
            ap (λ n. future nowhere next new.roll.classes.items n p) h.1
            ∙ future_of nowhere next new.roll.classes.items (class_at old p) c p (grows (class_at old p) c used).0
            ∙ ap (λ s. meant nowhere next s (transit_of c.progress p)) spot
            ∙ ap (λ b. cond b (next Send (transit_of c.progress p)) (next Arrive (transit_of c.progress p))) (sym (sym (test c.progress) ∙ none_held (holds lits (seen_at site state part c.progress p)) (h.0 a)))
            ∙ sym (future_of nowhere (coming_in next p) old.roll.classes.items (class_at old p) c p used.0 ∙ ap (λ s. meant nowhere (coming_in next p) s (transit_of c.progress p)) spot))
        | inr a ↦ ap (λ n. future nowhere next new.roll.classes.items n p) h.1
            ∙ future_of nowhere next new.roll.classes.items (class_at old p) c p (grows (class_at old p) c used).0
            ∙ not_coming next p c.spot (transit_of c.progress p) (λ e. false≢true (sym a ∙ all (class_at old p) (c.progress, used.0 ∙ ap (λ (s : Spot). Some (record { spot = s; progress = c.progress })) e)))
            ∙ sym (future_of nowhere (coming_in next p) old.roll.classes.items (class_at old p) c p used.0)
      ]
    ]

-- the points on the sides stand before arrival, and all others are dropped
pub admitted : (sides : List (List Iv)) (m : Mark) (A : ℕ → Bool) (old new : Sheet) (p : List ℕ) (next : Stage → Transit → Outcome) → IsWithin (tops_in old) p → A 0 ≡ true → class_at old p ≡ 0
    → (whole : IsWhole Dropped old.roll.classes.items) → sides_of m ≡ sides → m.label ≡ 1
    → Grows old.roll.classes.items new.roll.classes.items → AreMoved (goings.To (Before Arrive)) A (λ g q. mark_at (m ∷ []) 0 q) old new
    → future nowhere next new.roll.classes.items (class_at new p) p ≡ cond (sides_have sides p) (next Arrive (entered (packet_of p))) outcomes.Drop
admitted sides m A old new p next w called first whole same one grows moved =
    let c : Class = record { spot = Dropped; progress = whole.0 } in
    let used : IsUsed old.roll.classes.items 0 c = (ap (λ cs. slice_get cs 0) whole.1, refl) in
    let made : mark_at (m ∷ []) 0 p ≡ cond (sides_have sides p) 1 0 = ap (λ ss. cond (sides_have ss p) m.label 0) same ∙ ap (λ (l : ℕ). cond (sides_have sides p) l 0) one in
    elim (moved p c w (subst (λ n. IsUsed old.roll.classes.items n c) (sym first) used)) [
      | inl h ↦ future_of nowhere next new.roll.classes.items (class_at new p) h.2.0 p h.2.1.0
          ∙ h.2.2.1 nowhere next p
          ∙ ap (λ t. next Arrive t) (whole.2 p)
          ∙ ap (λ b. cond b (next Arrive (entered (packet_of p))) outcomes.Drop) (sym (some_held (sides_have sides p) (λ e. h.1 (made ∙ e))))
      | inr h ↦ ap (λ n. future nowhere next new.roll.classes.items n p) (h.1 ∙ first)
          ∙ future_of nowhere next new.roll.classes.items 0 c p (grows 0 c used).0
          ∙ ap (λ b. cond b (next Arrive (entered (packet_of p))) outcomes.Drop) (sym (none_held (sides_have sides p) (sym made ∙ h.0 (ap A first ∙ called))))
    ]
