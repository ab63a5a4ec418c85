-- How classes pass a run.
use Rattle.std.proofs.Common.{◌≡◌, ◌≢◌, ℕ, ◌+◌, ◌-◌, ◌<◌, ◌≤◌, Bool, true, false, cond, ◌&&◌, not, nat_eq, nat_le, nat_lt, List, [], ◌∷◌, ◌++◌, length, get_or, take, drop, inl, inr, ◌⊎◌, refl, sym, ◌∙◌, ap, arith}
use Rattle.std.specs.List.{list_all}
use Rattle.std.proofs.lemmas.Bool.{cases_Bool, and_parts, eq-eqb, eqb-true, true≢false, false≢true, leb-true}
use Rattle.std.proofs.lemmas.Bool.Decides.{nat_tests}
use Rattle.std.proofs.lemmas.List.{get_or-drop, length-drop, length-take-le, take_more}
use Rattle.std.proofs.lemmas.List.Folds.{list_all-append}
use Rattle.fws_box.specs.Sides.{IsWithin}
use Rattle.fws_net.specs.declared.packet.Packet.{Packet}
use Rattle.fws_net.specs.declared.connection.Kind.{Kind}
use Rattle.fws_net.specs.declared.outcome.Outcome.{Outcome}
use Rattle.fws_net.specs.declared.transit.Transit.{Transit}
use Rattle.fws_net.specs.declared.view.View.{View}
use Rattle.fws_net.specs.Conditions.{holds}
use Rattle.fws_net.specs.Points.{packet_of}
use Rattle.fws_flat.specs.declared.code.FlatAct.{FlatAct}
use Rattle.fws_flat.specs.declared.code.FlatAct.TheVariants as acts
use Rattle.fws_flat.specs.declared.code.Ins.{Ins}
use Rattle.fws_flat.specs.Walk.{sees, step_of}
use Rattle.fws_exec.specs.declared.errand.Errand.{Errand}
use Rattle.fws_exec.specs.declared.going.Going.TheVariants as goings
use Rattle.fws_exec.specs.declared.progress.Progress.{Progress}
use Rattle.fws_exec.specs.declared.sheet.Sheet.{Sheet}
use Rattle.fws_exec.specs.declared.spot.Class.{Class}
use Rattle.fws_exec.specs.declared.spot.Stage.{Stage}
use Rattle.fws_exec.specs.declared.spot.Spot.TheVariants.{Dropped, At, Before}
use Rattle.fws_exec.specs.Classes.{kind_of, transit_of, meant, meant_behind, is_before}
use Rattle.fws_exec.specs.Courses.{aim_at, caught, course, course_used, Aim, IsOpen, Obeys, AllObey, Tells}
use Rattle.fws_exec.specs.Divided.{held, says_at, says_from, seen_at, AreMoved, AreNoted, IsSaid}
use Rattle.fws_exec.specs.Goings.{act_spot, label_of, spot_of}
use Rattle.fws_exec.specs.Passing.{HasPassed, MeetsFrom, Passed}
use Rattle.fws_exec.specs.Runs.{leaves, numbered, run_of, picked}
use Rattle.fws_exec.specs.Sheets.{class_at, tops_in, IsUsed}
use Rattle.fws_exec.proofs.Telling.{tells_by, unsought}

-- a jump in a run that begins at a place goes where its label says
jump_spot : (stage : Stage) (place to : ℕ) → place < to → spot_of stage place ((to - place) + 2) ≡ At to
jump_spot stage place to lt =
    let one : nat_eq ((to - place) + 2) 1 ≡ false = grind (arith, nat_tests) in
    let two : nat_le ((to - place) + 2) 2 ≡ false = (let pos : 0 < to - place = omega arith in grind (arith, nat_tests)) in
    let there : place + (((to - place) + 2) - 2) ≡ to = omega arith in
    ap (λ b. cond b (Before stage) (cond (nat_le ((to - place) + 2) 2) Dropped (At (place + (((to - place) + 2) - 2))))) one
    ∙ ap (λ b. cond b Dropped (At (place + (((to - place) + 2) - 2)))) two
    ∙ ap At there

-- what becomes of a packet behind an instruction that ends a run
leaves_meant : (at : ℕ → Transit → Outcome) (next : Stage → Transit → Outcome) (stage : Stage) (first place past : ℕ) (act : FlatAct) (p : Packet) (k : Kind) (t : Transit) → first ≤ place → place < past → leaves past act ≡ true
    → meant at next (spot_of stage first (label_of first act)) t ≡ meant_behind at next stage place (step_of p k act t)
leaves_meant at next stage first place past acts.Accept p k t low lt h = refl
leaves_meant at next stage first place past acts.Drop p k t low lt h = refl
leaves_meant at next stage first place past (acts.Jump to) p k t low lt h =
    let le : past ≤ to = leb-true past to h in
    let positive : nat_eq to 0 ≡ false = grind (arith, nat_tests) in
    ap (λ s. meant at next s t) (jump_spot stage first to (omega arith))
    ∙ ap (λ b. at (cond b (place + 1) to) t) (sym positive)
leaves_meant at next stage first place past (acts.Hold b) p k t low lt h = absurd (false≢true h)
leaves_meant at next stage first place past (acts.Src e) p k t low lt h = absurd (false≢true h)
leaves_meant at next stage first place past (acts.Dst e) p k t low lt h = absurd (false≢true h)
leaves_meant at next stage first place past acts.RecSrc p k t low lt h = absurd (false≢true h)
leaves_meant at next stage first place past acts.RecDst p k t low lt h = absurd (false≢true h)
leaves_meant at next stage first place past (acts.AddTag n) p k t low lt h = absurd (false≢true h)
leaves_meant at next stage first place past (acts.OnlyTag n) p k t low lt h = absurd (false≢true h)
leaves_meant at next stage first place past (acts.DelTag n) p k t low lt h = absurd (false≢true h)

-- where a label leads isn't before the place behind that at which the run begins
pub leaving_onward : (stage : Stage) (place l : ℕ) → is_before (place + 1) (spot_of stage place l) ≡ false
leaving_onward stage place l = elim (cases_Bool (nat_eq l 1)) [
  | inl one ↦ ap (λ b. is_before (place + 1) (cond b (Before stage) (cond (nat_le l 2) Dropped (At (place + (l - 2)))))) one
  | inr other ↦ ap (λ b. is_before (place + 1) (cond b (Before stage) (cond (nat_le l 2) Dropped (At (place + (l - 2)))))) other ∙ elim (cases_Bool (nat_le l 2)) [
    | inl low ↦ ap (λ b. is_before (place + 1) (cond b Dropped (At (place + (l - 2))))) low
    | inr high ↦ ap (λ b. is_before (place + 1) (cond b Dropped (At (place + (l - 2))))) high ∙ behind high
  ]
]
  where
    behind : nat_le l 2 ≡ false → nat_lt (place + (l - 2)) (place + 1) ≡ false
    behind high = grind (arith, nat_tests)

behind : (n : ℕ) → nat_lt (n + 1) (n + 1) ≡ false
behind n = grind (arith, nat_tests)

-- nor is where an act that goes forward leads
pub act_onward : (stage : Stage) (place : ℕ) (act : FlatAct) → ((to : ℕ) → act ≡ acts.Jump to → place < to) → is_before (place + 1) (act_spot stage place act) ≡ false
act_onward stage place acts.Accept f = refl
act_onward stage place acts.Drop f = refl
act_onward stage place (acts.Hold b) f = behind place
act_onward stage place (acts.Src e) f = behind place
act_onward stage place (acts.Dst e) f = behind place
act_onward stage place acts.RecSrc f = behind place
act_onward stage place acts.RecDst f = behind place
act_onward stage place (acts.AddTag n) f = behind place
act_onward stage place (acts.OnlyTag n) f = behind place
act_onward stage place (acts.DelTag n) f = behind place
act_onward stage place (acts.Jump to) f = let lt : place < to = f to refl in grind (arith, nat_tests)

-- an act that goes forward leads elsewhere than to an earlier place
pub act_apart : (stage : Stage) (place at : ℕ) (act : FlatAct) → place ≤ at → ((to : ℕ) → act ≡ acts.Jump to → at < to) → act_spot stage at act ≢ At place
act_apart stage place at act le f e = false≢true (sym (act_onward stage at act f) ∙ ap (λ s. is_before (at + 1) s) e ∙ low)
  where
    low : nat_lt place (at + 1) ≡ true
    low = grind (arith, nat_tests)

-- an earlier end of a run is kept too
pub leaves_less : (q past : ℕ) (act : FlatAct) → q ≤ past → leaves past act ≡ true → leaves q act ≡ true
leaves_less q past acts.Accept le h = refl
leaves_less q past acts.Drop le h = refl
leaves_less q past (acts.Jump to) le h = let more : past ≤ to = leb-true past to h in grind (arith, nat_tests)
leaves_less q past (acts.Hold b) le h = absurd (false≢true h)
leaves_less q past (acts.Src e) le h = absurd (false≢true h)
leaves_less q past (acts.Dst e) le h = absurd (false≢true h)
leaves_less q past acts.RecSrc le h = absurd (false≢true h)
leaves_less q past acts.RecDst le h = absurd (false≢true h)
leaves_less q past (acts.AddTag n) le h = absurd (false≢true h)
leaves_less q past (acts.OnlyTag n) le h = absurd (false≢true h)
leaves_less q past (acts.DelTag n) le h = absurd (false≢true h)

pub all_less : (q past : ℕ) (code : List Ins) → q ≤ past → list_all (λ ins. leaves past ins.act) code ≡ true → list_all (λ ins. leaves q ins.act) code ≡ true
all_less q past [] le h = refl
all_less q past (ins ∷ code) le h =
    let k = and_parts (leaves past ins.act) (list_all (λ i. leaves past i.act) code) h in
    both (leaves q ins.act) (list_all (λ i. leaves q i.act) code) (leaves_less q past ins.act le k.0) (all_less q past code le k.1)
  where
    both : (a b : Bool) → a ≡ true → b ≡ true → (a && b) ≡ true
    both true true e f = refl
    both true false e f = f
    both false b e f = e

-- where the packet of a point goes in a run: past its end, or where the label of the first instruction that holds leads
abbrev pub Goes : Errand → Aim → List ℕ → Progress → ℕ → ℕ → ℕ → ℕ → Type 0
Goes e aim p g first place past label =
    ((label ≡ 0) × (course e aim p place (transit_of g p) ≡ course e aim p past (transit_of g p)))
    ⊎ ((label ≢ 0) × (meant (course e aim p) aim.next (spot_of e.stage first label) (transit_of g p) ≡ course e aim p place (transit_of g p)))

label_some : (first : ℕ) (act : FlatAct) → label_of first act ≢ 0
label_some first acts.Accept none = omega arith
label_some first acts.Drop none = omega arith
label_some first (acts.Jump to) none = omega arith
label_some first (acts.Hold b) none = omega arith
label_some first (acts.Src e) none = omega arith
label_some first (acts.Dst e) none = omega arith
label_some first acts.RecSrc none = omega arith
label_some first acts.RecDst none = omega arith
label_some first (acts.AddTag n) none = omega arith
label_some first (acts.OnlyTag n) none = omega arith
label_some first (acts.DelTag n) none = omega arith

-- the number of an instruction of a run says that it is used
said_self : (first place n : ℕ) → first ≤ place → place ≡ first + (n - 1) → 1 ≤ n → says_from first n place ≡ true
said_self first place n low is some =
    let one : nat_eq n 0 ≡ false = grind (arith, nat_tests) in
    let two : nat_eq place (first + (n - 1)) ≡ true = eq-eqb place (first + (n - 1)) is in
    both (nat_eq n 0) (nat_eq place (first + (n - 1))) one two
  where
    both : (a b : Bool) → a ≡ false → b ≡ true → (not a && b) ≡ true
    both false b e f = f
    both true b e f = absurd (true≢false e)

-- and that of no other
said_one : (first place n k : ℕ) → place ≡ first + (n - 1) → says_from first n k ≡ true → k ≡ place
said_one first place n k is said = eqb-true k (first + (n - 1)) (and_parts (not (nat_eq n 0)) (nat_eq k (first + (n - 1))) said).1 ∙ sym is

-- what becomes of a packet where the condition of an instruction holds, and where it doesn't
met_at : (e : Errand) (aim : Aim) (p : List ℕ) (place : ℕ) (ins : Ins) (g : Progress) (v : View) → v ≡ sees e.ground.site.now (kind_of e.ground.state p) e.part (transit_of g p) → Obeys e aim p place ins → holds ins.cond v ≡ true
    → course e aim p place (transit_of g p) ≡ course_used e aim p place ins (transit_of g p)
met_at e aim p place ins g v seen obeys met =
    obeys (transit_of g p) ∙ ap (λ b. cond b (course_used e aim p place ins (transit_of g p)) (course e aim p (place + 1) (transit_of g p))) (sym (ap (λ w. holds ins.cond w) seen) ∙ met)

missed_at : (e : Errand) (aim : Aim) (p : List ℕ) (place : ℕ) (ins : Ins) (g : Progress) (v : View) → v ≡ sees e.ground.site.now (kind_of e.ground.state p) e.part (transit_of g p) → Obeys e aim p place ins → holds ins.cond v ≡ false
    → course e aim p place (transit_of g p) ≡ course e aim p (place + 1) (transit_of g p)
missed_at e aim p place ins g v seen obeys miss =
    obeys (transit_of g p) ∙ ap (λ b. cond b (course_used e aim p place ins (transit_of g p)) (course e aim p (place + 1) (transit_of g p))) (sym (ap (λ w. holds ins.cond w) seen) ∙ miss)

-- an instruction that isn't sought is met as if nothing were, and one that is sought ends the way
pub used_free : (e : Errand) (aim : Aim) (p : List ℕ) (place : ℕ) (ins : Ins) (t : Transit) → aim.sought place ≡ false
    → course_used e aim p place ins t ≡ meant_behind (course e aim p) aim.next e.stage place (step_of (packet_of p) (kind_of e.ground.state p) ins.act t)
used_free e aim p place ins t free = ap (λ b. cond b caught (meant_behind (course e aim p) aim.next e.stage place (step_of (packet_of p) (kind_of e.ground.state p) ins.act t))) free

pub used_caught : (e : Errand) (aim : Aim) (p : List ℕ) (place : ℕ) (ins : Ins) (t : Transit) → aim.sought place ≡ true → course_used e aim p place ins t ≡ caught
used_caught e aim p place ins t sought = ap (λ b. cond b caught (meant_behind (course e aim p) aim.next e.stage place (step_of (packet_of p) (kind_of e.ground.state p) ins.act t))) sought

run_goes : (e : Errand) (aim : Aim) (p : List ℕ) (g : Progress) (v : View) (first past : ℕ) (code : List Ins) (place n : ℕ)
    → v ≡ sees e.ground.site.now (kind_of e.ground.state p) e.part (transit_of g p) → first ≤ place → place + length code ≡ past
    → list_all (λ ins. leaves past ins.act) code ≡ true → AllObey e aim p place code → place ≡ first + (n - 1) → 1 ≤ n
    → ((k : ℕ) → says_from first (numbered n v code) k ≡ true → aim.sought k ≡ false)
    → Goes e aim p g first place past (picked first v code)
run_goes e aim p g v first past [] place n seen low long all obey number some free =
    let same : place ≡ past = omega arith in
    inl (refl, ap (λ k. course e aim p k (transit_of g p)) same)
run_goes e aim p g v first past (ins ∷ code) place n seen low long all obey number some free = elim (cases_Bool (holds ins.cond v)) [
  | inl met ↦ (
      let label : picked first v (ins ∷ code) ≡ label_of first ins.act = ap (λ b. cond b (label_of first ins.act) (picked first v code)) met in
      let told : numbered n v (ins ∷ code) ≡ n = ap (λ b. cond b n (numbered (n + 1) v code)) met in
      let out : aim.sought place ≡ false = free place (ap (λ l. says_from first l place) told ∙ said_self first place n low number some) in
      inr (
        λ none. label_some first ins.act (sym label ∙ none),
        ap (λ l. meant (course e aim p) aim.next (spot_of e.stage first l) (transit_of g p)) label
            ∙ leaves_meant (course e aim p) aim.next e.stage first place past ins.act (packet_of p) (kind_of e.ground.state p) (transit_of g p) low lower parts.0
            ∙ sym (met_at e aim p place ins g v seen obey.0 met ∙ used_free e aim p place ins (transit_of g p) out),
      ))
  | inr miss ↦ (
      let onwards : course e aim p place (transit_of g p) ≡ course e aim p (place + 1) (transit_of g p) = missed_at e aim p place ins g v seen obey.0 miss in
      let label : picked first v (ins ∷ code) ≡ picked first v code = ap (λ b. cond b (label_of first ins.act) (picked first v code)) miss in
      let told : numbered n v (ins ∷ code) ≡ numbered (n + 1) v code = ap (λ b. cond b n (numbered (n + 1) v code)) miss in
      elim (run_goes e aim p g v first past code (place + 1) (n + 1) seen later longer parts.1 obey.1 (omega arith) (omega arith) (λ k said. free k (ap (λ l. says_from first l k) told ∙ said))) [
        | inl h ↦ inl (label ∙ h.0, onwards ∙ h.1)
        | inr h ↦ inr (λ none. h.0 (sym label ∙ none), ap (λ l. meant (course e aim p) aim.next (spot_of e.stage first l) (transit_of g p)) label ∙ h.1 ∙ sym onwards)
      ])
]
  where
    parts : (leaves past ins.act ≡ true) × (list_all (λ i. leaves past i.act) code ≡ true)
    parts = and_parts (leaves past ins.act) (list_all (λ i. leaves past i.act) code) all

    lower : place < past
    lower = omega arith

    later : first ≤ place + 1
    later = omega arith

    longer : (place + 1) + length code ≡ past
    longer = omega arith

-- the packet of a point that uses an instruction of a run, which is sought
run_caught : (e : Errand) (aim : Aim) (p : List ℕ) (g : Progress) (v : View) (first : ℕ) (code : List Ins) (place n k : ℕ)
    → v ≡ sees e.ground.site.now (kind_of e.ground.state p) e.part (transit_of g p) → AllObey e aim p place code → place ≡ first + (n - 1) → 1 ≤ n
    → says_from first (numbered n v code) k ≡ true → aim.sought k ≡ true → course e aim p place (transit_of g p) ≡ caught
run_caught e aim p g v first [] place n k seen obey number some said sought = absurd (false≢true said)
run_caught e aim p g v first (ins ∷ code) place n k seen obey number some said sought = elim (cases_Bool (holds ins.cond v)) [
  | inl met ↦ (
      let told : numbered n v (ins ∷ code) ≡ n = ap (λ b. cond b n (numbered (n + 1) v code)) met in
      let here : k ≡ place = said_one first place n k number (sym (ap (λ l. says_from first l k) told) ∙ said) in
      met_at e aim p place ins g v seen obey.0 met ∙ used_caught e aim p place ins (transit_of g p) (ap aim.sought (sym here) ∙ sought))
  | inr miss ↦ (
      let told : numbered n v (ins ∷ code) ≡ numbered (n + 1) v code = ap (λ b. cond b n (numbered (n + 1) v code)) miss in
      missed_at e aim p place ins g v seen obey.0 miss
      ∙ run_caught e aim p g v first code (place + 1) (n + 1) k seen obey.1 (omega arith) (omega arith) (sym (ap (λ l. says_from first l k) told) ∙ said) sought)
]

-- points that go where the instructions of a run send them passed it, if their uses were noted
pub run_passed : (e : Errand) (A : ℕ → Bool) (place past : ℕ) (old new : Sheet) → place ≤ past → length (run_of e.code.now place past) ≡ past - place
    → list_all (λ ins. leaves past ins.act) (run_of e.code.now place past) ≡ true
    → ((aim : Aim) (p : List ℕ) → AllObey e aim p place (run_of e.code.now place past))
    → AreNoted (says_from place) A (λ g p. numbered 1 (seen_at e.ground.site.now e.ground.state e.part g p) (run_of e.code.now place past)) old new
    → AreMoved (goings.Leaving e.stage place) A (λ g p. picked place (seen_at e.ground.site.now e.ground.state e.part g p) (run_of e.code.now place past)) old new
    → Passed e A place past old new
run_passed e A place past old new le long all obey noted moved = record { kept = kept; tells = tells }
  where
    same_place : place ≡ place + (1 - 1)
    same_place = omega arith

    tells : Tells old.reached.items new.reached.items (MeetsFrom e A place old)
    tells = tells_by old.reached.items new.reached.items (IsSaid (says_from place) A (λ g p. numbered 1 (seen_at e.ground.site.now e.ground.state e.part g p) (run_of e.code.now place past)) old) (MeetsFrom e A place old)
        (λ k got m. (
          m.0,
          m.1,
          m.2,
          m.3,
          m.4,
          λ next. run_caught e (aim_at k next) m.0 m.1.progress (seen_at e.ground.site.now e.ground.state e.part m.1.progress m.0) place (run_of e.code.now place past) place 1 k refl (obey (aim_at k next) m.0) same_place (omega arith) m.5 (eq-eqb k k refl),
        )) noted.tells

    kept : (aim : Aim) (p : List ℕ) (c : Class) → IsOpen new.reached.items aim → IsWithin (tops_in old) p → IsUsed old.roll.classes.items (class_at old p) c
        → ((A (class_at old p) ≡ true) × HasPassed e aim p place past c.progress new.roll.classes.items (class_at old p) (class_at new p))
        ⊎ ((A (class_at old p) ≡ false) × (class_at new p ≡ class_at old p))
    kept aim p c free w used = elim (cases_Bool (A (class_at old p))) [
      | inl a ↦ (
          let goes = run_goes e aim p c.progress (seen_at e.ground.site.now e.ground.state e.part c.progress p) place past (run_of e.code.now place past) place 1 refl (omega arith) (omega arith) all (obey aim p) same_place (omega arith)
          (λ k said. unsought new.reached.items aim k free (noted.noted k (p, c, w, used, a, said))) in
          inl (
            a,
            elim (moved p c w used) [
              | inl h ↦ inr (
                h.2.0,
                h.2.1,
                ap (λ s. is_before (place + 1) s) h.2.2.0 ∙ leaving_onward e.stage place (picked place (seen_at e.ground.site.now e.ground.state e.part c.progress p) (run_of e.code.now place past)),
                h.2.2.1 (course e aim p) aim.next p ∙ elim goes [ inl k ↦ absurd (h.1 k.0) | inr k ↦ k.1 ],
              )
              | inr h ↦ inl (h.1, elim goes [ inl k ↦ k.1 | inr k ↦ absurd (k.0 (h.0 a)) ])
            ],
          ))
      | inr a ↦ inr (a, elim (moved p c w used) [ inl h ↦ absurd (false≢true (sym a ∙ h.0)) | inr h ↦ h.1 ])
    ]

-- points that go where an instruction sends them passed it, if its uses were noted
pub ins_passed : (e : Errand) (A : ℕ → Bool) (place : ℕ) (ins : Ins) (old new : Sheet) → ((to : ℕ) → ins.act ≡ acts.Jump to → place < to)
    → ((aim : Aim) (p : List ℕ) → Obeys e aim p place ins)
    → AreNoted (says_at place) A (held e.ground.site.now e.ground.state e.part ins.cond) old new
    → AreMoved (goings.Behind e.ground.state e.stage place ins.act) A (held e.ground.site.now e.ground.state e.part ins.cond) old new
    → Passed e A place (place + 1) old new
ins_passed e A place ins old new forward obey noted moved = record { kept = kept; tells = tells }
  where
    some_held : (b : Bool) → cond {A = ℕ} b 1 0 ≢ 0 → b ≡ true
    some_held true h = refl
    some_held false h = absurd (h refl)

    none_held : (b : Bool) → cond {A = ℕ} b 1 0 ≡ 0 → b ≡ false
    none_held false h = refl
    none_held true h = absurd (omega arith)

    said_here : (b : Bool) → b ≡ true → says_at place (cond b 1 0) place ≡ true
    said_here true e = eq-eqb place place refl
    said_here false e = absurd (false≢true e)

    said_held : (b : Bool) (k : ℕ) → says_at place (cond b 1 0) k ≡ true → (b ≡ true) × (k ≡ place)
    said_held true k h = (refl, eqb-true k place h)
    said_held false k h = absurd (false≢true h)

    tells : Tells old.reached.items new.reached.items (MeetsFrom e A place old)
    tells = tells_by old.reached.items new.reached.items (IsSaid (says_at place) A (held e.ground.site.now e.ground.state e.part ins.cond) old) (MeetsFrom e A place old)
        (λ k got m. (
        let said = said_held (holds ins.cond (seen_at e.ground.site.now e.ground.state e.part m.1.progress m.0)) k m.5 in (
          m.0,
          m.1,
          m.2,
          m.3,
          m.4,
          λ next. met_at e (aim_at k next) m.0 place ins m.1.progress (seen_at e.ground.site.now e.ground.state e.part m.1.progress m.0) refl (obey (aim_at k next) m.0) said.0
              ∙ used_caught e (aim_at k next) m.0 place ins (transit_of m.1.progress m.0) (eq-eqb k place said.1),
        ))) noted.tells

    kept : (aim : Aim) (p : List ℕ) (c : Class) → IsOpen new.reached.items aim → IsWithin (tops_in old) p → IsUsed old.roll.classes.items (class_at old p) c
        → ((A (class_at old p) ≡ true) × HasPassed e aim p place (place + 1) c.progress new.roll.classes.items (class_at old p) (class_at new p))
        ⊎ ((A (class_at old p) ≡ false) × (class_at new p ≡ class_at old p))
    kept aim p c free w used = elim (moved p c w used) [
      | inl h ↦ (
          let met : holds ins.cond (seen_at e.ground.site.now e.ground.state e.part c.progress p) ≡ true = some_held (holds ins.cond (seen_at e.ground.site.now e.ground.state e.part c.progress p)) h.1 in
          let out : aim.sought place ≡ false = unsought new.reached.items aim place free (noted.noted place (p, c, w, used, h.0, said_here (holds ins.cond (seen_at e.ground.site.now e.ground.state e.part c.progress p)) met)) in
          inl (
            h.0,
            inr (
              h.2.0,
              h.2.1,
              ap (λ s. is_before (place + 1) s) h.2.2.0 ∙ act_onward e.stage place ins.act forward,
              h.2.2.1 (course e aim p) aim.next p
                  ∙ sym (met_at e aim p place ins c.progress (seen_at e.ground.site.now e.ground.state e.part c.progress p) refl (obey aim p) met ∙ used_free e aim p place ins (transit_of c.progress p) out),
            ),
          ))
      | inr h ↦ elim (cases_Bool (A (class_at old p))) [
        | inl a ↦ inl (a, inl (h.1, missed_at e aim p place ins c.progress (seen_at e.ground.site.now e.ground.state e.part c.progress p) refl (obey aim p) (none_held (holds ins.cond (seen_at e.ground.site.now e.ground.state e.part c.progress p)) (h.0 a))))
        | inr a ↦ inr (a, h.1)
      ]
    ]

-- a run with one more instruction
pub run_more : (code : List Ins) (place past : ℕ) (d : Ins) → place ≤ past → past < length code → run_of code place (past + 1) ≡ run_of code place past ++ get_or code past d ∷ []
run_more code place past d le lt =
    let many : (past + 1) - place ≡ (past - place) + 1 = omega arith in
    let long : length (drop place code) ≡ length code - place = length-drop place code in
    let within : past - place < length (drop place code) = omega arith in
    let there : place + (past - place) ≡ past = omega arith in
    ap (λ k. take k (drop place code)) many
    ∙ take_more (drop place code) (past - place) d within
    ∙ ap (λ x. take (past - place) (drop place code) ++ x ∷ []) (get_or-drop place code (past - place) d ∙ ap (λ k. get_or code k d) there)

pub all_more : (f : Ins → Bool) (xs : List Ins) (x : Ins) → list_all f xs ≡ true → f x ≡ true → list_all f (xs ++ x ∷ []) ≡ true
all_more f xs x h e = list_all-append f xs (x ∷ []) ∙ both (list_all f xs) (f x) h e
  where
    both : (a b : Bool) → a ≡ true → b ≡ true → (a && (b && true)) ≡ true
    both true true e f = refl
    both true false e f = f
    both false b e f = e

pub run_long : (code : List Ins) (place past : ℕ) → place ≤ past → past ≤ length code → length (run_of code place past) ≡ past - place
run_long code place past le high =
    let long : length (drop place code) ≡ length code - place = length-drop place code in
    length-take-le (past - place) (drop place code) (omega arith)
