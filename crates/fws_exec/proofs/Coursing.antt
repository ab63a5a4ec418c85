-- What becomes of a packet at an instruction, by what becomes of it behind.
use Rattle.std.proofs.Common.{◌≡◌, ℕ, zero, suc, ◌+◌, ◌-◌, ◌<◌, ◌≤◌, Bool, true, false, cond, ◌&&◌, nat_eq, nat_le, nat_lt, Some, None, List, [], ◌∷◌, length, take, drop, slice_get, inl, inr, ◌⊎◌, refl, sym, ◌∙◌, ap, subst, arith, add-one}
use Rattle.std.proofs.lemmas.Bool.{and_parts, leb-true}
use borrow.Author.Tests.{ltb-true}
use Rattle.std.proofs.lemmas.Bool.Decides.{nat_tests}
use Rattle.std.proofs.lemmas.List.{drop-take, drop-drop}
use Rattle.std.proofs.lemmas.Option.{get_or_from_slice_get, slice_get_cases, slice_get_within}
use Rattle.std.proofs.Math.Seq.{drop-cons}
use Rattle.fws_net.specs.declared.packet.Packet.{Packet}
use Rattle.fws_net.specs.declared.connection.Kind.{Kind}
use Rattle.fws_net.specs.declared.outcome.Outcome.{Outcome}
use Rattle.fws_net.specs.declared.site.Site.{Site}
use Rattle.fws_net.specs.declared.transit.Transit.{Transit}
use Rattle.fws_net.specs.Conditions.{holds}
use Rattle.fws_net.specs.Points.{packet_of}
use Rattle.fws_flat.specs.declared.code.FlatAct.{FlatAct}
use Rattle.fws_flat.specs.declared.code.FlatAct.TheVariants as acts
use Rattle.fws_flat.specs.declared.code.Ins.{Ins}
use Rattle.fws_flat.specs.declared.code.Part.{Part}
use Rattle.fws_flat.specs.declared.step.Step.{Step}
use Rattle.fws_flat.specs.declared.step.Step.TheVariants.{Leave, Onwards}
use Rattle.fws_flat.specs.Walk.{sees, step_of, part_code}
use Rattle.fws_flat.specs.Soundness.{act_ok, code_ok, part_ok}
use Rattle.fws_exec.specs.declared.errand.Errand.{Errand}
use Rattle.fws_exec.specs.Classes.{kind_of, meant_behind}
use Rattle.fws_exec.specs.Courses.{caught, fate, fate_behind, code_from, course, Aim, Obeys, AllObey}
use Rattle.fws_exec.specs.Runs.{run_of}

not_below_self : (n : ℕ) → nat_lt n n ≡ false
not_below_self n = grind (arith, nat_tests)

not_below_zero : (n : ℕ) → nat_lt n 0 ≡ false
not_below_zero n = grind (arith, nat_tests)

below : (m n : ℕ) → m < n → nat_lt m n ≡ true
below m n lt = grind (arith, nat_tests)

-- what becomes of a packet from an instruction on
here_fate : (site : Site) (p : Packet) (k : Kind) (part : Part) (sought : ℕ → Bool) (next : Transit → Outcome) (at : ℕ) (x : Ins) (xs : List Ins) (t : Transit)
    → fate site p k part sought next at (x ∷ xs) 0 t ≡ cond (holds x.cond (sees site k part t)) (cond (sought at) caught (fate_behind next (fate site p k part sought next (suc at) xs) (step_of p k x.act t))) (fate site p k part sought next (suc at) xs 0 t)
here_fate site p k part sought next at x xs t =
    ap (λ b. cond b (fate site p k part sought next (suc at) xs 0 t) (cond (holds x.cond (sees site k part t)) (cond (sought at) caught (fate_behind next (fate site p k part sought next (suc at) xs) (step_of p k x.act t))) (fate site p k part sought next (suc at) xs 0 t))) (not_below_zero at)

-- the same where it is to go on at its first instruction
fate_here : (site : Site) (p : Packet) (k : Kind) (part : Part) (sought : ℕ → Bool) (next : Transit → Outcome) (at : ℕ) (xs : List Ins) (t : Transit) → fate site p k part sought next at xs at t ≡ fate site p k part sought next at xs 0 t
fate_here site p k part sought next at [] t = refl
fate_here site p k part sought next at (x ∷ xs) t =
    ap (λ b. cond b (fate site p k part sought next (suc at) xs at t) (cond (holds x.cond (sees site k part t)) (cond (sought at) caught (fate_behind next (fate site p k part sought next (suc at) xs) (step_of p k x.act t))) (fate site p k part sought next (suc at) xs 0 t))) (not_below_self at)
    ∙ sym (here_fate site p k part sought next at x xs t)

-- instructions before the place at which a packet is to go on are passed over
skip : (site : Site) (p : Packet) (k : Kind) (part : Part) (sought : ℕ → Bool) (next : Transit → Outcome) (xs : List Ins) (at n to : ℕ) (t : Transit) → to ≡ at + n → fate site p k part sought next at xs to t ≡ fate site p k part sought next to (drop n xs) 0 t
skip site p k part sought next [] at zero to t e = refl
skip site p k part sought next [] at (suc n) to t e = refl
skip site p k part sought next (x ∷ xs) at zero to t e =
    let same : at ≡ to = omega arith in
    subst (λ k0. fate site p k part sought next k0 (x ∷ xs) to t ≡ fate site p k part sought next to (x ∷ xs) 0 t) (sym same) (fate_here site p k part sought next to (x ∷ xs) t)
skip site p k part sought next (x ∷ xs) at (suc n) to t e =
    let more : at < to = omega arith in
    let later : to ≡ suc at + n = omega arith in
    ap (λ b. cond b (fate site p k part sought next (suc at) xs to t) (cond (holds x.cond (sees site k part t)) (cond (sought at) caught (fate_behind next (fate site p k part sought next (suc at) xs) (step_of p k x.act t))) (fate site p k part sought next (suc at) xs 0 t))) (below at to more)
    ∙ skip site p k part sought next xs (suc at) n to t later

-- the instructions from a place on, by those from an earlier place on
from_later : (code : List Ins) (part : Part) (at n to : ℕ) → to ≡ at + n → to ≤ part.past → drop n (code_from code part at) ≡ code_from code part to
from_later code part at n to e le =
    let many : part.past - at ≡ n + (part.past - to) = omega arith in
    ap (λ k. drop n (take k (drop at code))) many ∙ drop-take n (part.past - to) (drop at code) ∙ ap (λ xs. take (part.past - to) xs) (drop-drop n at code ∙ ap (λ k. drop k code) (sym e))

-- the first of the instructions from a place on
front : (code : List Ins) (part : Part) (at : ℕ) (x : Ins) → at < part.past → slice_get code at ≡ Some x → code_from code part at ≡ x ∷ code_from code part (at + 1)
front code part at x lt got =
    let within : at < length code = slice_get_within code at x got in
    let many : part.past - at ≡ suc (part.past - (at + 1)) = omega arith in
    ap (λ k. take k (drop at code)) many
    ∙ ap (λ xs. take (suc (part.past - (at + 1))) xs) (drop-cons code at x within)
    ∙ ap (λ y. y ∷ take (part.past - (at + 1)) (drop (suc at) code)) (get_or_from_slice_get code at x x got)
    ∙ ap (λ k. x ∷ take (part.past - (at + 1)) (drop k code)) (sym (add-one at))

-- a step that goes on does so behind its place, and at most at the end of the part
abbrev pub IsForward : ℕ → ℕ → Step → Type 0
IsForward past at (Leave end) = Unit {0}
IsForward past at (Onwards to t) = (to ≡ 0) ⊎ ((at < to) × (to ≤ past))

step_forward : (past : ℕ) (p : Packet) (k : Kind) (act : FlatAct) (at : ℕ) (t : Transit) → ((to : ℕ) → act ≡ acts.Jump to → (at < to) × (to ≤ past)) → IsForward past at (step_of p k act t)
step_forward past p k acts.Accept at t f = tt
step_forward past p k acts.Drop at t f = tt
step_forward past p k (acts.Hold b) at t f = inl refl
step_forward past p k (acts.Jump to) at t f = inr (f to refl)
step_forward past p k (acts.Src e) at t f = inl refl
step_forward past p k (acts.Dst e) at t f = inl refl
step_forward past p k acts.RecSrc at t f = inl refl
step_forward past p k acts.RecDst at t f = inl refl
step_forward past p k (acts.AddTag n) at t f = inl refl
step_forward past p k (acts.OnlyTag n) at t f = inl refl
step_forward past p k (acts.DelTag n) at t f = inl refl

-- what becomes of a packet behind an instruction
behind_step : (e : Errand) (aim : Aim) (p : List ℕ) (at : ℕ) (step : Step) → IsForward e.part.past at step
    → fate_behind (aim.next e.stage) (fate e.ground.site.now (packet_of p) (kind_of e.ground.state p) e.part aim.sought (aim.next e.stage) (at + 1) (code_from e.code.now e.part (at + 1))) step ≡ meant_behind (course e aim p) aim.next e.stage at step
behind_step e aim p at (Leave None) f = refl
behind_step e aim p at (Leave (Some t)) f = refl
behind_step e aim p at (Onwards to t) f = elim f [
  | inl none ↦ subst (λ k. fate e.ground.site.now (packet_of p) (kind_of e.ground.state p) e.part aim.sought (aim.next e.stage) (at + 1) (code_from e.code.now e.part (at + 1)) k t ≡ course e aim p (cond (nat_eq k 0) (at + 1) k) t) (sym none) refl
  | inr ahead ↦ (
      let low : at < to = ahead.0 in
      let some : nat_eq to 0 ≡ false = grind (arith, nat_tests) in
      let n : to ≡ (at + 1) + (to - (at + 1)) = omega arith in
      skip e.ground.site.now (packet_of p) (kind_of e.ground.state p) e.part aim.sought (aim.next e.stage) (code_from e.code.now e.part (at + 1)) (at + 1) (to - (at + 1)) to t n
      ∙ ap (λ xs. fate e.ground.site.now (packet_of p) (kind_of e.ground.state p) e.part aim.sought (aim.next e.stage) to xs 0 t) (from_later e.code.now e.part (at + 1) (to - (at + 1)) to n ahead.1)
      ∙ ap (λ b. course e aim p (cond b (at + 1) to) t) (sym some))
]

-- the code of a part says what becomes of packets at each of its instructions
pub course_obeys : (e : Errand) (aim : Aim) (p : List ℕ) (at : ℕ) (ins : Ins) → at < e.part.past → slice_get e.code.now at ≡ Some ins
    → ((to : ℕ) → ins.act ≡ acts.Jump to → (at < to) × (to ≤ e.part.past)) → Obeys e aim p at ins
course_obeys e aim p at ins lt got f t =
    ap (λ xs. fate e.ground.site.now (packet_of p) (kind_of e.ground.state p) e.part aim.sought (aim.next e.stage) at xs 0 t) (front e.code.now e.part at ins lt got)
    ∙ here_fate e.ground.site.now (packet_of p) (kind_of e.ground.state p) e.part aim.sought (aim.next e.stage) at ins (code_from e.code.now e.part (at + 1)) t
    ∙ ap (λ k. cond (holds ins.cond (sees e.ground.site.now (kind_of e.ground.state p) e.part t)) (cond (aim.sought at) caught (fate_behind (aim.next e.stage) (fate e.ground.site.now (packet_of p) (kind_of e.ground.state p) e.part aim.sought (aim.next e.stage) k (code_from e.code.now e.part (at + 1))) (step_of (packet_of p) (kind_of e.ground.state p) ins.act t))) (fate e.ground.site.now (packet_of p) (kind_of e.ground.state p) e.part aim.sought (aim.next e.stage) k (code_from e.code.now e.part (at + 1)) 0 t)) (sym (add-one at))
    ∙ ap (λ o. cond (holds ins.cond (sees e.ground.site.now (kind_of e.ground.state p) e.part t)) (cond (aim.sought at) caught o) (course e aim p (at + 1) t)) (behind_step e aim p at (step_of (packet_of p) (kind_of e.ground.state p) ins.act t) (step_forward e.part.past (packet_of p) (kind_of e.ground.state p) ins.act at t f))

-- the jumps of a part go forward
code_ok_drop : (past : ℕ) (xs : List Ins) (at n to : ℕ) → to ≡ at + n → code_ok past at xs ≡ true → code_ok past to (drop n xs) ≡ true
code_ok_drop past [] at zero to e h = refl
code_ok_drop past [] at (suc n) to e h = refl
code_ok_drop past (x ∷ xs) at zero to e h = let same : at ≡ to = omega arith in subst (λ k. code_ok past k (x ∷ xs) ≡ true) same h
code_ok_drop past (x ∷ xs) at (suc n) to e h = let next : to ≡ suc at + n = omega arith in code_ok_drop past xs (suc at) n to next (and_parts (act_ok past at x.act) (code_ok past (suc at) xs) h).1

jump_ok : (past at : ℕ) (act : FlatAct) → act_ok past at act ≡ true → (to : ℕ) → act ≡ acts.Jump to → (at < to) × (to ≤ past)
jump_ok past at act h to e =
    let k = and_parts (nat_lt at to) (nat_le to past) (subst (λ a. act_ok past at a ≡ true) e h) in
    (ltb-true at to k.0, leb-true to past k.1)

pub part_jumps : (code : List Ins) (part : Part) (at : ℕ) (x : Ins) → part_ok code part ≡ true → part.first ≤ at → at < part.past → slice_get code at ≡ Some x
    → (to : ℕ) → x.act ≡ acts.Jump to → (at < to) × (to ≤ part.past)
part_jumps code part at x ok low high got =
    let parts = and_parts (nat_le part.first part.past && nat_le part.past (length code)) (code_ok part.past part.first (part_code code part)) ok in
    let n : at ≡ part.first + (at - part.first) = omega arith in
    let le : at ≤ part.past = omega arith in
    let rest : drop (at - part.first) (part_code code part) ≡ x ∷ code_from code part (at + 1) = from_later code part part.first (at - part.first) at n le ∙ front code part at x high got in
    let here : code_ok part.past at (x ∷ code_from code part (at + 1)) ≡ true = subst (λ xs. code_ok part.past at xs ≡ true) rest (code_ok_drop part.past (part_code code part) part.first (at - part.first) at n parts.1) in
    jump_ok part.past at x.act (and_parts (act_ok part.past at x.act) (code_ok part.past (suc at) (code_from code part (at + 1))) here).0

pub part_within : (code : List Ins) (part : Part) (at : ℕ) → part_ok code part ≡ true → at < part.past → at < length code
part_within code part at ok lt =
    let parts = and_parts (nat_le part.first part.past && nat_le part.past (length code)) (code_ok part.past part.first (part_code code part)) ok in
    let le : part.past ≤ length code = leb-true part.past (length code) (and_parts (nat_le part.first part.past) (nat_le part.past (length code)) parts.0).1 in
    omega arith

-- a part begins before its end
pub part_order : (code : List Ins) (part : Part) → part_ok code part ≡ true → part.first ≤ part.past
part_order code part ok =
    let parts = and_parts (nat_le part.first part.past && nat_le part.past (length code)) (code_ok part.past part.first (part_code code part)) ok in
    leb-true part.first part.past (and_parts (nat_le part.first part.past) (nat_le part.past (length code)) parts.0).0

pub part_long : (code : List Ins) (part : Part) → part_ok code part ≡ true → (past : ℕ) → past ≤ part.past → past ≤ length code
part_long code part ok past le =
    let parts = and_parts (nat_le part.first part.past && nat_le part.past (length code)) (code_ok part.past part.first (part_code code part)) ok in
    let long : part.past ≤ length code = leb-true part.past (length code) (and_parts (nat_le part.first part.past) (nat_le part.past (length code)) parts.0).1 in
    omega arith

-- the code of a part says what becomes of packets at each instruction of a run in it
pub run_obeys : (e : Errand) (aim : Aim) (p : List ℕ) (n place past : ℕ) → part_ok e.code.now e.part ≡ true → past ≡ place + n → e.part.first ≤ place → past ≤ e.part.past
    → AllObey e aim p place (run_of e.code.now place past)
run_obeys e aim p zero place past ok long low high =
    let none : past - place ≡ 0 = omega arith in
    subst (λ k. AllObey e aim p place (take k (drop place e.code.now))) (sym none) tt
run_obeys e aim p (suc n) place past ok long low high =
    let lower : place < past = omega arith in
    let lt : place < e.part.past = omega arith in
    let within : place < length e.code.now = part_within e.code.now e.part place ok lt in
    let after : past ≡ (place + 1) + n = omega arith in
    let from : e.part.first ≤ place + 1 = omega arith in
    elim (slice_get_cases e.code.now place).1 [
      | inl (x, inside, got, is) ↦ subst (λ xs. AllObey e aim p place xs) (sym (head x lower within got))
          (course_obeys e aim p place x lt got (part_jumps e.code.now e.part place x ok low lt got), run_obeys e aim p n (place + 1) past ok after from high)
      | inr (past_end, none) ↦ absurd (let no : place < place = omega arith in omega arith)
    ]
  where
    head : (x : Ins) → place < past → place < length e.code.now → slice_get e.code.now place ≡ Some x → run_of e.code.now place past ≡ x ∷ run_of e.code.now (place + 1) past
    head x lt within got =
        let many : past - place ≡ suc (past - (place + 1)) = omega arith in
        ap (λ k. take k (drop place e.code.now)) many
        ∙ ap (λ xs. take (suc (past - (place + 1))) xs) (drop-cons e.code.now place x within)
        ∙ ap (λ y. y ∷ take (past - (place + 1)) (drop (suc place) e.code.now)) (get_or_from_slice_get e.code.now place x x got)
        ∙ ap (λ k. x ∷ take (past - (place + 1)) (drop k e.code.now)) (sym (add-one place))
