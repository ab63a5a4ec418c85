-- What is known of packets of a class, and what becomes of them.
use Rattle.std.proofs.Common.{◌≡◌, ℕ, ◌+◌, ◌<◌, true, false, cond, nat_eq, List, ◌∙◌, ap, arith}
use Rattle.std.proofs.lemmas.Bool.Decides.{nat_tests}
use Rattle.fws_net.specs.declared.transit.Transit.{Transit}
use Rattle.fws_net.specs.Conditions.{holds}
use Rattle.fws_net.specs.Points.{packet_of}
use Rattle.fws_flat.specs.declared.code.FlatAct.TheVariants as acts
use Rattle.fws_flat.specs.declared.code.Ins.{Ins}
use Rattle.fws_flat.specs.Walk.{sees, step_of}
use Rattle.fws_exec.specs.declared.errand.Errand.{Errand}
use Rattle.fws_exec.specs.Classes.{kind_of, meant_behind}
use Rattle.fws_exec.specs.Courses.{course, course_used, Aim, Obeys}
use Rattle.fws_exec.proofs.Running.{used_free}

-- a packet goes on behind an instruction whose condition fails
pub fails_on : (e : Errand) (aim : Aim) (p : List ℕ) (place : ℕ) (ins : Ins) (t : Transit) → Obeys e aim p place ins
    → holds ins.cond (sees e.ground.site.now (kind_of e.ground.state p) e.part t) ≡ false → course e aim p place t ≡ course e aim p (place + 1) t
fails_on e aim p place ins t obeys fails =
    obeys t ∙ ap (λ b. cond b (course_used e aim p place ins t) (course e aim p (place + 1) t)) fails

-- and where a jump leads that isn't sought and whose condition holds
pub jumps_on : (e : Errand) (aim : Aim) (p : List ℕ) (place to : ℕ) (ins : Ins) (t : Transit) → Obeys e aim p place ins → aim.sought place ≡ false → ins.act ≡ acts.Jump to → place < to
    → holds ins.cond (sees e.ground.site.now (kind_of e.ground.state p) e.part t) ≡ true → course e aim p place t ≡ course e aim p to t
jumps_on e aim p place to ins t obeys free act ahead held =
    let some : nat_eq to 0 ≡ false = grind (arith, nat_tests) in
    obeys t ∙ ap (λ b. cond b (course_used e aim p place ins t) (course e aim p (place + 1) t)) held
    ∙ used_free e aim p place ins t free
    ∙ ap (λ a. meant_behind (course e aim p) aim.next e.stage place (step_of (packet_of p) (kind_of e.ground.state p) a t)) act
    ∙ ap (λ b. course e aim p (cond b (place + 1) to) t) some
