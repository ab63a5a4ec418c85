use Rattle.std.proofs.Common.{◌≡◌, ◌<◌, ℕ, true, Some, List, cond, ap, arith, ◌∙◌}
use Rattle.std.proofs.lemmas.Result.{IfOk-weaker}
use Rattle.fws_box.specs.Sides.{IsWithin, sides_have}
use Rattle.fws_exec.specs.Classes.{kind_of}
use Rattle.fws_flat.specs.Walk.{means}
use Rattle.fws_net.specs.declared.outcome.Outcome.{Outcome}
use Rattle.fws_net.specs.declared.outcome.Outcome.TheVariants.{Drop}
use Rattle.fws_net.specs.Points.{packet_of, tops_of}
use Rattle.fws_top.specs.Walked.{walked_at}
use Rattle.fws_top.proofs.Points.{within_at}
use Rattle.fws_top.proofs.tables.asked_tree.Goals as goal
use Rattle.fws_tree.specs.Plain.{Plain, value}

pub returns-clause-walked : goal.returns-clause-walked
returns-clause-walked c = λ walk does.
    let site = c.args.site.now in
    let state = c.args.state in
    let code = c.args.code.now in
    let sides = c.in_ok-sides.sides in
    let asked = c.args.ask.now.sides in
    let low : 0 < 12 = omega arith in
    let P : List ℕ × Plain Outcome → Type 0 =
    λ t. (p : List ℕ) → IsWithin (tops_of site) p → value t.1 p ≡ Some (cond (sides_have sides p) (means code site (packet_of p) (kind_of state p)) Drop) in
    let Q : List ℕ × Plain Outcome → Type 0 =
    λ t. (p : List ℕ) → IsWithin (tops_of site) p → sides_have asked p ≡ true → value t.1 p ≡ Some (walked_at walk state p) in
    IfOk-weaker c.execute_within.result P Q (λ t at p w is_asked.
    at p w
    ∙ ap (λ b. Some (cond b (means code site (packet_of p) (kind_of state p)) Drop)) (c.in_ok-sides.ensures p is_asked)
    ∙ ap Some (does (packet_of p) (kind_of state p) (within_at (tops_of site) p 0 w low))) c.execute_within.ensures.value
