use Rattle.std.proofs.Common.{◌≡◌, ◌<◌, ℕ, Some, Result, Ok, Err, IfOk, List, ap, subst, arith, ◌∙◌}
use Rattle.std.proofs.lemmas.Result.{IfOk-weaker}
use Rattle.fws_box.specs.Sides.{IsWithin}
use Rattle.fws_exec.specs.Classes.{kind_of}
use Rattle.fws_flat.specs.Walk.{means}
use Rattle.fws_net.specs.declared.outcome.Outcome.{Outcome}
use Rattle.fws_net.specs.Points.{packet_of, tops_of}
use Rattle.fws_top.specs.Walked.{walked_at}
use Rattle.fws_top.proofs.Points.{within_at}
use Rattle.fws_top.proofs.tables.tree_of.Goals as goal
use Rattle.fws_tree.specs.Plain.{IsReduced, Plain, value}

-- a tree that is reduced with its own tops is so with tops that are the same
with_these_tops : {E : Type 0} → (tops : List ℕ) (result : Result (List ℕ × Plain Outcome) E) → IfOk result (λ t. t.0 ≡ tops) → IfOk result (λ t. IsReduced t.0 t.1)
    → IfOk result (λ t. IsReduced tops t.1)
with_these_tops tops (Ok t) same reduced = subst (λ own. IsReduced own t.1) same reduced
with_these_tops tops (Err e) same reduced = tt

pub returns-clause-reduced : goal.returns-clause-reduced
returns-clause-reduced c = with_these_tops (tops_of c.args.site.now) c.execute_tree.result c.execute_tree.ensures.tops c.execute_tree.ensures.reduced

pub returns-clause-walked : goal.returns-clause-walked
returns-clause-walked c = λ walk does.
    let site = c.args.site.now in
    let state = c.args.state in
    let code = c.args.code.now in
    let low : 0 < 12 = omega arith in
    let P : List ℕ × Plain Outcome → Type 0 = λ t. (p : List ℕ) → IsWithin (tops_of site) p → value t.1 p ≡ Some (means code site (packet_of p) (kind_of state p)) in
    let Q : List ℕ × Plain Outcome → Type 0 = λ t. (p : List ℕ) → IsWithin (tops_of site) p → value t.1 p ≡ Some (walked_at walk state p) in
    IfOk-weaker c.execute_tree.result P Q (λ t at p w. at p w ∙ ap Some (does (packet_of p) (kind_of state p) (within_at (tops_of site) p 0 w low))) c.execute_tree.ensures.value
