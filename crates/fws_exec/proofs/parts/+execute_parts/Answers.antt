use Rattle.std.proofs.Common.{◌&&◌, cond, get_or, Some, sym, ◌∙◌, ap, subst}
use Rattle.fws_iv.specs.Ivs.{has}
use Rattle.fws_box.specs.Sides.{IsWithin, sides_have}
use Rattle.fws_flat.specs.Walk.{means}
use Rattle.fws_net.specs.declared.outcome.Outcome.TheVariants.{Drop}
use Rattle.fws_net.specs.Points.{packet_of}
use Rattle.fws_exec.specs.Classes.{kind_of}
use Rattle.fws_exec.specs.Parts.{either}
use Rattle.fws_exec.proofs.Parted.{halves_meet}
use Rattle.fws_exec.proofs.parts.+execute_parts.Goals as goal

pub returns-clause-value : goal.returns-clause-value
returns-clause-value t c p w =
    let job = c.args.job.now in
    let o = means (record job.f.now { code = job.code.now }) job.site.now (packet_of p) (kind_of job.state p) in
    let all = sides_have c.args.sides.now p in
    let low = has c.in_ok-set.set (get_or p 4 0) in
    c.in_ok-tree.ensures.value p (subst (λ tops. IsWithin tops p) (sym c.in_ok-first.ensures.tops) w) _ _ (c.in_ok-first.ensures.value p w) (c.in_ok-second.ensures.value p w)
    ∙ ap (λ x. Some x) (ap (λ b. either (cond b o Drop) (cond (sides_have c.in_ok-above.above p) o Drop)) (c.in_ok-below.ensures p)
    ∙ ap (λ b. either (cond (all && low) o Drop) (cond b o Drop)) (c.in_ok-above.ensures p)
    ∙ halves_meet all low o)
