use Rattle.std.proofs.Common.{◌≡◌, ℕ, Some, List, sym, subst}
use Rattle.std.proofs.lemmas.Result.{IfOk-weaker}
use Rattle.std.specs.Prelude.{slice_index, if◌then◌else◌}
use Rattle.fws_box.specs.Sides.{IsWithin, sides_have}
use Rattle.fws_net.specs.declared.outcome.Outcome.{Outcome}
use Rattle.fws_net.specs.declared.outcome.Outcome.TheVariants.{Drop}
use Rattle.fws_tree.specs.Plain.{Plain, value}
use Rattle.fws_place.specs.OneEnd.{HasEnds}
use Rattle.fws_place.proofs.OneEnds.{painted_ends, restricted_ends}
use Rattle.fws_place.proofs.one_end.ends_alone.Goals as goal

pub returns-in-Destinations-clause-value : goal.returns-in-Destinations-clause-value
returns-in-Destinations-clause-value c =
    let all = c.in_ok-all.all in
    let host = c.in_ok-host.host in
    let P : List ℕ × Plain Outcome → Type 0 = λ t. (q : List ℕ) → IsWithin all.0 q → value t.1 q ≡ (if sides_have host q then Some Drop else value all.1 q) in
    let Q : List ℕ × Plain Outcome → Type 0 = λ t. HasEnds c.args.site.now c.args.tables.now c.args.compared t.1 in
    IfOk-weaker c.paint.result P Q
    (λ t h q w.
    let fresh = subst (λ ts. IsWithin ts q) (sym c.requires.regular.fresh_tops) w in
    let here = c.in_ok-all.ensures.value q fresh in (
      here.0,
      here.1,
      painted_ends c.args.compared c.in-Destinations.is (slice_index q 0) (sides_have host q) (c.in_ok-host.ensures q w) (value all.1 q) (value t.1 q) here.0 here.2
          (h q (subst (λ ts. IsWithin ts q) (sym c.in_ok-all.ensures.tops) fresh)),
    ))
    c.paint.ensures.value

pub returns-clause-value : goal.returns-clause-value
returns-clause-value c =
    let all = c.in_ok-all.all in
    let host = c.in_ok-host.host in
    let P : List ℕ × Plain Outcome → Type 0 = λ t. (q : List ℕ) → IsWithin all.0 q → value t.1 q ≡ (if sides_have host q then value all.1 q else Some Drop) in
    let Q : List ℕ × Plain Outcome → Type 0 = λ t. HasEnds c.args.site.now c.args.tables.now c.args.compared t.1 in
    IfOk-weaker c.restrict.result P Q
    (λ t h q w.
    let fresh = subst (λ ts. IsWithin ts q) (sym c.requires.regular.fresh_tops) w in
    let here = c.in_ok-all.ensures.value q fresh in (
      here.0,
      here.1,
      restricted_ends c.args.compared c.in-HostSources.is (slice_index q 0) (sides_have host q) (c.in_ok-host.ensures q w) (value all.1 q) (value t.1 q) here.0 here.2
          (h q (subst (λ ts. IsWithin ts q) (sym c.in_ok-all.ensures.tops) fresh)),
    ))
    c.restrict.ensures.value
