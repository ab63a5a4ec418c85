use Rattle.std.proofs.Common.{subst}
use Rattle.fws_dead.specs.Compared.{IsComparison}
use Rattle.fws_top.proofs.Suggestions.{alike_give_fates}
use Rattle.fws_top.proofs.suggesting.is_alike.Goals as goal
use Rattle.fws_trace.specs.Outcomes.{outcome_by}

pub same-requires-clause-b : goal.same-requires-clause-b
same-requires-clause-b c =
    let means = c.requires.regular in
    c.in_ok-made.ensures.regular means.0 means.1 means.2

pub returns : goal.returns
returns c = λ walk does yes.
    let site = c.args.site.now in
    let policy = c.args.policy.now in
    let made = c.in_ok-made.made in
    alike_give_fates site policy made walk (c.in_ok-made.ensures.walked walk does)
    (subst (IsComparison site (outcome_by policy) (outcome_by made)) (c.is_same.ensures yes) c.in_ok-found.ensures.tables)
