use Rattle.std.proofs.Common.{ap, sym, refl, ◌∙◌}
use Rattle.fws_unfold.specs.Levels.{flag_at}
use Rattle.fws_unfold.proofs.Searching.{find_new}
use Rattle.fws_unfold.proofs.reaching.find.Goals as goal

pub returns-clause-found : goal.returns-clause-found
returns-clause-found c = λ chains start found lt reached.
    find_new chains start c.args.seen.now.items _ c.args.queue.now.items _ c.args.d found lt reached
    (ap (λ t. flag_at t c.args.d) (sym c.as_slice.ensures.value) ∙ sym c.flag_at.ensures ∙ c.if-flag_at.false)
    refl c.in_ok-push.ensures.items
