use Rattle.std.proofs.Common.{◌≡◌, ℕ, List, ap, sym, ◌∙◌}
use Rattle.fws_ifcl.specs.Refusals.{named_in}
use Rattle.fws_unfold.specs.Numbers.{number_at, all_below}
use Rattle.fws_unfold.proofs.Numbers.{falls}
use Rattle.fws_unfold.proofs.loops.is_looped.Goals as goal

pub returns-then-all_below : goal.returns-then-all_below
returns-then-all_below c =
    let chains = c.args.calls.now.chains.now in
    let numbers = c.args.numbers.now in
    let is : c.named.result.now ≡ named_in chains c.args.c = c.named.ensures chains c.requires.calls in
    falls c.loops_are_real.ensures chains numbers c.args.c c.requires.numbers
    (ap (λ (names : List ℕ). all_below numbers (number_at numbers c.args.c) names) (sym is)
    ∙ ap (λ (top : ℕ). all_below numbers top c.named.result.now) (sym c.number_at.ensures)
    ∙ sym c.all_below.ensures ∙ c.if-all_below.true)
