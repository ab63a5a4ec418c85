use Rattle.std.proofs.Common.{List, Option, ap, ◌∙◌}
use Rattle.fws_flat.specs.Uses.{used_places as flat_used}
use Rattle.fws_ifcl.specs.declared.diagram.Place.{Place}
use Rattle.fws_ifcl.specs.Spots.{told}
use Rattle.fws_unfold.specs.Told.{told as stood_for}
use Rattle.fws_dead.specs.Unused.{used_at}
use Rattle.fws_dead.proofs.Telling.{unused_alike}
use Rattle.fws_dead.proofs.unused.dead.Goals as goal

pub returns-clause-unused : goal.returns-clause-unused
returns-clause-unused c =
    let site = c.args.site.now in
    let spots = c.args.spots.now in
    let flat = c.in_ok-flat.flat in
    unused_alike site c.args.rules c.in_ok-numbers.numbers.items (λ p k. told spots (stood_for c.as_slice.result.now (flat_used flat site p k))) (used_at c.args.f.now site spots)
    (λ p k w. ap (λ (l : List (Option Place)). told spots (stood_for l (flat_used flat site p k))) c.as_slice.ensures.value ∙ ap (told spots) (c.in_ok-flat.ensures.uses site p k))
    c.in_ok-numbers.ensures

pub returns-clause-alike : goal.returns-clause-alike
returns-clause-alike c used same =
    let site = c.args.site.now in
    let spots = c.args.spots.now in
    let flat = c.in_ok-flat.flat in
    unused_alike site c.args.rules c.in_ok-numbers.numbers.items (λ p k. told spots (stood_for c.as_slice.result.now (flat_used flat site p k))) used
    (λ p k w. ap (λ (l : List (Option Place)). told spots (stood_for l (flat_used flat site p k))) c.as_slice.ensures.value ∙ ap (told spots) (c.in_ok-flat.ensures.uses site p k) ∙ same p k w)
    c.in_ok-numbers.ensures
