use Rattle.std.proofs.Common.{◌≡◌, List, [], ◌∷◌, refl, subst, sym}
use Rattle.fws_ifcl.specs.declared.diagram.Place.{Place}
use Rattle.fws_ifcl.specs.declared.diagram.Spot.{Spot}
use Rattle.fws_ifcl.specs.Spots.{told}
use Rattle.fws_ifcl.specs.Uses.{used_places}
use Rattle.fws_top.proofs.openbsd.OpenbsdSource.places.Goals as goal

-- without spots nothing is told
nothing_told : (places : List Place) → told [] places ≡ []
nothing_told [] = refl
nothing_told (at ∷ places) = nothing_told places

pub returns-clause-uses : goal.returns-clause-uses
returns-clause-uses c = λ unrefused p k within.
    let used = used_places c.in_ok-diagram.diagram c.args.site.now p k in
    subst (λ (spots : List Spot). told spots used ≡ []) (sym c.new.ensures.items) (nothing_told used)
