use Rattle.fws_top.specs.Judged.{meant_by}
use Rattle.fws_top.proofs.PlacedPolicies.{placed_policy}
use Rattle.fws_top.proofs.placed.placed_in.Goals as goal

pub returns : goal.returns
returns g c =
    let site = c.args.site.now in
    let meant = meant_by (λ config. g.L.Source.walk config site) (g.L.Source.tracks site) (λ config. g.L.Source.used config site) g.L.Source.labels in
    placed_policy site (g.L.Source.refusal site c.args.c.now) (meant c.args.c.now) (record { diagram = c.in_ok-diagram.diagram; spots = c.in_ok-diagram.spots; labels = c.in_ok-labels.labels })
    c.in_ok-diagram.ensures.ok c.in_ok-diagram.ensures.refused c.in_ok-diagram.ensures.means c.in_ok-diagram.ensures.spots c.in_ok-diagram.ensures.uses c.in_ok-labels.ensures
