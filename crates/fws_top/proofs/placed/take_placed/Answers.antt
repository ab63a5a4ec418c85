use Rattle.fws_top.specs.Judged.{meant_by}
use Rattle.fws_top.proofs.PlacedPolicies.{placed_text}
use Rattle.fws_top.proofs.placed.take_placed.Goals as goal

pub returns-clause-placed : goal.returns-clause-placed
returns-clause-placed g c =
    let site = c.args.site.now in
    let meant = meant_by (λ config. g.L.Source.walk config site) (g.L.Source.tracks site) (λ config. g.L.Source.used config site) g.L.Source.labels in
    placed_text site (g.L.Source.refusal site) meant (g.L.Source.spelled site c.args.bytes.now) c.in_ok-config.config c.in_ok-placed_in.field-0 c.in_ok-config.ensures.given c.in_ok-placed_in.ensures

pub placed_in-requires-clause-from_text : goal.placed_in-requires-clause-from_text
placed_in-requires-clause-from_text g c = (c.args.bytes.now, c.in_ok-config.ensures.given)
