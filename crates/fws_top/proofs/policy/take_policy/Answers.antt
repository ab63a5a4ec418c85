use Rattle.std.proofs.Common.{rules}
use Rattle.fws_top.specs.Judged.{meant_by}
use Rattle.fws_top.proofs.Policies.{policy_code, policy_refused}
use Rattle.fws_top.proofs.policy.take_policy.Goals as goal

pub returns-clause-code : goal.returns-clause-code
returns-clause-code g c =
    let site = c.args.site.now in
    let meant = meant_by (λ config. g.L.Source.walk config site) (g.L.Source.tracks site) (λ config. g.L.Source.used config site) g.L.Source.labels in
    policy_code c.args.name.now site (g.L.Source.refusal site) meant (g.L.Source.spelled site c.args.bytes.now)
    c.in_ok-config.config c.in_ok-diagram.diagram (record { flat = c.in_ok-flat.flat; tracks = c.tracks.result })
    (c.spelled_walks_are_regular.ensures site c.args.bytes.now c.in_ok-config.config c.in_ok-config.ensures.given)
    c.in_ok-config.ensures.given c.in_ok-diagram.ensures.refused c.in_ok-diagram.ensures.means c.in_ok-flat.ensures.code c.tracks.ensures

pub returns-in_err-flat-clause-refused : goal.returns-in_err-flat-clause-refused
returns-in_err-flat-clause-refused g c =
    let site = c.args.site.now in
    let meant = meant_by (λ config. g.L.Source.walk config site) (g.L.Source.tracks site) (λ config. g.L.Source.used config site) g.L.Source.labels in
    let ends = policy_refused c.args.name.now (g.L.Source.refusal site) meant (g.L.Source.spelled site c.args.bytes.now)
    c.in_ok-config.config c.in_ok-diagram.diagram c.in_err-flat.field-0.0
    c.in_ok-config.ensures.given c.in_ok-diagram.ensures.refused c.in_err-flat.ensures.refused in
    search (rules, ends)
