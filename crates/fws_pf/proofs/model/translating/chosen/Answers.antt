use Rattle.std.proofs.Common.{◌≡◌, Option, None, Some, List, find, MatchOption, ap, ◌∙◌, subst}
use Rattle.fws_net.specs.Conditions.{holds}
use Rattle.fws_net.specs.declared.view.View.{View}
use Rattle.fws_pf.specs.declared.config.PfNat.{PfNat}
use Rattle.fws_pf.specs.Walk.{view_on}
use Rattle.fws_pf.proofs.model.translating.chosen.Goals as goal

pub returns : goal.returns
returns c =
    let first : View → List PfNat → Option PfNat = λ v nats. find (λ nat. holds nat.cond v) nats in
    let seen : View = view_on c.args.scene.now.site.now c.args.scene.now.outward c.args.t.now in
    subst (λ (o : Option PfNat). MatchOption c.first_holding.result (o ≡ None) (λ nat. o ≡ Some nat.now))
    (ap (λ (v : View). first v c.translations.result.now) c.in_ok-view.ensures ∙ ap (first seen) c.translations.ensures) c.first_holding.ensures
