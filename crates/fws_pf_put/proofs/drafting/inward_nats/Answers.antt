use Rattle.std.proofs.Common.{◌++◌, false, List, sym, ap, ◌∙◌, subst}
use Rattle.fws_net.specs.Points.{tops_of}
use Rattle.fws_pf.specs.declared.config.PfNat.{PfNat}
use Rattle.fws_pf_put_nat.specs.Translations.{IsTranslations}
use Rattle.fws_pf_put.proofs.drafting.inward_nats.Goals as goal

pub returns : goal.returns
returns c =
    let g = c.args.ground.now in
    let put = c.in_ok-put_pass.ensures in
    subst (λ (nats : List PfNat). IsTranslations g.site.now (tops_of g.site.now) g.tables.now.fresh.1 g.leaves.now g.nodes.now g.states.now false nats)
    (sym (put.1 ∙ ap (λ l. l ++ put.0) c.new-nats.ensures)) put.2
