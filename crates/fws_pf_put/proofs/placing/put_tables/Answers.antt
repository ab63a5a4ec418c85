use Rattle.std.proofs.Common.{◌≡◌, true, not, ◌||◌, ◌&&◌, ap, ◌∙◌}
use Rattle.std.proofs.lemmas.Bool.{and_from}
use Rattle.std.specs.List.{list_all, list_any}
use Rattle.fws_pf.specs.declared.config.PfRule.{PfRule}
use Rattle.fws_pf_print.specs.Printable.{skips_none}
use Rattle.fws_pf_put_filter.specs.Filters.{catches_all}
use Rattle.fws_net.specs.declared.connection.Kind.TheVariants.{New, Est}
use Rattle.fws_pf_put.proofs.placing.put_tables.Goals as goal

pub returns : goal.returns
returns c =
    let draft = c.in_ok-draft.ensures in
    let config = c.in_ok-config.ensures in
    let made = c.in_ok-config.config in
    let skips : skips_none made.skip ≡ true = ap skips_none (config.skip ∙ draft.printed.skip) in
    let catches : list_any catches_all made.filter ≡ true = config.catches draft.catches in
    let keeps : list_all (λ (r : PfRule). not r.pass || r.keep) made.filter ≡ true = config.tracks draft.tracks in
    record {
      printable = config.printable c.args.site.now draft.printed;
      tracks = and_from (skips_none made.skip && list_any catches_all made.filter) (list_all (λ (r : PfRule). not r.pass || r.keep) made.filter)
          (and_from (skips_none made.skip) (list_any catches_all made.filter) skips catches) keeps;
      new = λ p of_site. config.same c.args.site.now p New ∙ draft.new p of_site;
      established = λ p r of_site. config.same c.args.site.now p (Est r) ∙ draft.established p r of_site;
    }
