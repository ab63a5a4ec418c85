use Rattle.std.proofs.Common.{◌++◌, ℕ, List, sym, ap, ◌∙◌, subst}
use Rattle.fws_net.specs.Points.{tops_of}
use Rattle.fws_pf.specs.declared.config.PfRule.{PfRule}
use Rattle.fws_pf_put_filter.specs.Filters.{IsFilter}
use Rattle.fws_tree.specs.Shared.{IsShared}
use Rattle.fws_tree_seen.specs.declared.seen.Seen.TheVariants.{Entered}
use Rattle.fws_tree_seen.specs.Shown.{IsTold}
use Rattle.fws_pf_put.proofs.drafting.filter_rules.Goals as goal

pub put_filter-requires : goal.put_filter-requires
put_filter-requires c =
    let g = c.args.ground.now in
    let tops = sym c.requires.regular.fresh_tops in
    record {
      sound = c.requires.sound;
      tops_are = c.requires.regular.fresh_tops;
      told = subst (λ (ts : List ℕ). IsTold Entered ts g.tables.now.fresh.1) tops (c.views_are_told.ensures g.site.now g.tables.now c.requires.regular).fresh;
      shared = subst (λ (ts : List ℕ). IsShared ts g.tables.now.fresh.1 g.leaves.now g.nodes.now) tops c.requires.shared;
      stated = c.requires.stated;
    }

pub returns : goal.returns
returns c =
    let g = c.args.ground.now in
    let put = c.in_ok-put_filter.ensures in
    let filter = subst (λ (ts : List ℕ). IsFilter g.site.now ts g.leaves.now g.nodes.now g.states.now put.0) c.requires.regular.fresh_tops put.2 in
    subst (λ (rules : List PfRule). IsFilter g.site.now (tops_of g.site.now) g.leaves.now g.nodes.now g.states.now rules) (sym (put.1 ∙ ap (λ l. l ++ put.0) c.new-rules.ensures)) filter
