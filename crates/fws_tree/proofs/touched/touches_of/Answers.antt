use Rattle.std.proofs.lemmas.Result.{IfOk-weaker}
use Rattle.fws_tree.proofs.Cells.{extends-refl}
use Rattle.fws_tree.proofs.Touching.{told_asked, all_before}
use Rattle.fws_tree.proofs.touched.touches_of.Goals as goal

pub returns-in_err-first-clause-extends : goal.returns-in_err-first-clause-extends
returns-in_err-first-clause-extends c = extends-refl c.args.store.now

pub returns-in_err-first-clause-values : goal.returns-in_err-first-clause-values
returns-in_err-first-clause-values c = extends-refl c.args.values.now

pub returns-clause-told : goal.returns-clause-told
returns-clause-told c = IfOk-weaker c.touches_at.result _ _ (λ ts e. told_asked c.args.values.now c.args.skips.wanted c.args.store.now c.recoloured.new.store c.args.root c.args.marked c.in_ok-painted.painted
    c.args.called.now c.recoloured.new.by.called.now c.recoloured.new.by.labels.keys ts.items c.recoloured.ensures.later.0 c.requires.wanted c.in_ok-painted.ensures.recoloured e) c.touches_at.ensures.labels

pub returns-clause-met : goal.returns-clause-met
returns-clause-met c = IfOk-weaker c.touches_at.result _ _ (λ ts all. all_before c.args.tops.now c.args.store.now c.recoloured.new.store c.args.root c.args.marked c.args.called.now ts.items c.recoloured.ensures.extends c.requires.root c.requires.marked all)
    c.touches_at.ensures.met
