use Rattle.std.proofs.Common.{List, [], ◌∷◌, ◌++◌, ap, sym, ◌∙◌}
use Rattle.fws_net.specs.declared.condition.Lit.{Lit}
use Rattle.fws_pf.specs.declared.rule_draft.Choice.{Choice}
use Rattle.fws_pf.specs.Drawn.{conditions, crossed}
use Rattle.fws_pf_words.proofs.Crossing.{each_more, goes_on_with}
use Rattle.fws_pf_words.proofs.choices.+put_all.Goals as goal

pub put_all-returns-in_ok-put_all-in-Some-one_cond : goal.put_all-returns-in_ok-put_all-in-Some-one_cond
put_all-returns-in_ok-put_all-in-Some-one_cond t c =
    c.in_ok-put_all-in-Some-one_cond.ensures
    ∙ ap (λ (l : List (List Lit)). c.args.all.now ++ l)
    (goes_on_with c.args.front c.in-Some-one_cond.one.now _ c.in-Some.choice.now c.in-Some.rest.now c.in-Some-one_cond.ensures c.in_ok-extended-in-Some-one_cond.ensures
    ∙ sym (ap (λ (cs : List Choice). crossed (c.args.front ∷ []) (conditions cs)) c.in-Some.ensures.cases.0))

pub put_each-loop-cond-preserved : goal.put_each-loop-cond-preserved
put_each-loop-cond-preserved t c =
    each_more c.args.conds.now c.loop-cond.cond-index c.args.front.now c.cond-item.result _ (conditions c.args.rest.now) c.loop-cond.all c.put_all.new.all _
    c.loop-cond-test.true c.cond-item.is c.in_ok-joined.ensures c.in_ok-put_all.ensures c.loop-cond.invariant
