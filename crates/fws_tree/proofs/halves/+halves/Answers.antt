use Rattle.std.proofs.Common.{◌/◌, length}
use Rattle.std.proofs.lemmas.Result.{IfOk-weaker}
use Rattle.fws_tree.proofs.Cells.{extends-trans}
use Rattle.fws_tree.proofs.Marking.{halves_held}
use Rattle.fws_tree.proofs.halves.+halves.Goals as goal

pub returns-in_err-b-clause-extends : goal.returns-in_err-b-clause-extends
returns-in_err-b-clause-extends t c = extends-trans _ _ _ c.halves.ensures.extends c.halves-2.ensures.extends

pub returns-clause-extends : goal.returns-clause-extends
returns-clause-extends t c = extends-trans _ _ _ c.halves.ensures.extends (extends-trans _ _ _ c.halves-2.ensures.extends c.merge.ensures.extends)

pub returns-clause-held : goal.returns-clause-held
returns-clause-held t c = IfOk-weaker c.merge.result _ _ (λ r e p w.
    halves_held c.halves.new.store c.halves-2.new.store c.merge.new.store c.in_ok-a.a c.in_ok-b.b r (length c.args.marks.now / 2) p c.args.marks.now c.split_at.result.0.now c.split_at.result.1.now
    c.halves-2.ensures.extends c.in_ok-a.ensures.inside e (c.in_ok-a.ensures.held p w) (c.in_ok-b.ensures.held p w) c.split_at.ensures.front c.split_at.ensures.back) c.merge.ensures.merged
