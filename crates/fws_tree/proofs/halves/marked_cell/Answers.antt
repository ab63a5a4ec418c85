use Rattle.std.proofs.lemmas.Result.{IfOk-weaker}
use Rattle.fws_tree.proofs.Cells.{extends-trans}
use Rattle.fws_tree.proofs.Marking.{marked_held}
use Rattle.fws_tree.proofs.halves.marked_cell.Goals as goal

pub returns-in_err-last-clause-extends : goal.returns-in_err-last-clause-extends
returns-in_err-last-clause-extends c = extends-trans _ _ _ c.halves.ensures.extends c.intern.ensures.extends

pub returns-clause-extends : goal.returns-clause-extends
returns-clause-extends c = extends-trans _ _ _ c.halves.ensures.extends (extends-trans _ _ _ c.intern.ensures.extends c.merge.ensures.extends)

pub returns-clause-held : goal.returns-clause-held
returns-clause-held c = IfOk-weaker c.merge.result _ _ (λ r e p w.
    marked_held c.halves.new.store c.intern.new.self c.merge.new.store c.in_ok-first.first c.in_ok-last.last r c.args.rest p c.args.marks.now c.intern.ensures.extends c.in_ok-first.ensures.inside e
    (c.in_ok-first.ensures.held p w) (c.in_ok-last.ensures.held p)) c.merge.ensures.merged
