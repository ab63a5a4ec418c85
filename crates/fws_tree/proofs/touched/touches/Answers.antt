use Rattle.std.proofs.Common.{sym, ◌∙◌}
use Rattle.std.proofs.lemmas.Result.{IfOk-weaker}
use Rattle.fws_tree.specs.Marks.{mark_at}
use Rattle.fws_tree.proofs.Cells.{extends-refl, extends-trans}
use Rattle.fws_tree.proofs.Covering.{masks-store}
use Rattle.fws_tree.proofs.Touching.{told_marks, found_marks}
use Rattle.fws_tree.proofs.touched.touches.Goals as goal

pub returns-then-not-have_bits-clause-extends : goal.returns-then-not-have_bits-clause-extends
returns-then-not-have_bits-clause-extends c = extends-refl c.args.store.now

pub returns-then-not-have_bits-clause-values : goal.returns-then-not-have_bits-clause-values
returns-then-not-have_bits-clause-values c = extends-refl c.args.values.now

pub returns-in_err-marked-clause-values : goal.returns-in_err-marked-clause-values
returns-in_err-marked-clause-values c = extends-refl c.args.values.now

pub returns-in_err-set-clause-values : goal.returns-in_err-set-clause-values
returns-in_err-set-clause-values c = extends-refl c.args.values.now

pub touches_of-requires-clause-masks : goal.touches_of-requires-clause-masks
touches_of-requires-clause-masks c = masks-store c.args.values.now c.args.store.now c.marked_cell.new.store c.args.masks.now c.marked_cell.ensures.extends c.requires.masks

pub touches_of-requires-clause-wanted : goal.touches_of-requires-clause-wanted
touches_of-requires-clause-wanted c = λ n is. c.have_bits.ensures c.if-not-have_bits.false n (sym (c.in_ok-set.ensures n) ∙ is)

pub returns-clause-extends : goal.returns-clause-extends
returns-clause-extends c = extends-trans c.args.store.now c.marked_cell.new.store c.touches_of.new.store c.marked_cell.ensures.extends c.touches_of.ensures.extends

pub returns-clause-told : goal.returns-clause-told
returns-clause-told c = IfOk-weaker c.touches_of.result _ _ (λ ts told. told_marks c.args.tops.now c.args.called.now c.args.store.now c.marked_cell.new.store c.args.root c.in_ok-marked.marked (mark_at c.args.marks.now 0) c.in_ok-set.set ts.items
    c.marked_cell.ensures.extends c.requires.root c.in_ok-set.ensures c.in_ok-marked.ensures.held told) c.touches_of.ensures.told

pub returns-clause-found : goal.returns-clause-found
returns-clause-found c = IfOk-weaker c.touches_of.result _ _ (λ ts met. found_marks c.args.tops.now c.args.called.now c.args.store.now c.marked_cell.new.store c.args.root c.in_ok-marked.marked (mark_at c.args.marks.now 0) c.in_ok-set.set ts.items
    c.marked_cell.ensures.extends c.requires.root c.in_ok-set.ensures c.in_ok-marked.ensures.held met) c.touches_of.ensures.met
