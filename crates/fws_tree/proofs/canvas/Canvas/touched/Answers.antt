use Rattle.std.proofs.Common.{◌≡◌, ◌<◌, ℕ, List, length, sym, ◌∙◌, ap, subst}
use Rattle.fws_tree.specs.Bits.{AreMasks}
use Rattle.fws_tree.specs.declared.store.Cell.{Cell}
use Rattle.fws_tree.specs.Held.{AreOrderedFrom, held_at}
use Rattle.fws_tree.proofs.Touching.{back}
use Rattle.fws_tree.proofs.canvas.Canvas.touched.Goals as goal

pub touches-outcome-requires-clause-masks : goal.touches-outcome-requires-clause-masks
touches-outcome-requires-clause-masks c = subst (λ (ms : List ℕ). AreMasks c.args.self.now.values c.args.self.now.store ms) (sym c.as_slice.ensures.value) c.catch_up.ensures

pub returns-clause-values : goal.returns-clause-values
returns-clause-values c = c.keep_first.ensures ∙ back c.len-count.result c.args.self.now.values c.touches-outcome.new.values c.len-count.ensures c.touches-outcome.ensures.values

pub returns-clause-value : goal.returns-clause-value
returns-clause-value c = λ p. ap (λ cs. held_at cs c.args.self.now.root p)
    (c.cut_back.ensures ∙ back c.extent-extent.result.cells c.args.self.now.store c.touches-outcome.new.store c.extent-extent.ensures c.touches-outcome.ensures.extends)

pub invariant_of-self-2 : goal.invariant_of-self-2
invariant_of-self-2 c =
    let store : c.cut_back.new.self ≡ c.args.self.now.store =
    c.cut_back.ensures ∙ back c.extent-extent.result.cells c.args.self.now.store c.touches-outcome.new.store c.extent-extent.ensures c.touches-outcome.ensures.extends in
    let values : c.keep_first.new.self ≡ c.args.self.now.values = c.keep_first.ensures ∙ back c.len-count.result c.args.self.now.values c.touches-outcome.new.values c.len-count.ensures c.touches-outcome.ensures.values in
    record {
      twelve = c.args.self.now.twelve;
      ordered = subst (λ (cs : List Cell). AreOrderedFrom 0 cs) (sym store) c.args.self.now.ordered;
      inside = subst (λ (cs : List Cell). c.args.self.now.root < length cs) (sym store) c.args.self.now.inside;
      masked = subst (λ (cs : List Cell). AreMasks c.keep_first.new.self cs c.catch_up.new.masks.items) (sym store)
          (subst (λ (vs : List ℕ). AreMasks vs c.args.self.now.store c.catch_up.new.masks.items) (sym values) c.catch_up.ensures);
    }
