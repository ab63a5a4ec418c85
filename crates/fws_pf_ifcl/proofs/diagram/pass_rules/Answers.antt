use Rattle.std.proofs.Common.{◌++◌, length, ap, ◌∙◌, subst}
use Rattle.fws_pf_ifcl.specs.Blocks.{IsTail, filter_rules, order_of, translations_from}
use Rattle.fws_pf_ifcl.specs.Diagram.{filter_place}
use Rattle.fws_pf_ifcl.proofs.Putting.{pass_put}
use Rattle.fws_pf_ifcl.proofs.diagram.pass_rules.Goals as goal

pub returns : goal.returns
returns c =
    let outward = c.args.outward in
    let f = c.args.c.now in
    let skipped = c.put_skipping.new.rules.items in
    let translated = c.put_translations.new.rules.items in
    let filtered = c.in_ok-put_filter_rules.ensures in
    let order = order_of c.args.in_order (λ _. filtered.tail) in
    record {
      tail = filtered.tail;
      stands = subst (λ rs. IsTail outward rs filtered.tail) c.as_slice.ensures filtered.stands;
      are = pass_put order outward f c.new-rules.result.items c.put_tracking.new.rules.items skipped translated c.put_filter_rules.new.rules.items
          c.new-rules.ensures.items c.in_ok-put_tracking.ensures c.in_ok-put_skipping.ensures
          (c.in_ok-put_translations.ensures
          ∙ ap (λ n. skipped ++ translations_from outward n (length skipped) c.translations.result.now) c.in_ok-filter.ensures
          ∙ ap (λ nats. skipped ++ translations_from outward (filter_place outward f) (length skipped) nats) c.translations.ensures)
          (filtered.are ∙ ap (λ rs. translated ++ filter_rules order outward (length translated) rs) c.as_slice.ensures);
    }
