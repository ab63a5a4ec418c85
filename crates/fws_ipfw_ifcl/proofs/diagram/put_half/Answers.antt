use Rattle.std.proofs.Common.{rules, ◌≡◌, true, ◌+◌, ◌<◌, ◌++◌, length, get_or, slice_index, drop, arith, sym, ap, ◌∙◌}
use Rattle.fws_ipfw_ifcl.specs.Blocks.{starts_from, place_behind, skipping_to, block}
use Rattle.fws_ipfw_ifcl.specs.Diagram.{half_place, second_place, ending_place}
use Rattle.fws_ipfw_ifcl.proofs.Starts.{left_first, here_first, half_step}
use Rattle.fws_ipfw_ifcl.proofs.diagram.put_half.Goals as goal

pub loop-k-init : goal.loop-k-init
loop-k-init c =
    let f = c.args.c.now in
    let site = c.args.site.now in
    let at = half_place f c.args.translated in
    record {
      within = omega arith;
      left = left_first f.nats site.one_pass c.args.translated (ending_place site f) at (second_place f) f.rules c.args.rules.now.items;
      long = c.requires.begin ∙ sym (here_first f.nats site.one_pass c.args.translated (ending_place site f) at (second_place f) f.rules);
    }

pub loop-k-preserved : goal.loop-k-preserved
loop-k-preserved c =
    let f = c.args.c.now in
    let site = c.args.site.now in
    let translated = c.args.translated in
    let ends = ending_place site f in
    let at = half_place f translated in
    let k = c.loop-k.k in
    let r = c.index-all-k.result in
    let starts = starts_from f.nats translated at f.rules in
    let done = c.in_ok-place_behind.field-0 in
    let to = c.skipping_to.result in
    let built = c.loop-k.rules.items in
    let within : k < length f.rules = search rules in
    let item : r ≡ get_or f.rules k r = c.index-all-k.is ∙ ap (λ rs. get_or rs k r) c.as_slice-all.ensures in
    let behind : done ≡ place_behind site.one_pass ends (slice_index (starts_from f.nats true (second_place f) f.rules) (k + 1)) =
    c.in_ok-place_behind.ensures ∙ ap (λ n. place_behind site.one_pass n (slice_index c.args.others.now (k + 1))) c.requires.ends
    ∙ ap (λ s. place_behind site.one_pass ends (slice_index s (k + 1))) c.requires.others in
    let skips : to ≡ skipping_to f.nats translated (slice_index starts (k + 1)) (drop (k + 1) f.rules) r.act =
    c.skipping_to.ensures f.nats translated at (c.requires.starts ∙ ap (starts_from f.nats translated at) (sym c.as_slice-all.ensures))
    ∙ ap (λ s. skipping_to f.nats translated (slice_index s (k + 1)) (drop (k + 1) c.as_slice-all.result.now) r.act) c.requires.starts
    ∙ ap (λ rs. skipping_to f.nats translated (slice_index starts (k + 1)) (drop (k + 1) rs) r.act) c.as_slice-all.ensures in
    let put : c.put_block.new.rules.items ≡ built ++ block f.nats translated ends done to (length built) r =
    c.in_ok-put_block.ensures ∙ ap (λ nats. built ++ block nats translated c.args.ends done to (length built) r) c.as_slice-nats.ensures
    ∙ ap (λ n. built ++ block f.nats translated n done to (length built) r) c.requires.ends in
    let step = half_step f.nats site.one_pass translated ends at (second_place f) f.rules
    built c.put_block.new.rules.items _ k done to r within item behind skips c.loop-k.invariant.left c.loop-k.invariant.long put in
    record { within = omega (arith, within); left = step.0; long = step.1 }
