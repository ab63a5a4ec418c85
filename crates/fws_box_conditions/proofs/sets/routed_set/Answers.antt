use Rattle.std.proofs.Common.{◌+◌, ◌<◌, ◌&&◌, ◌^◌, nat_lt, length, arith, ap, ◌∙◌}
use Rattle.fws_iv.specs.Ivs.{has}
use Rattle.fws_net.specs.Routes.{route_of}
use Rattle.fws_box_conditions.proofs.Routing.{all_tried}
use Rattle.fws_box_conditions.proofs.sets.routed_set.Goals as goal

pub returns : goal.returns
returns c a =
    let r = route_of c.args.site.now a in
    let entry = c.loop-entry.entry in
    let led = c.routes_are_entries.ensures c.args.site.now a c.requires.sound in
    let low : r < length c.args.site.now.faces + 2 = omega (arith, led.1) in
    c.loop-entry.invariant a ∙ all_tried r (length c.args.site.now.faces + 2) entry (has c.args.set.now r && nat_lt a (2 ^ 32)) low (omega (arith, ap length c.as_slice.ensures))
