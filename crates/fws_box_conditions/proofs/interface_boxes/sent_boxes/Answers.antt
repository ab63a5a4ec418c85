use Rattle.std.proofs.Common.{◌&&◌, ◌||◌, not, ℕ, Bool, List, nat_eq, slice_index, ap, ◌∙◌}
use Rattle.fws_iv.specs.Ivs.{has}
use Rattle.fws_net.specs.Conditions.{is_shown}
use Rattle.fws_net.specs.Routes.{is_local, route_of}
use Rattle.fws_net.specs.Showing.{sending}
use Rattle.fws_box.specs.Boxes.{sides_of}
use Rattle.fws_box_conditions.specs.Scenes.{standing_addr, standing_packet}
use Rattle.fws_box_conditions.proofs.Counting.{where_same}
use Rattle.fws_box_conditions.proofs.Showing.{where_either, kinds_apart, sends}
use Rattle.fws_box_conditions.proofs.interface_boxes.sent_boxes.Goals as goal

pub returns : goal.returns
returns c =
    let site = c.args.site.now in
    let area = (sides_of c.args.area.now) in
    let set = c.args.set.now in
    let dst : List ℕ → ℕ = λ p. standing_addr c.args.scene.now.dst (slice_index p 2) (slice_index p 8) in
    let host : List ℕ → Bool = λ p. nat_eq (slice_index p 0) 0 in
    let t : List ℕ → Bool = λ p. (has set (route_of site (dst p)) && not (is_local site (dst p))) && (site.forwarding || host p) in
    let u : List ℕ → Bool = λ p. c.has-asked.result && (is_local site (dst p) && host p) in
    where_same area (λ p. t p || u p) (λ p. is_shown (sending site (standing_packet c.args.scene.now p)) set) c.append.new.self.items
    (where_either area t u c.in_ok-boxes.boxes.items c.in_ok-looped.looped.items c.append.new.self.items c.in_ok-append.ensures.items c.in_ok-boxes.ensures c.in_ok-looped.ensures
    (λ p. kinds_apart (has set (route_of site (dst p))) (is_local site (dst p)) (site.forwarding || host p) c.has-asked.result (host p)))
    (λ p n h. ap (λ b. t p || (b && (is_local site (dst p) && host p))) c.has-asked.ensures ∙ sends (host p) (is_local site (dst p)) site.forwarding set (route_of site (dst p)))
