use Rattle.std.proofs.Common.{◌≡◌, ◌<◌, ◌^◌, ◌&&◌, ◌||◌, not, ℕ, Bool, true, List, length, nat_eq, nat_lt, slice_index, ap, ◌∙◌}
use Rattle.std.proofs.lemmas.Bool.{lt-ltb}
use Rattle.std.proofs.lemmas.Result.{IfOk-weaker}
use Rattle.fws_iv.specs.Ivs.{has}
use Rattle.fws_box.specs.Boxes.{sides_of}
use Rattle.fws_box.specs.Sides.{sides_have}
use Rattle.fws_net.specs.Routes.{is_local, route_of}
use Rattle.fws_box_conditions.specs.Scenes.{standing_addr}
use Rattle.fws_box_conditions.specs.Areas.{AreWhere}
use Rattle.fws_box_conditions.proofs.Counting.{where_same, where_those}
use Rattle.fws_box_conditions.proofs.Routing.{dst_low, sent_dst_low, sent_there, from_all, from_host}
use Rattle.fws_box_conditions.proofs.interface_boxes.routed_boxes.Goals as goal

pub returns-then-site : goal.returns-then-site
returns-then-site c =
    let site = c.args.site.now in
    let area = (sides_of c.args.area.now) in
    let set = c.args.set.now in
    let dst : List ℕ → ℕ = λ p. standing_addr c.args.dst (slice_index p 2) (slice_index p 8) in
    let host : List ℕ → Bool = λ p. nat_eq (slice_index p 0) 0 in
    let x : List ℕ → Bool = λ p. has set (route_of site (dst p)) && not (is_local site (dst p)) in
    let there : List ℕ → Bool = λ p. has c.in_ok-there.there (dst p) in
    let same : (p : List ℕ) → length p ≡ 12 → sides_have area p ≡ true → there p ≡ x p = λ p n h.
    let w = c.requires.within p n h in
    let low : dst p < 2 ^ 32 = c.in_ok-boxes.ensures.low (slice_index p 2) (slice_index p 8) (dst_low site p w) (sent_dst_low site p w) in
    sent_there (there p) (has c.in_ok-routed_set.field-0 (dst p)) (has c.args.ways.now.local (dst p)) (has set (route_of site (dst p))) (nat_lt (dst p) (2 ^ 32)) (is_local site (dst p))
    (c.in_ok-there.ensures (dst p)) (c.in_ok-routed_set.ensures (dst p)) (c.requires.ways.local (dst p)) (lt-ltb (dst p) (2 ^ 32) low) in
    where_same area there (λ p. x p && (site.forwarding || host p)) c.in_ok-boxes.boxes.items c.in_ok-boxes.ensures.held
    (λ p n h. from_all (there p) (x p) site.forwarding (host p) (same p n h) c.if-site.true)

pub returns : goal.returns
returns c =
    let site = c.args.site.now in
    let area = (sides_of c.args.area.now) in
    let set = c.args.set.now in
    let dst : List ℕ → ℕ = λ p. standing_addr c.args.dst (slice_index p 2) (slice_index p 8) in
    let host : List ℕ → Bool = λ p. nat_eq (slice_index p 0) 0 in
    let x : List ℕ → Bool = λ p. has set (route_of site (dst p)) && not (is_local site (dst p)) in
    let there : List ℕ → Bool = λ p. has c.in_ok-there.there (dst p) in
    let one : List ℕ → Bool = λ p. has c.in_ok-single.field-0 (slice_index p 0) in
    let same : (p : List ℕ) → length p ≡ 12 → sides_have area p ≡ true → there p ≡ x p = λ p n h.
    let w = c.requires.within p n h in
    let low : dst p < 2 ^ 32 = c.in_ok-boxes.ensures.low (slice_index p 2) (slice_index p 8) (dst_low site p w) (sent_dst_low site p w) in
    sent_there (there p) (has c.in_ok-routed_set.field-0 (dst p)) (has c.args.ways.now.local (dst p)) (has set (route_of site (dst p))) (nat_lt (dst p) (2 ^ 32)) (is_local site (dst p))
    (c.in_ok-there.ensures (dst p)) (c.in_ok-routed_set.ensures (dst p)) (c.requires.ways.local (dst p)) (lt-ltb (dst p) (2 ^ 32) low) in
    IfOk-weaker c.those_in.result _ (λ boxes. AreWhere area (λ p. x p && (site.forwarding || host p)) boxes.items)
    (λ boxes e. where_same area (λ p. there p && one p) (λ p. x p && (site.forwarding || host p)) boxes.items
    (where_those area there one c.in_ok-boxes.boxes.items boxes.items c.in_ok-boxes.ensures.held e)
    (λ p n h. ap (λ b. there p && b) (c.in_ok-single.ensures (slice_index p 0)) ∙ from_host (there p) (x p) site.forwarding (host p) (same p n h) c.if-site.false))
    c.those_in.ensures
