use Rattle.std.proofs.Common.{◌≡◌, ℕ, ◌+◌, ◌^◌, Bool, true, ◌&&◌, ◌||◌, length, refl, ap, sym, ◌∙◌, arith}
use Rattle.std.specs.Prelude.{nat_lt}
use Rattle.fws_iv.specs.Ivs.{has}
use Rattle.fws_net.specs.Routes.{route_of}
use Rattle.fws_ios_put_sources.specs.Sources.{is_on}
use Rattle.fws_place.specs.Rewritings.{side_of}
use Rattle.fws_ios_put_sources.proofs.SideSets.{one_joined, one_left, routes_below}
use Rattle.fws_ios_put_sources.proofs.sides.outside_routes.Goals as goal
use Rattle.fws_ios_put_sources.proofs.sides.outside_routes.Goals.{then-is_on+in_ok-there+in_ok-set, else-is_on}

pub loop-entry-preserved : goal.loop-entry-preserved
loop-entry-preserved c =
    let site = c.args.site.now in
    let P : ℕ → Bool = λ n. is_on true (side_of site n) in
    let k = c.loop-entry.entry in
    let low : ℕ → Bool = λ a. nat_lt a (2 ^ 32) in
    elim c.if-is_on.branch [
      | then-is_on+in_ok-there+in_ok-set w ↦ λ a.
          ap (λ s. has s a) w.set-is ∙ w.in_ok-set.ensures a ∙ ap (λ b. has c.loop-entry.set a || b) (w.in_ok-there.ensures a)
          ∙ one_joined P k (route_of site a) (low a) (has c.loop-entry.set a) (c.loop-entry.invariant a) (sym c.is_on.ensures ∙ w.if-is_on.true)
      | else-is_on w ↦ λ a.
          ap (λ s. has s a) w.set-is ∙ c.loop-entry.invariant a
          ∙ ap (λ b. b && low a) (one_left P k (route_of site a) (nat_lt (route_of site a) k && P (route_of site a)) refl (sym c.is_on.ensures ∙ w.if-is_on.false))
    ]

pub returns : goal.returns
returns c =
    let site = c.args.site.now in
    let end : c.loop-entry.entry ≡ length site.faces + 2 = omega (arith, c.len.ensures, c.loop-entry-test.false, c.loop-entry.auto.entry-end) in
    λ a. c.loop-entry.invariant a ∙ ap (λ k. (nat_lt (route_of site a) k && is_on true (side_of site (route_of site a))) && nat_lt a (2 ^ 32)) end ∙ routes_below site a
