use Rattle.std.proofs.Common.{◌≡◌, ℕ, ◌+◌, Bool, ◌&&◌, length, ap, sym, ◌∙◌, arith}
use Rattle.std.specs.Prelude.{nat_lt}
use Rattle.fws_iv.specs.Ivs.{has}
use Rattle.fws_ios_put_sources.specs.Sources.{is_on}
use Rattle.fws_place.specs.Rewritings.{side_of}
use Rattle.fws_ios_put_sources.proofs.SideSets.{one_put, one_left, all_below}
use Rattle.fws_ios_put_sources.proofs.sides.entries_on.Goals as goal
use Rattle.fws_ios_put_sources.proofs.sides.entries_on.Goals.{then-is_on+in_ok-extend, else-is_on}

pub loop-entry-preserved : goal.loop-entry-preserved
loop-entry-preserved c =
    let P : ℕ → Bool = λ n. is_on c.args.outside (side_of c.args.site.now n) in
    let k = c.loop-entry.entry in
    elim c.if-is_on.branch [
      | then-is_on+in_ok-extend w ↦ λ n.
          ap (λ s. has s n) w.set-is ∙ w.in_ok-extend.ensures.ok n
          ∙ one_put P k n (has c.loop-entry.set n) (c.loop-entry.invariant n) (sym c.is_on.ensures ∙ w.if-is_on.true)
      | else-is_on w ↦ λ n.
          ap (λ s. has s n) w.set-is ∙ one_left P k n (has c.loop-entry.set n) (c.loop-entry.invariant n) (sym c.is_on.ensures ∙ w.if-is_on.false)
    ]

pub returns : goal.returns
returns c =
    let site = c.args.site.now in
    let end : c.loop-entry.entry ≡ length site.faces + 2 = omega (arith, c.len.ensures, c.loop-entry-test.false, c.loop-entry.auto.entry-end) in
    λ n. c.loop-entry.invariant n ∙ ap (λ k. nat_lt n k && is_on c.args.outside (side_of site n)) end ∙ all_below site n c.args.outside
