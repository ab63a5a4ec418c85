use Rattle.std.proofs.Common.{◌≡◌, ◌∷◌, [], ◌++◌, List, sym, ◌∙◌, ap, subst, arith}
use Rattle.fws_iv.specs.declared.iv.Iv.{Iv}
use Rattle.fws_pf_put_nat.specs.declared.path.Path.{Path}
use Rattle.fws_pf_put_nat.specs.declared.side.Side.{Side}
use Rattle.fws_pf_put_nat.specs.Paths.{with_part}
use Rattle.fws_pf_put_nat.specs.Writings.{written_side, AreBlockPaths}
use Rattle.fws_pf_put_nat.proofs.Written.{block_more, no_blocks}
use Rattle.fws_pf_put_nat.proofs.writings.block_paths.Goals as goal

pub loop-from-init : goal.loop-from-init
loop-from-init c =
    let order = c.requires.order in (
      omega arith,
      omega (arith, order),
      subst (λ (l : List Path). AreBlockPaths c.args.outward c.args.path c.args.len c.args.lo c.args.lo l) (sym c.new-paths.ensures) (no_blocks c.args.outward c.args.path c.args.len c.args.lo),
    )

pub loop-from-preserved : goal.loop-from-preserved
loop-from-preserved c =
    let outward = c.args.outward in
    let path = c.args.path in
    let from = c.loop-from.from in
    let end = c.block_last-end.result in
    let paths = c.loop-from.paths in
    let inv = c.loop-from.invariant in
    let low = inv.0 in
    let later = c.block_last-end.ensures.later in
    let within = c.block_last-end.ensures.within in
    let part : Iv = record { lo = from; hi = end } in
    let is : c.put.new.self ≡ paths ++ with_part (written_side outward) part path ∷ [] =
    c.in_ok-put.ensures.ok ∙ ap (λ (x : Path). paths ++ x ∷ []) (c.narrowed.ensures ∙ ap (λ (k : Side). with_part k part path) c.side_written-side.ensures) in (
      omega (arith, low, later),
      omega (arith, within),
      block_more outward path c.args.len c.args.lo from end paths c.put.new.self (λ p a b. c.requires.within p a (omega (arith, b, within))) low later c.block_last-end.ensures.agrees is inv.2,
    )
