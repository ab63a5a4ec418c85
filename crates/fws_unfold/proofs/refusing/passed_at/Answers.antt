use Rattle.std.proofs.Common.{◌≡◌, ◌+◌, ◌<◌, ◌≤◌, suc, length, drop, drop-cons, get_or, arith, ap, sym, ◌∙◌}
use Rattle.fws_ifcl.specs.Refusals.{passed_at}
use Rattle.fws_unfold.proofs.Refused.{passed_here, passed_on, passed_over}
use Rattle.fws_unfold.proofs.refusing.passed_at.Goals as goal
use Rattle.fws_unfold.proofs.refusing.passed_at.Goals.{in-Some+else-sum-gt-LIMIT, in-None}

pub returns-then-sum-gt-LIMIT : goal.returns-then-sum-gt-LIMIT
returns-then-sum-gt-LIMIT c =
    let f = c.args.f.now in
    let n = c.loop-n.n in
    let same = ap length c.as_slice-chain-items.ensures in
    let lt : n < length f.chains = omega (arith, same) in
    let there = drop-cons f.chains n c._chain-item.result lt in
    let gt : 1000000 < c.loop-n.sum + c.in-Some.size = omega arith in
    sym (passed_here f c.loop-n.sum n (get_or f.chains n c._chain-item.result) (drop (suc n) f.chains) c.in-Some.size c.in-Some.ensures c.loop-n.invariant.small gt) ∙ ap (passed_at f c.loop-n.sum n) (sym there) ∙ c.loop-n.invariant.so_far

pub loop-n-preserved : goal.loop-n-preserved
loop-n-preserved c =
    let f = c.args.f.now in
    let n = c.loop-n.n in
    let same = ap length c.as_slice-chain-items.ensures in
    let lt : n < length f.chains = omega (arith, same) in
    let there = drop-cons f.chains n c._chain-item.result lt in
    let one : n + 1 ≡ suc n = omega arith in
    elim c.match-staged_size.branch [
      | in-Some+else-sum-gt-LIMIT w ↦
          let le : c.loop-n.sum + w.in-Some.size ≤ 1000000 = omega arith in
          record {
            small = omega arith;
            so_far = ap (λ s. passed_at f s (n + 1) (drop (n + 1) f.chains)) w.sum-is
                ∙ ap (λ k. passed_at f (c.loop-n.sum + w.in-Some.size) k (drop k f.chains)) one
                ∙ sym (passed_on f c.loop-n.sum n (get_or f.chains n c._chain-item.result) (drop (suc n) f.chains) w.in-Some.size w.in-Some.ensures le) ∙ ap (passed_at f c.loop-n.sum n) (sym there) ∙ c.loop-n.invariant.so_far;
          }
      | in-None w ↦ record {
        small = omega arith;
        so_far = ap (λ s. passed_at f s (n + 1) (drop (n + 1) f.chains)) w.sum-is
            ∙ ap (λ k. passed_at f c.loop-n.sum k (drop k f.chains)) one
            ∙ sym (passed_over f c.loop-n.sum n (get_or f.chains n c._chain-item.result) (drop (suc n) f.chains) w.in-None.ensures) ∙ ap (passed_at f c.loop-n.sum n) (sym there) ∙ c.loop-n.invariant.so_far;
      }
    ]
