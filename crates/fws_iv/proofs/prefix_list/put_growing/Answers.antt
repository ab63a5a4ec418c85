use Rattle.std.proofs.Common.{◌≡◌, ◌≢◌, ◌≤◌, ◌<◌, ℕ, ◌+◌, ◌%◌, ◌^◌, ◌∙◌, ap, arith, inl, inr, sym, subst}
use Rattle.std.proofs.lemmas.Bool.{cases_lt}
use Rattle.std.proofs.lemmas.Bool.Decides.{nat_tests}
use Rattle.std.proofs.lemmas.Nat.{pow_pos}
use Rattle.fws_iv.specs.Prefixes.{EndBy}
use Rattle.fws_iv.proofs.Powers.{aligned_below, aligned_next, pow_order}
use Rattle.fws_iv.proofs.prefix_list.put_growing.Goals as goal

pub returns-then-next-pow-clause-aligned : goal.returns-then-next-pow-clause-aligned
returns-then-next-pow-clause-aligned c = λ bits fits.
    elim (cases_lt bits c.loop-bits.bits) [
      | inl lt ↦ aligned_below c.loop-bits.next bits c.loop-bits.bits (omega arith) c.loop-bits.invariant.aligned
      | inr ge ↦ let larger : 2 ^ c.loop-bits.bits ≤ 2 ^ bits = pow_order _ _ ge in absurd (omega arith)
    ]

pub loop-bits-preserved : goal.loop-bits-preserved
loop-bits-preserved c =
    let bits : ℕ = c.loop-bits.bits in
    let kept = c.loop-bits.invariant in
    let done = c.in_ok-next.ensures in
    let next : c.in_ok-next.next ≡ c.loop-bits.next + 2 ^ bits = done.next in
    let some : 0 < 2 ^ bits = pow_pos bits in
    let odd : c.loop-bits.next % 2 ^ (bits + 1) ≢ 0 = λ even. c.if-next-pow-eq0.false (ap (λ n. c.loop-bits.next % n) c.pow.ensures ∙ even) in
    record {
      reached = omega arith;
      within = omega arith;
      aligned = ap (λ n. n % 2 ^ (bits + 1)) next ∙ aligned_next c.loop-bits.next bits kept.aligned odd;
      ends = subst (λ n. EndBy n c.put_block.new.out.items) (sym next) done.ends;
      members = λ v. grind (arith, nat_tests, done.members v, kept.members v, next);
      few = omega (arith, done.count);
      count = omega (arith, done.count);
    }
