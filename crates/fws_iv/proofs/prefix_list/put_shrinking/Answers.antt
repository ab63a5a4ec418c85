use Rattle.std.proofs.Common.{◌≡◌, ◌<◌, ℕ, ◌+◌, ◌-◌, ◌%◌, ◌^◌, ◌∙◌, ap, arith, sym, subst}
use Rattle.std.proofs.lemmas.Bool.Decides.{nat_tests}
use Rattle.fws_iv.specs.Prefixes.{EndBy}
use Rattle.fws_iv.proofs.Powers.{aligned_more, exponents, pow_next}
use Rattle.fws_iv.proofs.prefix_list.put_shrinking.Goals as goal

pub loop-bits-preserved-then-next-pow : goal.loop-bits-preserved-then-next-pow
loop-bits-preserved-then-next-pow c =
    let last : ℕ = c.loop-bits.bits - 1 in
    let one : c.loop-bits.bits ≡ last + 1 = omega arith in
    let double : 2 ^ c.loop-bits.bits ≡ 2 ^ last + 2 ^ last = ap (λ k. 2 ^ k) one ∙ pow_next last in
    let done = c.in_ok-next.ensures in
    let next : c.in_ok-next.next ≡ c.loop-bits.next + 2 ^ last = done.next in
    record {
      short = omega arith;
      reached = omega arith;
      within = omega arith;
      left = omega arith;
      aligned = λ b fits. let lower : b < last = exponents b last (omega arith) in
          ap (λ n. n % 2 ^ b) next ∙ aligned_more c.loop-bits.next b last (omega arith) (c.loop-bits.invariant.aligned last (omega arith));
      ends = subst (λ n. EndBy n c.put_block.new.out.items) (sym next) done.ends;
      members = λ v. grind (arith, nat_tests, done.members v, c.loop-bits.invariant.members v, next);
      few = λ b most fits. let lower : last < b = exponents last b (omega arith) in omega (arith, done.count, c.loop-bits.invariant.few b most fits);
    }
