use Rattle.std.proofs.Common.{arith}
use Rattle.fws_exec.proofs.hull.Hull.within.Goals as goal

pub returns : goal.returns
returns c p point other = record {
  twelve = point.twelve;
  low = λ k lt. (let e = c.larger_of.ensures.greatest k lt in let o = point.low k lt in let q = other.low k lt in omega (arith, e, o, q));
  high = λ k lt. (let e = c.smaller_of.ensures.least k lt in let o = point.high k lt in let q = other.high k lt in omega (arith, e, o, q));
}
