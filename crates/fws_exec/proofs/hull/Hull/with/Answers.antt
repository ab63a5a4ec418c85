use Rattle.std.proofs.Common.{arith}
use Rattle.fws_exec.proofs.hull.Hull.with.Goals as goal

pub returns-clause-first : goal.returns-clause-first
returns-clause-first c p point = record {
  twelve = point.twelve;
  low = λ k lt. (let e = c.smaller_of.ensures.least k lt in let o = point.low k lt in omega (arith, e, o));
  high = λ k lt. (let e = c.larger_of.ensures.greatest k lt in let o = point.high k lt in omega (arith, e, o));
}

pub returns-clause-second : goal.returns-clause-second
returns-clause-second c p point = record {
  twelve = point.twelve;
  low = λ k lt. (let e = c.smaller_of.ensures.least k lt in let o = point.low k lt in omega (arith, e, o));
  high = λ k lt. (let e = c.larger_of.ensures.greatest k lt in let o = point.high k lt in omega (arith, e, o));
}
