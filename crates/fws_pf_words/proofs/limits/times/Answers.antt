use Rattle.std.proofs.Common.{arith}
use Rattle.fws_pf_words.proofs.Counts.{counted_as}
use Rattle.fws_pf_words.proofs.limits.times.Goals as goal

pub returns : goal.returns
returns c = λ x y p q. counted_as c.args.a c.args.b x y 400000 c.product.result (omega arith) c.product.ensures p q
