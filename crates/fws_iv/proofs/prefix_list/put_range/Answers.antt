use Rattle.std.proofs.Common.{arith, inl, inr}
use Rattle.std.proofs.lemmas.Bool.{cases_lt}
use Rattle.fws_iv.proofs.prefix_list.put_range.Goals as goal

pub returns-clause-few : goal.returns-clause-few
returns-clause-few c =
    let grown = c.in_ok-next.ensures in
    let more = c.in_ok-put_shrinking.ensures.few in
    elim grown.near [
      | inl none ↦ omega (arith, grown.few, more 33 (omega arith) (omega arith))
      | inr near ↦ elim (cases_lt c.in_ok-next.next c.args.end) [
        | inl lt ↦ omega (arith, grown.short lt, more 31 (omega arith) near)
        | inr ge ↦ omega (arith, grown.all, more 0 (omega arith) (omega arith))
      ]
    ]
