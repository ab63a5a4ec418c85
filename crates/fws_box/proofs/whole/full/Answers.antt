use Rattle.std.proofs.Common.{◌+◌, ◌∙◌, ap, arith, take, rules}
use Rattle.std.proofs.lemmas.List.{length-map}
use Rattle.fws_box.proofs.Placed.{seen, seen_set}
use Rattle.fws_box.proofs.SideBySide.{filled_made, made_more, regular_made}
use Rattle.fws_box.proofs.whole.full.Goals as goal

pub loop-k-preserved : goal.loop-k-preserved
loop-k-preserved c =
    let n = length-map c.loop-k.sides (λ s. s.now) in
    let k = c.loop-k.k in
    record {
      twelve = search rules;
      made = ap (take (k + 1)) (seen_set c.loop-k.sides k _)
          ∙ made_more (seen c.loop-k.sides) c.args.tops.now k c.in_ok-sides.field-0.now (omega arith) (omega arith) c.in_ok-sides.ensures c.loop-k.invariant.made;
    }

pub invariant_of-result-clause-filled : goal.invariant_of-result-clause-filled
invariant_of-result-clause-filled c =
    let n = length-map c.loop-k.sides (λ s. s.now) in
    filled_made c.loop-k.k (seen c.loop-k.sides) c.args.tops.now (omega arith) c.loop-k.invariant.made

pub invariant_of-result-clause-regular : goal.invariant_of-result-clause-regular
invariant_of-result-clause-regular c =
    let n = length-map c.loop-k.sides (λ s. s.now) in
    regular_made c.loop-k.k (seen c.loop-k.sides) c.args.tops.now (omega arith) c.loop-k.invariant.made
