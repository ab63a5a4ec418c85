use Rattle.std.proofs.Common.{ℕ, ◌++◌, ◌∷◌, [], List, ◌∙◌, ap, arith}
use Rattle.std.proofs.lemmas.Fmt.{length-decimal-le}
use Rattle.std.specs.Fmt.{decimal}
use Rattle.fws_ipt_put_chains.proofs.Naming.{plain_name}
use Rattle.fws_ipt_put_chains.proofs.names.chain_name.Goals as goal

pub returns-clause-plain : goal.returns-clause-plain
returns-clause-plain c =
    let dash : List ℕ = 45 ∷ [] in
    let word = c.in_ok-put_word.ensures in
    let n : ℕ = c.from.result in
    let e1 = ap (λ l. l ++ dash) c.in_ok-name.ensures in
    let e2 = ap (λ l. l ++ word.0) (c.in_ok-put.ensures.ok ∙ e1) in
    let e3 = ap (λ l. l ++ dash) (word.1 ∙ e2) in
    let e4 = ap (λ l. l ++ decimal n) (c.in_ok-put-2.ensures.ok ∙ e3) in
    plain_name c.args.front.now word.0 (decimal n) c.put_dec.new.out (c.in_ok-put_dec.ensures.ok ∙ e4) c.requires.plain c.requires.short word.2
    (c.numbers_are_digits.ensures n).0 (length-decimal-le 10 n (omega arith) (omega (arith, c.from.ensures, c.ranges.number)) (omega (arith, c.from.ensures, c.ranges.number)))
