use Rattle.std.proofs.Common.{◌<◌, List, length, map, sym, subst, Bor}
use Rattle.std.proofs.lemmas.List.{get_or-map, length-map}
use Rattle.fws_iv.specs.declared.iv.Iv.{Iv}
use Rattle.fws_iv.specs.Ivs.{IsRegular}
use Rattle.fws_tree.proofs.mark.Mark.of_box.Goals as goal

-- src/mark.rt:29:5
pub invariant_of-result-clause-regular : goal.invariant_of-result-clause-regular
invariant_of-result-clause-regular c = λ k d below.
    let now : Bor (List Iv) → List Iv = λ s. s.now in
    let within : k < length (map now c.args.b.now.sides) = subst (λ n. k < n) (sym (length-map c.args.b.now.sides now)) below in
    subst IsRegular (get_or-map now c.args.b.now.sides k d d.now below) (c.args.b.now.regular k d.now within)
