use Rattle.std.proofs.Common.{◌≡◌, ◌<◌, ℕ, suc, List, ◌∷◌, length, get_or, drop, sym, ◌∙◌, ap, arith, rules}
use Rattle.std.proofs.lemmas.List.{drop_all}
use Rattle.std.proofs.Math.Seq.{drop-cons}
use Rattle.fws_tree.proofs.mark.Mark.of_sets.Goals as goal

-- an item that was read, ahead of those behind it
read_item : {X : Type 0} (xs : List X) (k : ℕ) (d a : X) (rest : List X) → k < length xs → a ≡ get_or xs k d → rest ≡ drop (suc k) xs → a ∷ rest ≡ drop k xs
read_item xs k d a rest lt e r = ap (λ z. z ∷ rest) e ∙ ap (λ zs. get_or xs k d ∷ zs) r ∙ sym (drop-cons xs k d lt)

pub returns-clause-sides : goal.returns-clause-sides
returns-clause-sides c = let twelve : length c.args.sides.now ≡ 12 = search rules in
    read_item c.args.sides.now 0 c.index-sides-0.result _ _ (omega arith) c.parts.ensures.value (read_item c.args.sides.now 1 c.index-sides-1.result _ _ (omega arith) c.parts-2.ensures.value (read_item c.args.sides.now 2 c.index-sides-2.result _ _ (omega arith) c.parts-3.ensures.value (read_item c.args.sides.now 3 c.index-sides-3.result _ _ (omega arith) c.parts-4.ensures.value (read_item c.args.sides.now 4 c.index-sides-4.result _ _ (omega arith) c.parts-5.ensures.value (read_item c.args.sides.now 5 c.index-sides-5.result _ _ (omega arith) c.parts-6.ensures.value (read_item c.args.sides.now 6 c.index-sides-6.result _ _ (omega arith) c.parts-7.ensures.value (read_item c.args.sides.now 7 c.index-sides-7.result _ _ (omega arith) c.parts-8.ensures.value (read_item c.args.sides.now 8 c.index-sides-8.result _ _ (omega arith) c.parts-9.ensures.value (read_item c.args.sides.now 9 c.index-sides-9.result _ _ (omega arith) c.parts-10.ensures.value (read_item c.args.sides.now 10 c.index-sides-10.result _ _ (omega arith) c.parts-11.ensures.value (read_item c.args.sides.now 11 c.index-sides-11.result _ _ (omega arith) c.parts-12.ensures.value (sym (drop_all 12 c.args.sides.now (omega arith))))))))))))))
