-- A list in which stretches come again.
use Rattle.std.specs.Prelude.{ℕ, suc, List, [], ◌∷◌, ◌++◌, take, drop}
use Rattle.fws_pf.specs.declared.value_draft.Item.{Item}
use Rattle.fws_pf_words.specs.declared.lists.Mark.{Mark}
use Rattle.fws_pf_words.specs.declared.lists.Mark.TheVariants as marks

-- the list with what comes next, and the kept items that are left
abbrev pub with_mark : Mark → List Item → List Item → List Item × List Item
with_mark marks.One [] all = (all, [])
with_mark marks.One (item ∷ kept) all = (all ++ item ∷ [], kept)
with_mark (marks.Again from count) kept all = (all ++ take count (drop from all), kept)

-- the list with what all marks put behind it
abbrev pub unfolded : List Item → List Mark → List Item → List Item
unfolded all [] kept = all
unfolded all (mark ∷ ms) kept = unfolded (with_mark mark kept all).0 ms (with_mark mark kept all).1

-- how many kept items marks put
abbrev pub ones : List Mark → ℕ
ones [] = 0
ones (marks.One ∷ ms) = suc (ones ms)
ones (marks.Again from count ∷ ms) = ones ms
