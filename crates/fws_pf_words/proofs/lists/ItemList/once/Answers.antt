use Rattle.std.proofs.Common.{[], sym, ◌∙◌, arith}
use Rattle.fws_pf_words.proofs.Repeating.{all_once}
use Rattle.fws_pf_words.proofs.lists.ItemList.once.Goals as goal

pub returns-then-len : goal.returns-then-len
returns-then-len c =
    c.as_slice.ensures ∙ sym (all_once c.self.inside.marks.items c.self.inside.kept [] c.self.invariant.kept (omega arith)) ∙ c.self.view_is
