use Rattle.fws_pf_words.proofs.Repeating.{kept_pass}
use Rattle.fws_pf_words.proofs.lists.ItemList.kept.Goals as goal

pub returns : goal.returns
returns c = kept_pass c.self.inside.marks.items c.self.inside.kept c.as_slice.result.now c.args.self.now c.self.invariant.kept c.self.view_is c.as_slice.ensures
