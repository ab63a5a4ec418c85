use Rattle.fws_pf_words.proofs.Finding.{names_kept}
use Rattle.fws_pf_words.proofs.lists.ItemList.naming.Goals as goal

pub returns : goal.returns
returns c = names_kept c.self.inside.marks.items c.self.inside.kept c.as_slice.result.now c.args.self.now c.self.invariant.kept c.self.view_is c.as_slice.ensures
