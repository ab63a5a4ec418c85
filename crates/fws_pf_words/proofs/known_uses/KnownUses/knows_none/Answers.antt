use Rattle.fws_pf_words.proofs.Leading.{nothing_known}
use Rattle.fws_pf_words.proofs.known_uses.KnownUses.knows_none.Goals as goal

pub returns-then-is_empty : goal.returns-then-is_empty
returns-then-is_empty c = λ yes setting macros items. nothing_known setting macros items c.args.self.now (c.is_empty.ensures c.if-is_empty.true) (c.is_empty-then-is_empty.ensures yes)
