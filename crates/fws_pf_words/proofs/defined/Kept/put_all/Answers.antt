use Rattle.fws_pf_words.proofs.Adding.{full}
use Rattle.fws_pf_words.proofs.defined.Kept.put_all.Goals as goal

pub returns-then-self-gt-MOST_BYTES : goal.returns-then-self-gt-MOST_BYTES
returns-then-self-gt-MOST_BYTES c = full c.args.self.now c.self.inside.words c.args.words.now c.self.inside.size c.self.view_is c.if-self-gt-MOST_BYTES.true
