use Rattle.fws_pf_words.proofs.Adding.{noted}
use Rattle.fws_pf_words.proofs.defined.Additions.note.Goals as goal

pub returns : goal.returns
returns c = λ words_of add are.
    noted words_of c.args.more c.args.self.now.known.entries c.insert.new.self.entries c.args.name.now _ c.in_ok-copy.ensures
    (λ other. c.in_ok-insert.ensures.updates.0 other) add are
