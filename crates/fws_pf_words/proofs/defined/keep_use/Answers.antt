use Rattle.std.proofs.Common.{sym}
use Rattle.fws_pf_words.specs.Additions.{AreAdditions}
use Rattle.fws_pf_words.specs.Uses.{words_named}
use Rattle.fws_pf_words.specs.UsesKnown.{front_named}
use Rattle.fws_pf_words.proofs.Adding.{first_known}
use Rattle.fws_pf_words.proofs.defined.keep_use.Goals as goal

pub returns-in-empty-clause-known : goal.returns-in-empty-clause-known
returns-in-empty-clause-known c =
    first_known c.keep.result (AreAdditions (words_named c.args.macros.now) c.keep.new.self.known.entries)
    (AreAdditions (front_named c.args.macros.now) c.args.uses.now.fronts.known.entries)
    (c.keep.ensures.known (words_named c.args.macros.now) (sym c.words-words.ensures) c.requires.0) c.requires.1
