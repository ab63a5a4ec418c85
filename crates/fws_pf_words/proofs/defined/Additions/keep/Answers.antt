use Rattle.std.proofs.Common.{ap, ◌∙◌}
use Rattle.fws_pf_words.specs.Kept.{with_more}
use Rattle.fws_pf_words.proofs.Adding.{known_added}
use Rattle.fws_pf_words.proofs.defined.Additions.keep.Goals as goal

pub returns-in_ok-put_all-in-Some-clause-given : goal.returns-in_ok-put_all-in-Some-clause-given
returns-in_ok-put_all-in-Some-clause-given c = λ words_of e are.
    known_added words_of c.args.words.now c.in-Some.more.now c.args.kept.now c.put_all.new.self c.args.self.now.known.entries c.args.name.now c.in-Some.ensures.value
    (c.in_ok-put_all-in-Some.ensures ∙ ap (with_more c.args.kept.now) c.as_slice.ensures) e are
