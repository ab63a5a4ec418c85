use Rattle.std.proofs.Common.{ap, ◌∙◌}
use Rattle.fws_pf_words.specs.Kept.{with_more}
use Rattle.fws_pf_words.proofs.Adding.{added, not_added}
use Rattle.fws_pf_words.proofs.defined.Additions.learn.Goals as goal

pub returns-in_ok-note-in-Ok-clause-given : goal.returns-in_ok-note-in-Ok-clause-given
returns-in_ok-note-in-Ok-clause-given c =
    added c.args.words.now c.in-Ok.more c.args.kept.now c.put_all.new.self c.in-Ok.ensures
    (c.in_ok-put_all-in-Ok.ensures ∙ ap (with_more c.args.kept.now) c.as_slice.ensures)

pub returns-in-Err-clause-given : goal.returns-in-Err-clause-given
returns-in-Err-clause-given c = not_added c.args.words.now c.args.kept.now c.in-Err.fault c.in-Err.ensures
