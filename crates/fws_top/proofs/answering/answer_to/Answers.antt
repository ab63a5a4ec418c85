use Rattle.fws_top.proofs.Plans.{answers_words}
use Rattle.fws_top.proofs.answering.answer_to.Goals as goal

pub returns-clause-answered : goal.returns-clause-answered
returns-clause-answered g c =
    answers_words _ c.args.words.now (g.S.Shelf.told c.args.shelf.now) (g.S.Shelf.faults c.args.shelf.now) (g.S.Shelf.faults c.follow.new.shelf) c.follow.result
    c.read_form-form.ensures.asked c.follow.ensures.answered
