use Rattle.fws_pf_words.proofs.Uses.{joined_as}
use Rattle.fws_pf_words.proofs.macros.joined_words.Goals as goal

pub returns : goal.returns
returns c =
    joined_as c.args.words.now c.in-Some.front.now c.in_ok-joined.joined c.put-2.new.self c.in-Some.last.now c.in_ok-word.word c.args.text.now c.put.new.self
    c.in-Some.ensures.cases.0 c.in_ok-joined.ensures c.in_ok-word.ensures c.in_ok-put.ensures.ok c.in_ok-put-2.ensures.ok
