use Rattle.fws_pf_words.proofs.Uses.{last_as}
use Rattle.fws_pf_words.proofs.macros.last_joined.Goals as goal

pub returns-in_ok-words-in-Some : goal.returns-in_ok-words-in-Some
returns-in_ok-words-in-Some c =
    last_as c.args.words.now _ c.in_ok-words-in-Some.words c.in-Some.last.now c.in_ok-word-in-Some.word c.args.text.now c.put.new.self c.in-Some.ensures.cases.0
    c.in_ok-word-in-Some.ensures c.in_ok-put-in-Some.ensures.ok c.in_ok-words-in-Some.ensures
