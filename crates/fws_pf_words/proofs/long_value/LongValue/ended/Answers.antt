use Rattle.fws_pf_words.proofs.Fronting.{ended_whole}
use Rattle.fws_pf_words.proofs.long_value.LongValue.ended.Goals as goal

pub returns-in_ok-go_on-in-Some : goal.returns-in_ok-go_on-in-Some
returns-in_ok-go_on-in-Some c =
    ended_whole c.args.self c.start.result c.in-Some.last c.go_on.new.self c.in_ok-last.field-0 c.start.ensures c.in_ok-last.ensures c.in-Some.is
    c.in_ok-go_on-in-Some.ensures
