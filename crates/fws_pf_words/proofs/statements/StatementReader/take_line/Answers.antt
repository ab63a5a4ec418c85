use Rattle.fws_pf_words.proofs.Joining.{went_on, went_to_end}
use Rattle.fws_pf_words.proofs.statements.StatementReader.take_line.Goals as goal

pub returns-in_ok-end-in-None-clause-lines : goal.returns-in_ok-end-in-None-clause-lines
returns-in_ok-end-in-None-clause-lines c = λ rest. went_to_end c.args.self.now c.end.new.self c.args.line.now c.in_ok-next.next rest c.in-None.ensures c.in_ok-next.ensures c.in_ok-end-in-None.ensures

pub returns-in_ok-go_on-in-Some-clause-lines : goal.returns-in_ok-go_on-in-Some-clause-lines
returns-in_ok-go_on-in-Some-clause-lines c = λ rest. went_on c.args.self.now c.go_on.new.self c.args.line.now c.in-Some.front.now c.in_ok-next.next rest c.in-Some.ensures c.in_ok-next.ensures c.in_ok-go_on-in-Some.ensures
