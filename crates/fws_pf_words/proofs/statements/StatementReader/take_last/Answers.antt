use Rattle.std.proofs.Common.{[], ◌<◌, length, arith}
use Rattle.fws_pf_words.proofs.Joining.{last_taken}
use Rattle.fws_pf_words.proofs.statements.StatementReader.take_last.Goals as goal

pub returns-in_ok-take_line-in-len1-up-clause-lines : goal.returns-in_ok-take_line-in-len1-up-clause-lines
returns-in_ok-take_line-in-len1-up-clause-lines c =
    let some : 0 < length c.args.bytes.now = omega arith in
    last_taken c.args.self.now c.take_line.new.self c.args.bytes.now some (c.in_ok-take_line-in-len1-up.ensures.lines [])
