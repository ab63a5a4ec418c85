use Rattle.std.proofs.Common.{Result, subst}
use Rattle.fws_net.specs.declared.cause.Cause.{Cause}
use Rattle.fws_pfo.specs.declared.statement.PfoStatement.{PfoStatement}
use Rattle.fws_pfo.specs.declared.statement.PfoStatement.TheVariants as any
use Rattle.fws_pfo_read.specs.Statements.{StatementGiven}
use Rattle.fws_pfo_read.proofs.SameWords.{same_raws}
use Rattle.fws_pfo_read.proofs.whole_statement.all_taken.Goals as goal

pub returns-clause-given : goal.returns-clause-given
returns-clause-given c =
    subst (λ (read : Result PfoStatement Cause). StatementGiven c.raws_taken.result read)
    (same_raws c.args.setting.now c.args.macros.now c.args.tags.now c.args.words.now any.Begun) c.raws_taken.ensures.given
