use Rattle.std.proofs.Common.{List, Ok, subst}
use Rattle.fws_num.specs.declared.comments.Comments.TheVariants.{HashLine}
use Rattle.fws_net.specs.declared.connection.Conn.{Conn}
use Rattle.fws_net.specs.Reading.{ReadGiven, text_read}
use Rattle.fws_trace.specs.ConnectionText.{spelled_conn}
use Rattle.fws_trace.specs.Lines.{line_step}
use Rattle.fws_trace.proofs.connections.read_conns.Goals as goal

pub returns : goal.returns
returns c = c.listed.ensures spelled_conn c.args.text.now
    (subst (λ (xs : List Conn). ReadGiven c.read_text.result (text_read HashLine (line_step spelled_conn) (λ ys. Ok ys) xs c.args.text.now)) c.new.ensures c.read_text.ensures)
