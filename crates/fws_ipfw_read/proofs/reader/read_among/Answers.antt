use Rattle.std.proofs.Common.{subst}
use Rattle.fws_net.specs.Reading.{ReadGiven, lines_ended}
use Rattle.fws_ipfw.specs.declared.draft.IpfwDraft.{IpfwDraft}
use Rattle.fws_ipfw.specs.FileText.{ended, line_step}
use Rattle.fws_ipfw_read.proofs.reader.read_among.Goals as goal

pub returns : goal.returns
returns c =
    subst (λ (d : IpfwDraft). ReadGiven c.read_with.result (lines_ended (line_step c.args.site.now c.args.known.now) ended d c.args.lines.now))
    c.new.ensures c.read_with.ensures
