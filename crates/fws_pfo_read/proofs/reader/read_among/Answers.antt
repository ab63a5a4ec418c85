use Rattle.std.proofs.Common.{◌≡◌, Ok, subst}
use Rattle.fws_net.specs.Reading.{lines_ended}
use Rattle.fws_pfo.specs.FileText.{ended, line_step}
use Rattle.fws_pfo_read.proofs.reader.read_among.Goals as goal

pub returns : goal.returns
returns c =
    subst (λ start. lines_ended (line_step c.args.site.now c.args.tables.now) ended start c.args.lines.now ≡ Ok c.in_ok-config.config) c.new.ensures c.in_ok-config.ensures
