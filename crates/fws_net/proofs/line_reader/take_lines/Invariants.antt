use Rattle.std.proofs.Common.{◌≡◌, drop}
use Rattle.fws_net.specs.Reading.{lines_read}
use Rattle.fws_net.proofs.line_reader.take_lines.Given as goal

abbrev pub invariant-loop-line : goal.invariant-loop-line
invariant-loop-line g l = lines_read (g.R.LineReader.step l.context) (g.R.LineReader.state l.reader) (drop l.line-index l.lines)
    ≡ lines_read (g.R.LineReader.step l.context) (g.R.LineReader.state l.initial.reader) l.lines
