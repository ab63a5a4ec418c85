use Rattle.std.proofs.Common.{refl}
use Rattle.fws_num.specs.Lines.{lines_of}
use Rattle.fws_pf_words.proofs.Joining.{all_left, line_taken, line_counted, text_ended}
use Rattle.fws_pf_words.proofs.Splitting.{behind_shorter}
use Rattle.fws_pf_words.proofs.statements.read_statements.Goals as goal

pub loop-line-init : goal.loop-line-init
loop-line-init c = record {
  so_far = all_left _ (lines_of c.args.text.now) c.new.ensures refl c.new-2.ensures refl;
  counted = refl;
}

pub loop-line-smaller : goal.loop-line-smaller
loop-line-smaller c = behind_shorter 10 c.loop-line.rest.now c.in-Some.line.now c.in-Some.behind.now c.in-Some.ensures

pub loop-line-preserved : goal.loop-line-preserved
loop-line-preserved c = record {
  so_far = line_taken c.loop-line.reader c.take_line.new.self c.loop-line.rest.now c.in-Some.line.now c.in-Some.behind.now _ _ c.in-Some.ensures c.without_carriage_return.ensures
      (c.in_ok-take_line.ensures.lines (lines_of c.in-Some.behind.now)) c.loop-line.invariant.so_far;
  counted = line_counted c.loop-line.reader.number c.take_line.new.self.number _ c.loop-line.rest.now c.in-Some.line.now c.in-Some.behind.now c.in-Some.ensures c.in_ok-take_line.ensures.number c.loop-line.invariant.counted;
}

pub returns : goal.returns
returns c =
    text_ended c.loop-line.rest.now c.args.text.now c.loop-line.reader c.take_last.new.self c.in_ok-lines.lines c.in_default.ensures c.in_ok-take_last.ensures.lines c.in_ok-take_last.ensures.number
    c.in_ok-lines.ensures c.loop-line.invariant.so_far c.loop-line.invariant.counted
