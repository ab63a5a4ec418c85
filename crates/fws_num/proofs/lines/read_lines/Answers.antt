use Rattle.std.proofs.Common.{ap, refl, length, arith}
use Rattle.std.specs.Str.Lines.{strip_carriage_return}
use Rattle.fws_num.proofs.Splitting.{split_once-shorter, lines_of-line, lines_ended, line_read}
use Rattle.fws_num.proofs.lines.read_lines.Goals as goal

pub loop-line-smaller : goal.loop-line-smaller
loop-line-smaller c = split_once-shorter 10 c.loop-line.rest.now c.in-Some.line.now c.in-Some.behind.now c.in-Some.ensures

pub loop-line-preserved : goal.loop-line-preserved
loop-line-preserved c =
    let left = lines_of-line c.loop-line.rest.now c.in-Some.line.now c.in-Some.behind.now c.in-Some.ensures in
    record {
      so_far = line_read c.args.comments c.loop-line.lines c.put_line.new.lines _ c.loop-line.number c.in_ok-number.number (strip_carriage_return c.in-Some.line.now) _ _ left (rw c.without_carriage_return.ensures at c.in_ok-put_line.ensures) c.in_ok-number.ensures c.loop-line.invariant.so_far;
      counted = omega (arith, ap length left);
    }

pub returns : goal.returns
returns c =
    let e = lines_ended c.args.comments c.loop-line.lines c.put_last.new.lines c.loop-line.number c.in_ok-past.past c.loop-line.rest.now c.args.text.now c.in_default.ensures c.in_ok-past.ensures.lines c.in_ok-past.ensures.past c.loop-line.invariant.so_far c.loop-line.invariant.counted in
    rw (e.0, e.1) refl
