use Rattle.std.proofs.Common.{◌+◌, arith}
use Rattle.std.proofs.lemmas.List.{take_rest}
use Rattle.fws_pf_words.proofs.Reading.{byte_read, step_within, stretch_read}
use Rattle.fws_pf_words.proofs.statements.words_of.Goals as goal

pub loop-i-preserved : goal.loop-i-preserved
loop-i-preserved c = record {
  within = step_within c.args.bytes.now _ c.loop-i.i c.in_ok-i.field-0 c.loop-i-test.true (take_rest c.args.bytes.now (c.loop-i.i + 1)) c.in_ok-i.ensures.few;
  ahead =
      stretch_read c.feed.new.self c.go_on.new.self c.args.bytes.now _ c.loop-i.i c.in_ok-i.field-0 _ (take_rest c.args.bytes.now (c.loop-i.i + 1)) c.in_ok-i.ensures.taken
      (byte_read c.loop-i.reader c.feed.new.self c.args.bytes.now c.loop-i.i _ c.loop-i-test.true c.in_ok-feed.ensures c.loop-i.invariant.ahead);
}
