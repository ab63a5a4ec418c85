use Rattle.std.proofs.Common.{rules, arith}
use Rattle.fws_pf_words.proofs.Staying.{matched, one_taken}
use Rattle.fws_pf_words.proofs.long_value.LongValue.words_within.Goals as goal

pub loop-n-preserved : goal.loop-n-preserved
loop-n-preserved c =
    one_taken c.args.setting.now c.args.words.now c.loop-n.n c.index-words-n.result c.args.self.now c.loop-n.self c.word_within.new.self (omega arith) c.index-words-n.is c.loop-n.invariant
    (matched _ _ c.in_ok-word_within.field-0 (search rules) c.in_ok-word_within.ensures)
