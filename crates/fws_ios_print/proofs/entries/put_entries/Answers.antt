use Rattle.fws_ios_print.specs.PrintedText.{entry_words, inner_line}
use Rattle.fws_ios_print.proofs.LinesPut.{items_put}
use Rattle.fws_ios_print.proofs.entries.put_entries.Goals as goal

pub loop-entry-preserved : goal.loop-entry-preserved
loop-entry-preserved c =
    items_put (λ entry. inner_line (entry_words entry)) c.args.entries.now c.loop-entry.entry-index c.entry-item.result c.loop-entry.out c.put_entry.new.out _ c.loop-entry-test.true c.entry-item.is
    c.in_ok-put_entry.ensures c.loop-entry.invariant
