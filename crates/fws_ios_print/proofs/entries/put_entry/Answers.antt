use Rattle.fws_ios_print.proofs.LinesPut.{entry_put}
use Rattle.fws_ios_print.proofs.entries.put_entry.Goals as goal

pub returns : goal.returns
returns c = entry_put c.args.entry.now c.args.out.now c.put_entry_words.new.out _ c.in_ok-put_entry_words.ensures c.in_ok-put.ensures.ok
