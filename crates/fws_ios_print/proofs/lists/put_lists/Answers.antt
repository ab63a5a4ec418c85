use Rattle.std.proofs.Common.{◌∷◌}
use Rattle.fws_num.specs.Written.{spaced}
use Rattle.fws_ios_print.specs.PrintedText.{entry_lines, list_words}
use Rattle.fws_ios_print.proofs.LinesPut.{pieces_put}
use Rattle.fws_ios_print.proofs.lists.put_lists.Goals as goal

pub loop-list-preserved : goal.loop-list-preserved
loop-list-preserved c =
    pieces_put (λ l. spaced (list_words l.name) ∷ entry_lines l.entries) c.args.lists.now c.loop-list.list-index c.list-item.result c.loop-list.out c.put_list.new.out _ c.loop-list-test.true c.list-item.is
    c.in_ok-put_list.ensures c.loop-list.invariant
