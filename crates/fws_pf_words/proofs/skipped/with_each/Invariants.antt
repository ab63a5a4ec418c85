use Rattle.std.proofs.Common.{◌≡◌, drop}
use Rattle.fws_pf.specs.FileText.{with_skipped}
use Rattle.fws_pf_words.proofs.skipped.with_each.Given as goal

abbrev pub invariant-loop-item : goal.invariant-loop-item
invariant-loop-item l = with_skipped l.last l.set (drop l.item-index l.items) ≡ with_skipped l.last l.skip l.items
