use Rattle.std.proofs.Common.{◌≡◌, map, take}
use Rattle.fws_pf.specs.RuleText.{item_literals}
use Rattle.fws_pf_words.specs.Tests.{test_at}
use Rattle.fws_pf_words.proofs.choices.choice_of.Given as goal

abbrev pub invariant-loop-item : goal.invariant-loop-item
invariant-loop-item l = l.conds ≡ map (item_literals l.tables (test_at l.place)) (take l.item-index l.items)
