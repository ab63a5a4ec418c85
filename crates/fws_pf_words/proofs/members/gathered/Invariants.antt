use Rattle.std.proofs.Common.{◌≡◌, ◌++◌, drop}
use Rattle.std.specs.List.{list_all}
use Rattle.fws_pf_words.specs.Members.{all_ranges, is_ranged, item_ranges}
use Rattle.fws_pf_words.proofs.members.gathered.Given as goal

abbrev pub invariant-loop-item : goal.invariant-loop-item
invariant-loop-item l = record {
  ranges : l.ranges.items ++ all_ranges item_ranges (drop l.item-index l.items) ≡ all_ranges item_ranges l.items;
  ranged : list_all is_ranged (drop l.item-index l.items) ≡ list_all is_ranged l.items;
}
