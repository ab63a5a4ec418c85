use Rattle.std.proofs.Common.{◌≡◌, ◌++◌, drop}
use Rattle.fws_pf_words.specs.Reached.{AreRegularAt, own_ranges}
use Rattle.fws_pf_words.proofs.tables.own_ranges.Given as goal

abbrev pub invariant-loop-place : goal.invariant-loop-place
invariant-loop-place l = record {
  ranges : l.ranges.items ++ own_ranges l.tables (drop l.place-index l.places) ≡ own_ranges l.tables l.places;
  regular : AreRegularAt l.tables (drop l.place-index l.places) → AreRegularAt l.tables l.places;
}
