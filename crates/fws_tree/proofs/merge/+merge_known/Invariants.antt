use Rattle.std.proofs.Common.{◌≡◌, ◌+◌, take, true, slice_get}
use Rattle.std.specs.List.{flat_map}
use Rattle.fws_tree.specs.Building.{Extends}
use Rattle.fws_tree.specs.Held.{AreOrderedFrom}
use Rattle.fws_tree.specs.Merged.{AreKnown, CanSkip}
use Rattle.fws_tree.specs.Parts.{CanStay, own_steps, part_steps}
use Rattle.fws_tree.proofs.Merging.{AreMerged, AreKept}
use Rattle.fws_tree.proofs.merge.+merge_known.Given as goal

abbrev pub decreases-merge_known : goal.decreases-merge_known
decreases-merge_known g l = l.a + l.b

abbrev pub invariant-loop-part : goal.invariant-loop-part
invariant-loop-part g l = record {
  sound : g.M.Merging.sound l.by;
  later : g.M.Merging.later l.fn.by l.by;
  skips : CanSkip (g.M.Merging.gives l.by) l.store l.skips.masks.now l.skips.wanted;
  stays : CanStay (g.M.Merging.gives l.by) l.store l.skips.stay;
  ordered : AreOrderedFrom 0 l.store;
  early : Extends l.fn.store l.store;
  extends : Extends l.initial.store l.store;
  built : AreMerged (g.M.Merging.gives l.by) l.initial.store l.store (flat_map (part_steps (own_steps l.field (slice_get l.initial.store l.a))) (take l.part-index l.part-items)) l.steps.items;
  kept : l.same ≡ true → AreKept (g.M.Merging.gives l.by) l.initial.store (flat_map (part_steps (own_steps l.field (slice_get l.initial.store l.a))) (take l.part-index l.part-items));
  known : AreKnown (g.M.Merging.gives l.by) l.store l.memo;
}
