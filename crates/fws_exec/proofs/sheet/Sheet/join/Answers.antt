use Rattle.std.proofs.Common.{subst, refl}
use Rattle.fws_exec.specs.Joined.{is_joined, AreReleased}
use Rattle.fws_exec.specs.declared.roll.Roll.{Roll}
use Rattle.fws_exec.specs.Sheets.{class_at}
use Rattle.fws_exec.proofs.Hulled.{grown_sheet}
use Rattle.fws_exec.proofs.Merging.{released_kept, released_sheet, released_spots}
use Rattle.fws_exec.proofs.sheet.Sheet.join.Goals as goal

pub join_all-requires-clause-sheet : goal.join_all-requires-clause-sheet
join_all-requires-clause-sheet c = grown_sheet c.args.self.now (record { canvas = c.args.self.now.canvas; roll = c.args.self.now.roll; hulls = c.take_in.new.hulls; reached = c.args.self.now.reached }) refl refl c.in_ok-take_in.ensures.grown c.requires

pub join_all-requires-clause-taken : goal.join_all-requires-clause-taken
join_all-requires-clause-taken c p w = c.in_ok-take_in.ensures.taken (class_at c.args.self.now p) p (c.requires.hulled p w)

pub returns-clause-sheet : goal.returns-clause-sheet
returns-clause-sheet c = released_sheet (is_joined c.args.twins.now c.args.joined.now) c.join_all.new.self (record { canvas = c.join_all.new.self.canvas; roll = c.release_all.new.self; hulls = c.forget.new.hulls; reached = c.join_all.new.self.reached }) refl c.in_ok-join_all.ensures.free c.forget.ensures c.in_ok-release_all.ensures.released c.in_ok-join_all.ensures.sheet

pub returns-clause-kept : goal.returns-clause-kept
returns-clause-kept c = released_kept (is_joined c.args.twins.now c.args.joined.now) c.args.self.now c.join_all.new.self (record { canvas = c.join_all.new.self.canvas; roll = c.release_all.new.self; hulls = c.forget.new.hulls; reached = c.join_all.new.self.reached }) refl c.join_all.ensures.tops c.in_ok-join_all.ensures.free c.in_ok-release_all.ensures.released c.in_ok-join_all.ensures.kept

pub returns-clause-spots : goal.returns-clause-spots
returns-clause-spots c test out = released_spots (is_joined c.args.twins.now c.args.joined.now) test c.args.self.now.roll.classes.items c.release_all.new.self.classes.items out
    (subst (λ (r : Roll). AreReleased (is_joined c.args.twins.now c.args.joined.now) r.classes.items c.release_all.new.self.classes.items) c.join_all.ensures.roll c.in_ok-release_all.ensures.released)
