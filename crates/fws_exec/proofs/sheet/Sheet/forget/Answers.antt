use Rattle.std.proofs.Common.{refl, ap}
use Rattle.fws_exec.proofs.Passed.{same_sheet, same_futures}
use Rattle.fws_exec.proofs.sheet.Sheet.forget.Goals as goal

pub returns-clause-sheet : goal.returns-clause-sheet
returns-clause-sheet c = same_sheet c.args.self.now (record { canvas = c.args.self.now.canvas; roll = c.wait_none.new.self; hulls = c.args.self.now.hulls; reached = c.args.self.now.reached }) refl refl (ap (λ v. v.items) c.wait_none.ensures) c.requires

pub returns-clause-kept : goal.returns-clause-kept
returns-clause-kept c = same_futures c.args.self.now (record { canvas = c.args.self.now.canvas; roll = c.wait_none.new.self; hulls = c.args.self.now.hulls; reached = c.args.self.now.reached }) refl (ap (λ v. v.items) c.wait_none.ensures)
