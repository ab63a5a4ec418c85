use Rattle.std.proofs.Common.{refl}
use Rattle.fws_exec.proofs.Valued.{valued_sheet}
use Rattle.fws_exec.proofs.sheet.Sheet.narrowed.Goals as goal

pub returns-in_err-set-clause-sheet : goal.returns-in_err-set-clause-sheet
returns-in_err-set-clause-sheet c = valued_sheet c.args.self.now (record { canvas = c.spread.new.self; roll = c.args.self.now.roll; hulls = c.args.self.now.hulls; reached = c.args.self.now.reached }) c.spread.ensures.tops c.spread.ensures.value refl refl c.requires

pub returns-in_err-part-clause-sheet : goal.returns-in_err-part-clause-sheet
returns-in_err-part-clause-sheet c = valued_sheet c.args.self.now (record { canvas = c.spread.new.self; roll = c.args.self.now.roll; hulls = c.args.self.now.hulls; reached = c.args.self.now.reached }) c.spread.ensures.tops c.spread.ensures.value refl refl c.requires

pub returns-clause-sheet : goal.returns-clause-sheet
returns-clause-sheet c = valued_sheet c.args.self.now (record { canvas = c.spread.new.self; roll = c.args.self.now.roll; hulls = c.args.self.now.hulls; reached = c.args.self.now.reached }) c.spread.ensures.tops c.spread.ensures.value refl refl c.requires
