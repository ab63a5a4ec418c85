use Rattle.fws_exec.proofs.Alike.{never_src, never_dst}
use Rattle.fws_exec.proofs.progress.Progress.fails_lit.Goals as goal

pub returns-in-Src-clause-never : goal.returns-in-Src-clause-never
returns-in-Src-clause-never c h = never_src c.args.self.now c.args.lit.now _ _ c.in-Src.is (c.fails_at.ensures h) c.whole_end.ensures

pub returns-in-Dst-clause-never : goal.returns-in-Dst-clause-never
returns-in-Dst-clause-never c h = never_dst c.args.self.now c.args.lit.now _ _ c.in-Dst.is (c.fails_at-in-Dst.ensures h) c.whole_end-in-Dst.ensures
