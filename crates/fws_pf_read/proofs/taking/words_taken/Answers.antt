use Rattle.fws_pf_read.proofs.Judged.{passed_over}
use Rattle.fws_pf_read.proofs.taking.words_taken.Goals as goal

pub returns-then-passes_over-clause-given : goal.returns-then-passes_over-clause-given
returns-then-passes_over-clause-given g c = λ t tags.
    let over = c.passes_over.ensures c.if-passes_over.true in
    passed_over (g.S.TakesWords.step c.args.setting.now t) g.S.TakesWords.fault c.args.words.now c.loop-w.w-index (g.S.TakesWords.seen c.loop-w.next) _ (c.requires.judged over.0)
    (λ w. over.1 c.args.setting.now t w) (c.loop-w.invariant t tags).0

pub returns-then-passes_over-clause-kept : goal.returns-then-passes_over-clause-kept
returns-then-passes_over-clause-kept g c = λ t tags. (c.loop-w.invariant t tags).1
