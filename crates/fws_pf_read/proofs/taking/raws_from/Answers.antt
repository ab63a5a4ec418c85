use Rattle.std.proofs.Common.{refl, arith}
use Rattle.std.proofs.lemmas.Result.{err_from_is_err_and}
use Rattle.fws_pf_read.proofs.Behind.{raws_refused, raws_step}
use Rattle.fws_pf_read.proofs.taking.raws_from.Goals as goal

pub loop-w-init : goal.loop-w-init
loop-w-init g c = record { given = refl; kept = c.requires.tagged; known = c.requires.known }

pub returns-in_err-next-clause-given : goal.returns-in_err-next-clause-given
returns-in_err-next-clause-given g c =
    let p = err_from_is_err_and c.from_residual.result c.from_residual.ensures.1 in
    rw (p.1, p.2)
    (raws_refused g.S.TakesWords.seen (g.S.TakesWords.step c.args.setting.now c.args.tags.now) g.S.TakesWords.fault c.args.macros.now c.args.words.now c.loop-w.w-index c.w-item.result (g.S.TakesWords.seen c.loop-w.next) _ _ (omega arith) c.w-item.is
    (c.in_err-next.ensures.given c.args.tags.now c.loop-w.invariant.kept c.loop-w.invariant.known) c.loop-w.invariant.given)

pub loop-w-preserved : goal.loop-w-preserved
loop-w-preserved g c = record {
  given =
      raws_step g.S.TakesWords.seen (g.S.TakesWords.step c.args.setting.now c.args.tags.now) g.S.TakesWords.fault c.args.macros.now c.args.words.now c.loop-w.w-index c.w-item.result (g.S.TakesWords.seen c.loop-w.next) (g.S.TakesWords.seen c.in_ok-next.next) _
      (omega arith) c.w-item.is (c.in_ok-next.ensures.given c.args.tags.now c.loop-w.invariant.kept c.loop-w.invariant.known) c.loop-w.invariant.given;
  kept = c.in_ok-next.ensures.kept c.args.tags.now c.loop-w.invariant.kept;
  known = c.in_ok-next.ensures.known c.loop-w.invariant.known;
}
