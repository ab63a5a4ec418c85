use Rattle.std.proofs.Common.{◌≡◌, ◌+◌, ◌-◌, suc, true, arith, sym, ◌∙◌, rules}
use Rattle.fws_ios_print.specs.Printable.{face_count}
use Rattle.fws_ios_put.specs.Placed.{is_guarded}
use Rattle.fws_ios_put.proofs.Counting.{first_passes}
use Rattle.fws_ios_put.proofs.tracking.all_guarded.Goals as goal

pub loop-i-preserved : goal.loop-i-preserved
loop-i-preserved c =
    let site = c.args.site.now in
    let i = c.loop-i.i in
    let lt = c.loop-i-test.true in
    let size = c.len.ensures in
    let passes : c.is_guarded.result ≡ true = search (rules, c.if-not-is_guarded.false) in
    let less : face_count site - i ≡ suc (face_count site - (i + 1)) = omega arith in
    first_passes (is_guarded c.args.groups.now) (i + 1) (face_count site - i) (face_count site - (i + 1)) less (sym c.is_guarded.ensures ∙ passes) ∙ c.loop-i.invariant
