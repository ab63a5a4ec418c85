use Rattle.std.proofs.Common.{◌≡◌, true, length, slice_get, refl, sym, ap, subst, ◌∙◌}
use Rattle.fws_flat.specs.Soundness.{flat_ok}
use Rattle.fws_exec.specs.Reaching.{IsReached, IsUnreached}
use Rattle.fws_exec.proofs.Meaning.{same_flat}
use Rattle.fws_exec.proofs.reaching.reach_code.Goals as goal

pub reached-requires-clause-ok : goal.reached-requires-clause-ok
reached-requires-clause-ok c =
    subst (λ f. flat_ok f ≡ true) (sym (same_flat (record c.args.f.now { code = c.args.code.now }) c.args.code.now c.as_slice.result.now c.as_slice-2.result.now c.as_slice-3.result.now c.as_slice-4.result.now refl c.as_slice.ensures c.as_slice-2.ensures c.as_slice-3.ensures c.as_slice-4.ensures)) c.requires.ok

pub returns : goal.returns
returns c =
    let same = same_flat (record c.args.f.now { code = c.args.code.now }) c.args.code.now c.as_slice.result.now c.as_slice-2.result.now c.as_slice-3.result.now c.as_slice-4.result.now refl c.as_slice.ensures c.as_slice-2.ensures c.as_slice-3.ensures c.as_slice-4.ensures in
    let is : c.replace-reached.result.items ≡ c.in_ok-sheet.sheet.reached.items = ap (λ v. v.items) c.replace-reached.ensures.value in
    record {
      count = ap length is ∙ c.in_ok-sheet.ensures.count;
      reached = λ n got. subst (λ f. IsReached f c.args.site.now c.args.state n) same (c.in_ok-sheet.ensures.reached n (ap (λ xs. slice_get xs n) (sym is) ∙ got));
      unreached = λ n got. subst (λ f. IsUnreached f c.args.site.now c.args.state n) same (c.in_ok-sheet.ensures.unreached n (ap (λ xs. slice_get xs n) (sym is) ∙ got));
    }
