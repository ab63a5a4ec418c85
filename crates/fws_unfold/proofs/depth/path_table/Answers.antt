use Rattle.std.proofs.Common.{◌≡◌, suc, ◌+◌, arith, sym, ◌∙◌, ap}
use Rattle.fws_ifcl.specs.Refusals.{begins_path}
use Rattle.fws_unfold.specs.Levels.{flag_at}
use Rattle.fws_unfold.proofs.Levels.{path_behind, paths_begin}
use Rattle.fws_unfold.proofs.depth.path_table.Goals as goal

pub loop-n-init : goal.loop-n-init
loop-n-init c =
    let calls = c.args.calls.now in
    λ n. ap (λ v. flag_at v n) c.in_ok-level.ensures ∙ paths_begin calls.chains.now calls.shapes.now n c.requires.calls

pub loop-n-preserved : goal.loop-n-preserved
loop-n-preserved c =
    let calls = c.args.calls.now in
    let next : c.loop-n._n + 1 ≡ suc c.loop-n._n = omega arith in
    λ n. ap (λ v. flag_at v n) c.in_ok-level-2.ensures
    ∙ path_behind calls.chains.now calls.shapes.now c.loop-n._n c.as_slice.result.now c.requires.calls (λ m. ap (λ v. flag_at v m) c.as_slice.ensures.value ∙ c.loop-n.invariant m) n
    ∙ ap (λ m. begins_path calls.chains.now m n) (sym next)

pub returns : goal.returns
returns c =
    let end : c.loop-n._n ≡ c.args.steps = omega arith in
    λ n. c.loop-n.invariant n ∙ ap (λ m. begins_path c.args.calls.now.chains.now m n) end
