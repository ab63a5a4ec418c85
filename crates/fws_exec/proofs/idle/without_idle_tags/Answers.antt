use Rattle.std.proofs.Common.{nat_eq, sym, ◌∙◌}
use Rattle.std.specs.HashSet.{contains}
use Rattle.fws_exec.proofs.Untested.{same_means, same_uses, same_flat_ok, code_kept, by_code}
use Rattle.fws_exec.proofs.idle.without_idle_tags.Goals as goal

pub returns-clause-ok : goal.returns-clause-ok
returns-clause-ok c =
    same_flat_ok c.args.f.now c.as_slice-code.result.now c.in_ok-all-in-Some.all (contains nat_eq c.in_ok-tested.tested) c.in-Some.mark c.as_slice-code.ensures c.in_ok-all-in-Some.ensures

pub returns-clause-means : goal.returns-clause-means
returns-clause-means c =
    same_means c.args.f.now c.as_slice-code.result.now c.in_ok-all-in-Some.all (contains nat_eq c.in_ok-tested.tested) c.in-Some.mark c.as_slice-code.ensures c.in_ok-tested.ensures c.in-Some.ensures c.in_ok-all-in-Some.ensures

pub returns-clause-uses : goal.returns-clause-uses
returns-clause-uses c =
    same_uses c.args.f.now c.as_slice-code.result.now c.in_ok-all-in-Some.all (contains nat_eq c.in_ok-tested.tested) c.in-Some.mark c.as_slice-code.ensures c.in_ok-tested.ensures c.in-Some.ensures c.in_ok-all-in-Some.ensures

pub returns-in-None-clause-idle : goal.returns-in-None-clause-idle
returns-in-None-clause-idle c = (
  0,
  sym c.as_slice-code.ensures ∙ by_code c.args.f.now.code c.as_slice-code.result.now c.as_slice-code.result.now (contains nat_eq c.in_ok-tested.tested) 0 c.as_slice-code.ensures c.in_ok-tested.ensures
      (code_kept (contains nat_eq c.in_ok-tested.tested) 0 c.as_slice-code.result.now c.in-None.ensures),
)

pub returns-then-are_kept-clause-idle : goal.returns-then-are_kept-clause-idle
returns-then-are_kept-clause-idle c = (
  c.in-Some.mark,
  sym c.as_slice-code.ensures ∙ by_code c.args.f.now.code c.as_slice-code.result.now c.as_slice-code.result.now (contains nat_eq c.in_ok-tested.tested) c.in-Some.mark c.as_slice-code.ensures c.in_ok-tested.ensures
      (c.are_kept.ensures c.if-are_kept.true),
)

pub returns-clause-idle : goal.returns-clause-idle
returns-clause-idle c =
    (c.in-Some.mark, by_code c.args.f.now.code c.as_slice-code.result.now c.in_ok-all-in-Some.all (contains nat_eq c.in_ok-tested.tested) c.in-Some.mark c.as_slice-code.ensures c.in_ok-tested.ensures c.in_ok-all-in-Some.ensures)
