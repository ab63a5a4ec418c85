use Rattle.std.proofs.Common.{nat_lt, sym, ap, ◌∙◌}
use Rattle.fws_pf.specs.Drawn.{expanded_with}
use Rattle.fws_pf_read.specs.Views.{draft_of}
use Rattle.fws_pf_read.proofs.Counts.{choices_counted}
use Rattle.fws_pf_read.proofs.checks.is_expanded.Goals as goal

pub returns : goal.returns
returns c =
    λ tables.
    c.exceeds_limit.ensures ∙ ap (λ n. nat_lt 200000 (expanded_with c.args.expanded n)) (sym (choices_counted tables (draft_of c.args.d.now)))
