use Rattle.std.proofs.Common.{rules, ap, ◌∙◌}
use Rattle.std.proofs.lemmas.Fn.{always_returns_same}
use Rattle.fws_ipfw.specs.FileText.{by_number}
use Rattle.fws_ipfw_read.proofs.Ordered.{number_of, sorted_is}
use Rattle.fws_ipfw_read.proofs.progress.by_number.Goals as goal

pub returns : goal.returns
returns c =
    c.from_vec.ensures
    ∙ sorted_is _ _ (c.in_ok-sort_by_key.ensures.sorted number_of (always_returns_same _ _ _ (λ a r f q. search rules))) (c.in_ok-sort_by_key.ensures.stable number_of (always_returns_same _ _ _ (λ a r f q. search rules)))
    ∙ ap by_number c.into_vec-rules.ensures
