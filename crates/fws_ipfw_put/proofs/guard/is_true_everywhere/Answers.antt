use Rattle.std.proofs.Common.{ap, ◌∙◌}
use Rattle.fws_tree.specs.Plain.{value}
use Rattle.fws_ipfw_put.proofs.Listed.{leaf_value}
use Rattle.fws_ipfw_put.proofs.guard.is_true_everywhere.Goals as goal

pub returns : goal.returns
returns c = λ yes x.
    ap (λ t. value t x) (c.shared-shared.ensures.last ∙ c.is_true_root.ensures yes) ∙ leaf_value 0 _ x
