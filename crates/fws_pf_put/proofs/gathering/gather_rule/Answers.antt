use Rattle.std.proofs.Common.{List, option_map, subst}
use Rattle.fws_net.specs.declared.condition.Lit.{Lit}
use Rattle.fws_pf_print.specs.Printable.{behind_cond, behind_put}
use Rattle.fws_pf_put.specs.Renumbered.{Gathers, renamed_cond}
use Rattle.fws_pf_put.proofs.Numbering.{both_gathered}
use Rattle.fws_pf_put.proofs.gathering.gather_rule.Goals as goal

pub returns : goal.returns
returns c =
    let rule = c.args.rule.now in
    both_gathered c.args.tags.now.keys c.gather_cond.new.tags.keys c.gather_put.new.tags.keys
    (λ f known. behind_cond (renamed_cond f rule.cond) known) (λ f known. behind_put (option_map f rule.tag) known)
    (subst (λ (lits : List Lit). Gathers c.args.tags.now.keys c.gather_cond.new.tags.keys (λ f known. behind_cond (renamed_cond f lits) known))
    c.lits.ensures c.in_ok-gather_cond.ensures)
    c.in_ok-gather_put.ensures
