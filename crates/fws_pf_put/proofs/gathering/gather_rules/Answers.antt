use Rattle.std.proofs.Common.{ℕ, Option, List, map, refl}
use Rattle.fws_pf.specs.declared.config.PfRule.{PfRule}
use Rattle.fws_pf_print.specs.Printable.{behind_rule, behind_rules}
use Rattle.fws_pf_put.specs.Renumbered.{renamed_rule}
use Rattle.fws_pf_put.proofs.Numbering.{all_gathered, nothing_so_far, one_more}
use Rattle.fws_pf_put.proofs.gathering.gather_rules.Goals as goal

abbrev all : (ℕ → ℕ) → List PfRule → ℕ → Option ℕ
all f rules known = behind_rules (map (renamed_rule f) rules) known

abbrev each : (ℕ → ℕ) → PfRule → ℕ → Option ℕ
each f rule known = behind_rule (renamed_rule f rule) known

pub loop-rule-init : goal.loop-rule-init
loop-rule-init c = nothing_so_far c.args.tags.now.keys (λ f known. all f c.args.rules.now known)

pub loop-rule-preserved : goal.loop-rule-preserved
loop-rule-preserved c =
    one_more all each (λ f known. refl) (λ f x xs known. refl) c.args.tags.now.keys c.loop-rule.tags.keys c.gather_rule.new.tags.keys c.args.rules.now c.loop-rule.rule-index c.rule-item.result
    c.loop-rule-test.true c.rule-item.is c.loop-rule.invariant c.in_ok-gather_rule.ensures

pub returns : goal.returns
returns c =
    all_gathered all each (λ f known. refl) (λ f x xs known. refl) c.args.tags.now.keys c.loop-rule.tags.keys c.args.rules.now c.loop-rule.rule-index
    c.loop-rule-test.false c.loop-rule.invariant
