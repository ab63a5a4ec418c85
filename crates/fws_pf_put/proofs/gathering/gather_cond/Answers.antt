use Rattle.std.proofs.Common.{ℕ, Option, List, refl}
use Rattle.fws_net.specs.declared.condition.Lit.{Lit}
use Rattle.fws_pf_print.specs.Printable.{behind_cond, behind_test}
use Rattle.fws_pf_put.specs.Renumbered.{renamed_cond, renamed_test}
use Rattle.fws_pf_put.proofs.Numbering.{all_gathered, nothing_so_far, one_more}
use Rattle.fws_pf_put.proofs.gathering.gather_cond.Goals as goal

abbrev all : (ℕ → ℕ) → List Lit → ℕ → Option ℕ
all f lits known = behind_cond (renamed_cond f lits) known

abbrev each : (ℕ → ℕ) → Lit → ℕ → Option ℕ
each f lit known = behind_test (renamed_test f lit.test) known

pub loop-lit-init : goal.loop-lit-init
loop-lit-init c = nothing_so_far c.args.tags.now.keys (λ f known. all f c.args.cond.now known)

pub loop-lit-preserved : goal.loop-lit-preserved
loop-lit-preserved c =
    one_more all each (λ f known. refl) (λ f x xs known. refl) c.args.tags.now.keys c.loop-lit.tags.keys c.gather_test.new.tags.keys c.args.cond.now c.loop-lit.lit-index c.lit-item.result
    c.loop-lit-test.true c.lit-item.is c.loop-lit.invariant c.in_ok-gather_test.ensures

pub returns : goal.returns
returns c =
    all_gathered all each (λ f known. refl) (λ f x xs known. refl) c.args.tags.now.keys c.loop-lit.tags.keys c.args.cond.now c.loop-lit.lit-index
    c.loop-lit-test.false c.loop-lit.invariant
