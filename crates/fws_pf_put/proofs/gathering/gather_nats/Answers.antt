use Rattle.std.proofs.Common.{ℕ, Option, List, map, refl}
use Rattle.fws_pf.specs.declared.config.PfNat.{PfNat}
use Rattle.fws_pf_print.specs.Printable.{behind_translation, behind_translations}
use Rattle.fws_pf_put.specs.Renumbered.{renamed_nat}
use Rattle.fws_pf_put.proofs.Numbering.{all_gathered, nothing_so_far, one_more}
use Rattle.fws_pf_put.proofs.gathering.gather_nats.Goals as goal

abbrev all : (ℕ → ℕ) → List PfNat → ℕ → Option ℕ
all f nats known = behind_translations (map (renamed_nat f) nats) known

abbrev each : (ℕ → ℕ) → PfNat → ℕ → Option ℕ
each f nat known = behind_translation (renamed_nat f nat) known

pub loop-nat-init : goal.loop-nat-init
loop-nat-init c = nothing_so_far c.args.tags.now.keys (λ f known. all f c.args.nats.now known)

pub loop-nat-preserved : goal.loop-nat-preserved
loop-nat-preserved c =
    one_more all each (λ f known. refl) (λ f x xs known. refl) c.args.tags.now.keys c.loop-nat.tags.keys c.gather_nat.new.tags.keys c.args.nats.now c.loop-nat.nat-index c.nat-item.result
    c.loop-nat-test.true c.nat-item.is c.loop-nat.invariant c.in_ok-gather_nat.ensures

pub returns : goal.returns
returns c =
    all_gathered all each (λ f known. refl) (λ f x xs known. refl) c.args.tags.now.keys c.loop-nat.tags.keys c.args.nats.now c.loop-nat.nat-index
    c.loop-nat-test.false c.loop-nat.invariant
