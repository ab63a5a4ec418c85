use Rattle.std.proofs.Common.{◌≡◌, ◌<◌, ℕ, ◌/◌, ◌%◌, [], ◌∷◌, ◌++◌, ◌∙◌, ◌+◌, Bool, true, false, bit_and, nat_eq, slice_index_or, ap, arith}
use Rattle.std.specs.Int.Bits.{and_zero_r}
use Rattle.std.proofs.lemmas.Bool.{eq-eqb}
use Rattle.std.proofs.lemmas.Nat.{and_le_r}
use Rattle.fws_iv.specs.Ivs.{has}
use Rattle.fws_iv.specs.Cubes.{cube_has, cubes_with}
use Rattle.fws_iv.proofs.Tables.{added}
use Rattle.fws_iv.proofs.cube_list.cubes.Goals as goal

-- nothing and what the whole table adds
from_none : (old now : ℕ) (held there member : Bool) → now ≡ old + added held there → old ≡ 0 → held ≡ true → there ≡ member → now ≡ added true member
from_none old now held there member step none all same =
    step ∙ ap (λ n. n + added held there) none ∙ ap (λ b. 0 + added b there) all ∙ ap (λ b. 0 + added true b) same ∙ omega arith

pub returns-clause-once : goal.returns-clause-once
returns-clause-once c = λ v low.
    let same : v % 64 ≡ v = omega arith in
    let there : slice_index_or c.as_slice.result.now (v % 64) false ≡ has c.args.set.now v =
    ap (λ s. slice_index_or s (v % 64) false) c.as_slice.ensures.value
    ∙ ap (λ n. slice_index_or c.in_ok-table.table.items n false) same ∙ c.in_ok-table.ensures.members v low in
    from_none (cubes_with v c.new-out.result.items) _ (nat_eq (bit_and v 0) 0) _ (has c.args.set.now v)
    (c.in_ok-put_cubes.ensures.once v) (ap (cubes_with v) c.new-out.ensures.items) (eq-eqb _ _ (and_zero_r v)) there

pub returns-clause-alone : goal.returns-clause-alone
returns-clause-alone c = λ cube is same.
    let mask : cube.mask / 64 ≡ 0 = omega (arith, is.below) in
    let want : cube.want / 64 ≡ 0 = omega (arith, is.below, is.within, and_le_r cube.want cube.mask) in
    let table : (s : ℕ) → s < 64 → slice_index_or c.as_slice.result.now s false ≡ cube_has cube (0 + s) = λ s small.
    let plain : s ≡ 0 + s = omega arith in
    ap (λ t. slice_index_or t s false) c.as_slice.ensures.value ∙ c.in_ok-table.ensures.members s small ∙ same s small ∙ ap (cube_has cube) plain in
    c.in_ok-put_cubes.ensures.alone cube (record { is = is; mask = mask; want = want }) table ∙ ap (λ cs. cs ++ cube ∷ []) c.new-out.ensures.items
