use Rattle.std.proofs.Common.{◌≡◌, ℕ, ◌+◌, ◌-◌, ◌∙◌, [], ◌∷◌, ◌++◌, inl, inr, ap, arith}
use Rattle.std.specs.Cmp.{booleans_Decides}
use Rattle.std.specs.Int.{bit_at}
use Rattle.std.proofs.lemmas.Bool.{both_ways, cases_eq}
use Rattle.std.proofs.lemmas.Nat.Bits.{bit_at-lt}
use Rattle.std.proofs.lemmas.Slice.Eq.{slice_eq-Decides}
use Rattle.fws_iv.specs.Cubes.{cube_has, cubes_with}
use Rattle.fws_iv.proofs.CubeBits.{leaves_fewer}
use Rattle.fws_iv.proofs.OneCube.{alike_open, empty_high, empty_low, low_table, narrows_open, open_alike, wanted_high, wanted_low}
use Rattle.fws_iv.proofs.Tables.{added_alike, added_apart, halves}
use Rattle.fws_iv.proofs.cube_list.+put_cubes.Goals as goal

pub put_cubes-requires : goal.put_cubes-requires
put_cubes-requires t c =
    let next : c.args.bits ≡ (c.args.bits - 1) + 1 = omega arith in
    let parts = halves _ _ c.args.table.now _ _ next c.requires.size c.split_at.ensures.front c.split_at.ensures.back in
    (omega arith, (omega arith, (parts.low_size, (leaves_fewer _ _ c.args.cube (omega arith) c.requires.leaves, c.requires.sound))))

pub returns-then-eq-clause-once : goal.returns-then-eq-clause-once
returns-then-eq-clause-once t c =
    let next : c.args.bits ≡ (c.args.bits - 1) + 1 = omega arith in
    let parts = halves _ _ c.args.table.now _ _ next c.requires.size c.split_at.ensures.front c.split_at.ensures.back in
    let same : c.split_at.result.0.now ≡ c.split_at.result.1.now = (slice_eq-Decides booleans_Decides _ _ _ c.eq.ensures).0 c.if-eq.true in
    λ v. c.in_ok-put_cubes.ensures.once v ∙ ap (λ n. cubes_with v c.args.out.now.items + n) (added_alike _ _ v c.args.table.now _ _ (cube_has c.args.cube v) parts same)

pub put_cubes-requires-2 : goal.put_cubes-requires-2
put_cubes-requires-2 t c =
    let next : c.args.bits ≡ (c.args.bits - 1) + 1 = omega arith in
    let parts = halves _ _ c.args.table.now _ _ next c.requires.size c.split_at.ensures.front c.split_at.ensures.back in
    (omega arith, (omega arith, (parts.low_size, (c.half.ensures.leaves, c.requires.sound))))

pub put_cubes-requires-3 : goal.put_cubes-requires-3
put_cubes-requires-3 t c =
    let next : c.args.bits ≡ (c.args.bits - 1) + 1 = omega arith in
    let parts = halves _ _ c.args.table.now _ _ next c.requires.size c.split_at.ensures.front c.split_at.ensures.back in
    (omega arith, (omega arith, (parts.high_size, (c.half-2.ensures.leaves, c.in_ok-put_cubes-2.ensures.sound))))

pub returns-clause-once : goal.returns-clause-once
returns-clause-once t c =
    let next : c.args.bits ≡ (c.args.bits - 1) + 1 = omega arith in
    let parts = halves _ _ c.args.table.now _ _ next c.requires.size c.split_at.ensures.front c.split_at.ensures.back in
    λ v.
    let both = added_apart _ _ v c.args.table.now _ _ (cube_has c.args.cube v) _ _ parts (c.half.ensures.members v) (c.half-2.ensures.members v) in
    let low = c.in_ok-put_cubes-2.ensures.once v in
    let high = c.in_ok-put_cubes-3.ensures.once v in
    omega (arith, both, low, high)

pub returns-then-eq-clause-none : goal.returns-then-eq-clause-none
returns-then-eq-clause-none t c =
    let next : c.args.bits ≡ (c.args.bits - 1) + 1 = omega arith in
    let parts = halves _ _ c.args.table.now _ _ next c.requires.size c.split_at.ensures.front c.split_at.ensures.back in
    λ empty. c.in_ok-put_cubes.ensures.none (empty_low _ _ c.args.table.now _ _ next parts empty)

pub returns-then-eq-clause-alone : goal.returns-then-eq-clause-alone
returns-then-eq-clause-alone t c =
    let next : c.args.bits ≡ (c.args.bits - 1) + 1 = omega arith in
    let parts = halves _ _ c.args.table.now _ _ next c.requires.size c.split_at.ensures.front c.split_at.ensures.back in
    let same : c.split_at.result.0.now ≡ c.split_at.result.1.now = (slice_eq-Decides booleans_Decides _ _ _ c.eq.ensures).0 c.if-eq.true in
    λ cube within is.
    let untested = alike_open _ _ cube c.args.cube c.args.table.now _ _ next parts within c.requires.leaves is same in
    c.in_ok-put_cubes.ensures.alone cube (narrows_open _ _ cube c.args.cube next within c.requires.leaves untested)
    (low_table _ _ c.args.cube.want cube c.args.table.now _ _ next parts is)

pub returns-clause-none : goal.returns-clause-none
returns-clause-none t c =
    let next : c.args.bits ≡ (c.args.bits - 1) + 1 = omega arith in
    let parts = halves _ _ c.args.table.now _ _ next c.requires.size c.split_at.ensures.front c.split_at.ensures.back in
    λ empty. c.in_ok-put_cubes-3.ensures.none (empty_high _ _ c.args.table.now _ _ next parts empty)
    ∙ c.in_ok-put_cubes-2.ensures.none (empty_low _ _ c.args.table.now _ _ next parts empty)

pub returns-clause-alone : goal.returns-clause-alone
returns-clause-alone t c =
    let next : c.args.bits ≡ (c.args.bits - 1) + 1 = omega arith in
    let parts = halves _ _ c.args.table.now _ _ next c.requires.size c.split_at.ensures.front c.split_at.ensures.back in
    let place : ℕ = c.args.bits - 1 in
    let low = c.in_ok-put_cubes-2.ensures in
    let high = c.in_ok-put_cubes-3.ensures in
    λ cube within is. elim (cases_eq (bit_at cube.mask place) 0) [
      | inl none ↦
          let same = open_alike _ _ cube c.args.cube c.args.table.now _ _ next parts c.requires.leaves none is in
          absurd (both_ways _ c.if-eq.false ((slice_eq-Decides booleans_Decides _ _ _ c.eq.ensures).1 same))
      | inr some ↦
          let one : bit_at cube.mask place ≡ 1 = omega (arith, bit_at-lt cube.mask place) in
          elim (cases_eq (bit_at cube.want place) 0) [
            | inl first ↦
                let facts = wanted_low _ _ cube c.args.cube c.half.result c.args.table.now _ _ next parts within c.requires.leaves one first c.half.ensures.mask c.half.ensures.want is in
                high.none facts.2 ∙ low.alone cube facts.0 facts.1
            | inr other ↦
                let second : bit_at cube.want place ≡ 1 = omega (arith, bit_at-lt cube.want place) in
                let facts = wanted_high _ _ cube c.args.cube c.half-2.result c.args.table.now _ _ next parts within c.requires.leaves one second c.half-2.ensures.mask c.half-2.ensures.want is in
                high.alone cube facts.0 facts.1 ∙ ap (λ cs. cs ++ cube ∷ []) (low.none facts.2)
          ]
    ]
