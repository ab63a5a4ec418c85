use Rattle.std.proofs.Common.{◌≡◌, ◌<◌, ℕ, ◌+◌, ◌%◌, ◌^◌, ◌&&◌, ◌∙◌, Bool, true, false, nat_eq, bit_or, if◌then◌else◌, ap, sym, arith}
use Rattle.fws_iv.specs.declared.cube.Cube.{Cube}
use Rattle.fws_iv.specs.Cubes.{LeavesOpen}
use Rattle.fws_iv.proofs.CubeBits.{half_of, or_more, HalfOf}
use Rattle.fws_iv.proofs.cube.Cube.half.Goals as goal

-- one bit more, where its weight is computed
joined : (m k bit : ℕ) → m % 2 ^ (k + 1) ≡ 0 → bit ≡ 2 ^ k → bit_or m bit ≡ m + 2 ^ k
joined m k bit clear e = ap (λ n. bit_or m n) e ∙ or_more m k clear

-- the half that is wanted, and the other
first_half : (k bit : ℕ) (c : Cube) → k < 6 → LeavesOpen (k + 1) c → bit ≡ 2 ^ k → HalfOf k 1 c (record { mask = bit_or c.mask bit; want = bit_or c.want bit })
first_half k bit c low is e = half_of k 1 c _ low (omega arith) is (joined c.mask k bit is.mask e) (joined c.want k bit is.want e ∙ omega arith)

second_half : (k bit : ℕ) (c : Cube) → k < 6 → LeavesOpen (k + 1) c → bit ≡ 2 ^ k → HalfOf k 0 c (record { mask = bit_or c.mask bit; want = c.want })
second_half k bit c low is e = half_of k 0 c _ low (omega arith) is (joined c.mask k bit is.mask e) (omega arith)

-- a test for a bit, where it is known what is wanted
asked : (first : Bool) (bit : ℕ) (wanted t : Bool) → wanted ≡ t → (first && nat_eq bit (if t then 1 else 0)) ≡ (first && nat_eq bit (if wanted then 1 else 0))
asked first bit wanted t e = ap (λ b. first && nat_eq bit (if b then 1 else 0)) (sym e)

pub returns-then-wanted-clause-leaves : goal.returns-then-wanted-clause-leaves
returns-then-wanted-clause-leaves c = (first_half _ _ _ c.requires.low c.requires.leaves c.pow-bit.ensures).is_open

pub returns-then-wanted-clause-members : goal.returns-then-wanted-clause-members
returns-then-wanted-clause-members c = λ v.
    (first_half _ _ _ c.requires.low c.requires.leaves c.pow-bit.ensures).members v ∙ asked _ _ c.args.wanted true c.if-wanted.true

pub returns-then-wanted-clause-mask : goal.returns-then-wanted-clause-mask
returns-then-wanted-clause-mask c = joined _ _ _ c.requires.leaves.mask c.pow-bit.ensures

pub returns-then-wanted-clause-want : goal.returns-then-wanted-clause-want
returns-then-wanted-clause-want c =
    joined _ _ _ c.requires.leaves.want c.pow-bit.ensures ∙ ap (λ b. c.args.self.want + (if b then 2 ^ c.args.place else 0)) (sym c.if-wanted.true)

pub returns-else-wanted-clause-leaves : goal.returns-else-wanted-clause-leaves
returns-else-wanted-clause-leaves c = (second_half _ _ _ c.requires.low c.requires.leaves c.pow-bit.ensures).is_open

pub returns-else-wanted-clause-members : goal.returns-else-wanted-clause-members
returns-else-wanted-clause-members c = λ v.
    (second_half _ _ _ c.requires.low c.requires.leaves c.pow-bit.ensures).members v ∙ asked _ _ c.args.wanted false c.if-wanted.false

pub returns-else-wanted-clause-mask : goal.returns-else-wanted-clause-mask
returns-else-wanted-clause-mask c = joined _ _ _ c.requires.leaves.mask c.pow-bit.ensures
