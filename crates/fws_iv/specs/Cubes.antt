-- Sets of numbers below 64 as cubes: the numbers of which some bits are known.
use Rattle.std.specs.Prelude.{◌≡◌, ℕ, ◌+◌, ◌/◌, ◌%◌, ◌^◌, ◌<◌, Bool, false, nat_eq, bit_and, slice_index_or, List}
use Rattle.std.specs.List.{count_by}
use Rattle.fws_iv.specs.declared.cube.Cube.{Cube}

-- the cube has the number: the bits that it tests are those that it wants
abbrev pub cube_has : Cube → ℕ → Bool
cube_has c v = nat_eq (bit_and v c.mask) c.want

-- how many of the cubes have the number
abbrev pub cubes_with : ℕ → List Cube → ℕ
cubes_with v cs = count_by (λ c. cube_has c v) cs

-- a cube tests some of six bits, and wants none that it doesn't test
pub record IsCube (c : Cube) : Type 0 where
  pub below : c.mask < 64
  pub within : bit_and c.want c.mask ≡ c.want

-- a cube that tests none of the lowest n bits
pub record LeavesOpen (n : ℕ) (c : Cube) : Type 0 where
  pub is : IsCube c
  pub mask : c.mask % 2 ^ n ≡ 0
  pub want : c.want % 2 ^ n ≡ 0

-- a cube is the other one but for the lowest n bits
pub record Narrows (n : ℕ) (c d : Cube) : Type 0 where
  pub is : IsCube c
  pub mask : c.mask / 2 ^ n ≡ d.mask / 2 ^ n
  pub want : c.want / 2 ^ n ≡ d.want / 2 ^ n

-- none of 2 ^ n truth values is true
abbrev pub IsEmptyTable : ℕ → List Bool → Type 0
IsEmptyTable n table = (s : ℕ) → s < 2 ^ n → slice_index_or table s false ≡ false

-- 2 ^ n truth values say which numbers from the first on the cube has
abbrev pub IsTableOf : ℕ → Cube → ℕ → List Bool → Type 0
IsTableOf n c first table = (s : ℕ) → s < 2 ^ n → slice_index_or table s false ≡ cube_has c (first + s)
