-- How redirects are gathered: from the values of sides, one after another.
use Rattle.std.specs.Prelude.{◌≡◌, ◌⊎◌, ℕ, ◌-◌, ◌^◌, ◌<◌, ◌≤◌, true, false, Option, Some, None, List, length, Contains}
use Rattle.fws_iv.specs.declared.iv.Iv.{Iv}
use Rattle.fws_iv.specs.Ivs.{has}
use Rattle.fws_net.specs.declared.outcome.End.{End}
use Rattle.fws_place.specs.declared.redirect.Redirect.{Redirect}
use Rattle.fws_place.specs.Counts.{AreDifferent}

-- Values of a side

-- the side has no value from one number up to another
abbrev pub HasNone : List Iv → ℕ → ℕ → Type 0
HasNone side from top = (x : ℕ) → from ≤ x → x ≤ top → has side x ≡ false

-- the least value of the side from one number up to another
pub record IsNext (side : List Iv) (from top x : ℕ) : Type 0 where
  pub begun : from ≤ x
  pub within : x ≤ top
  pub there : has side x ≡ true
  pub first : (y : ℕ) → from ≤ y → y < x → has side y ≡ false

-- Redirects of values

-- the redirect is one of a value of the side that is no greater than the top
abbrev pub IsOfSide : List Iv → ℕ → (ℕ → Redirect → Type 0) → Redirect → Type 0
IsOfSide side top Of redirect = (x : ℕ) × (has side x ≡ true) × (x ≤ top) × Of x redirect

-- and the value is below a number
abbrev pub IsOfSideBelow : ℕ → List Iv → ℕ → (ℕ → Redirect → Type 0) → Redirect → Type 0
IsOfSideBelow from side top Of redirect = (x : ℕ) × (x < from) × (has side x ≡ true) × (x ≤ top) × Of x redirect

-- redirects to an end, of packets that were sent to an address
abbrev pub plain_redirect : End → ℕ → Redirect
plain_redirect e addr = record { local = e; public = record { addr = addr; service = None } }

-- and of those that were sent to a port of an address
abbrev pub served_redirect : End → ℕ → ℕ → ℕ → Redirect
served_redirect e addr proto port = record { local = e; public = record { addr = addr; service = Some (proto, port) } }

abbrev pub IsOfPort : End → List Iv → ℕ → ℕ → Redirect → Type 0
IsOfPort e ports addr proto redirect = IsOfSide ports 65535 (λ port r. r ≡ served_redirect e addr proto port) redirect

abbrev pub IsOfService : End → List Iv → List Iv → ℕ → Redirect → Type 0
IsOfService e protos ports addr redirect = IsOfSide protos 255 (λ proto r. IsOfPort e ports addr proto r) redirect

-- the redirects of an address: one where no port is written, else one for each protocol and port
abbrev pub IsOfAddress : Option ℕ → End → List Iv → List Iv → ℕ → Redirect → Type 0
IsOfAddress None e protos ports addr redirect = redirect ≡ plain_redirect e addr
IsOfAddress (Some port) e protos ports addr redirect = IsOfService e protos ports addr redirect

-- the redirects of an end, by the sides of packets that get it
abbrev pub IsOfEnd : End → List Iv → List Iv → List Iv → Redirect → Type 0
IsOfEnd e addrs protos ports redirect = IsOfSide addrs (2 ^ 32 - 1) (λ addr r. IsOfAddress e.port e protos ports addr r) redirect

-- Gathering

-- redirects of a kind were put behind others, each that wasn't there: all of them, unless there are more than 4,096 in all
pub record IsGathered (Of : Redirect → Type 0) (old new : List Redirect) : Type 0 where
  pub different : AreDifferent old → AreDifferent new
  pub longer : length old ≤ length new
  pub kept : (r : Redirect) → Contains old r → Contains new r
  pub within : (r : Redirect) → Contains new r → Contains old r ⊎ Of r
  pub covered : length new ≤ 4096 → (r : Redirect) → Of r → Contains new r
