-- The redirects that rows show, said of the rows alone.
use Rattle.std.specs.Prelude.{◌≡◌, ◌≢◌, ◌⊎◌, ℕ, ◌+◌, ◌<◌, ◌≤◌, Bool, true, false, Option, Some, None, List, [], length, take, slice_index_or, All, Any, Contains}
use Rattle.fws_iv.specs.declared.iv.Iv.{Iv}
use Rattle.fws_iv.specs.Ivs.{has}
use Rattle.fws_net.specs.declared.outcome.End.{End}
use Rattle.fws_net.specs.declared.outcome.Outcome.{Outcome}
use Rattle.fws_net.specs.declared.outcome.Outcome.TheVariants.{Drop, Accept}
use Rattle.fws_net.specs.declared.outcome.Rewrite.{Rewrite}
use Rattle.fws_net.specs.declared.packet.Packet.{Packet}
use Rattle.fws_net.specs.declared.site.Site.{Site}
use Rattle.fws_tree.specs.declared.row.Row.{Row}
use Rattle.fws_tree.specs.declared.tables.Tables.{Tables}
use Rattle.fws_place.specs.declared.redirect.Redirect.{Redirect}
use Rattle.fws_place.specs.declared.few_redirects.Collected.{Collected}
use Rattle.fws_place.specs.declared.few_redirects.Collected.TheVariants.{Few, Many}
use Rattle.fws_place.specs.Counts.{AreDifferent, IsShown, new_rows, redirect_of}
use Rattle.fws_place.specs.Gathered.{IsGathered, IsOfEnd}
use Rattle.fws_place.specs.Meaning.{IsPacketOf, new_of}

-- the destination that an outcome writes
abbrev pub destination_of : Outcome → Option End
destination_of Drop = None
destination_of (Accept w) = w.dst

-- the redirects of a destination, by the sides of a row
abbrev pub IsOfDestination : List (List Iv) → Option End → Redirect → Type 0
IsOfDestination sides None redirect = ⊥
IsOfDestination sides (Some e) redirect = IsOfEnd e (slice_index_or sides 2 []) (slice_index_or sides 1 []) (slice_index_or sides 3 []) redirect

abbrev pub IsOfRow : Row Outcome → Redirect → Type 0
IsOfRow row redirect = IsOfDestination row.sides (destination_of row.leaf) redirect

abbrev pub IsOfRows : List (Row Outcome) → Redirect → Type 0
IsOfRows rows redirect = Any (λ row. IsOfRow row redirect) rows

-- two rows have the same destination and the same sides for protocols, addresses and ports
pub record HaveSame (row other : Row Outcome) : Type 0 where
  pub destination : destination_of row.leaf ≡ destination_of other.leaf
  pub protos : slice_index_or row.sides 1 [] ≡ slice_index_or other.sides 1 []
  pub addrs : slice_index_or row.sides 2 [] ≡ slice_index_or other.sides 2 []
  pub ports : slice_index_or row.sides 3 [] ≡ slice_index_or other.sides 3 []

-- the row has a protocol and a port
pub record IsServed (row : Row Outcome) : Type 0 where
  pub proto : ℕ
  pub proto_there : has (slice_index_or row.sides 1 []) proto ≡ true
  pub proto_low : proto ≤ 255
  pub port : ℕ
  pub port_there : has (slice_index_or row.sides 3 []) port ≡ true
  pub port_low : port ≤ 65535

-- one of the redirects has the public address 0.0.0.0
abbrev pub HasNowhere : (Redirect → Type 0) → Type 0
HasNowhere Of = (redirect : Redirect) × Of redirect × (redirect.public.addr ≡ 0)

-- a row's redirects were put behind others and there are few, or there are too many
pub record IsFewWith (row : Row Outcome) (old new : List Redirect) : Type 0 where
  pub gathered : IsGathered (λ r. IsOfRow row r) old new
  pub few : length new ≤ 4096
  pub somewhere : HasNowhere (λ r. IsOfRow row r) → ⊥

abbrev pub IsManyWith : Row Outcome → List Redirect → List Redirect → Type 0
IsManyWith row old new = HasNowhere (λ r. IsOfRow row r) ⊎ (IsGathered (λ r. IsOfRow row r) old new × (4096 < length new))

abbrev pub IsPassed : Row Outcome → List Redirect → List Redirect → Bool → Type 0
IsPassed row old new true = IsManyWith row old new
IsPassed row old new false = IsFewWith row old new

-- all redirects of the rows, each once, and they are few
pub record AreAllOf (rows : List (Row Outcome)) (keys : List Redirect) : Type 0 where
  pub different : AreDifferent keys
  pub shown : All (λ r. IsOfRows rows r) keys
  pub covered : (r : Redirect) → IsOfRows rows r → Contains keys r
  pub few : length keys ≤ 4096
  pub somewhere : HasNowhere (λ r. IsOfRows rows r) → ⊥

-- the rows have too many redirects
pub record HaveMany (rows : List (Row Outcome)) : Type 0 where
  pub redirects : List Redirect
  pub many : 4096 < length redirects
  pub different : AreDifferent redirects
  pub shown : All (λ r. IsOfRows rows r) redirects

-- with the row at this place the rows first have too many redirects
pub record IsFirstMany (rows : List (Row Outcome)) (at : ℕ) : Type 0 where
  pub within : at < length rows
  pub keys : List Redirect
  pub before : AreAllOf (take at rows) keys
  pub here : HasNowhere (λ r. IsOfRows (take (at + 1) rows) r) ⊎ HaveMany (take (at + 1) rows)

-- what was gathered from rows
abbrev pub AreGathered : List (Row Outcome) → Collected → Type 0
AreGathered rows (Few met) = AreAllOf rows met.keys
AreGathered rows (Many at) = IsFirstMany rows at

-- all redirects that accepted new packets show, each once, and they are few
pub record AreRedirects (site : Site) (tables : Tables) (rs : List Redirect) : Type 0 where
  pub shown : (p : Packet) (w : Rewrite) (e : End) → IsPacketOf site p → new_of tables p ≡ Accept w → w.dst ≡ Some e → Contains rs (redirect_of e p)
  pub sound : All (IsShown site tables (new_rows tables)) rs
  pub few : length rs ≤ 4096
  pub somewhere : All (λ redirect. redirect.public.addr ≢ 0) rs
  pub different : AreDifferent rs

-- all redirects that accepted new packets of the site show are among these
abbrev pub HaveAllShown : Site → Tables → List Redirect → Type 0
HaveAllShown site tables rs =
    (p : Packet) (w : Rewrite) (e : End) → IsPacketOf site p → new_of tables p ≡ Accept w → w.dst ≡ Some e → Contains rs (redirect_of e p)
