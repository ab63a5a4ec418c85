-- How many outcomes and redirects the rows of the table of new packets show.
use Rattle.std.specs.Prelude.{◌≡◌, ◌≢◌, ◌⊎◌, ℕ, ◌+◌, ◌<◌, IsTrue, Option, Some, None, List, [], ◌∷◌, ◌++◌, length, take, All, Contains, map}
use Rattle.std.specs.List.{AllPairs, Any}
use Rattle.fws_box.specs.Sides.{sides_have}
use Rattle.fws_net.specs.declared.outcome.End.{End}
use Rattle.fws_net.specs.declared.outcome.Rewrite.{Rewrite}
use Rattle.fws_net.specs.declared.outcome.Outcome.{Outcome}
use Rattle.fws_net.specs.declared.outcome.Outcome.TheVariants.{Accept}
use Rattle.fws_net.specs.declared.packet.Packet.{Packet}
use Rattle.fws_net.specs.declared.site.Site.{Site}
use Rattle.fws_tree.specs.declared.row.Row.{Row}
use Rattle.fws_tree.specs.declared.tables.Tables.{Tables}
use Rattle.fws_tree.specs.Rows.{paths_of}
use Rattle.fws_place.specs.declared.redirect.PublicEnd.{PublicEnd}
use Rattle.fws_place.specs.declared.redirect.Redirect.{Redirect}
use Rattle.fws_place.specs.Meaning.{IsPacketOf, new_of, no_ends, point_of}

-- Rows

-- the rows of the table of new packets, in their order
abbrev pub new_rows : Tables → List (Row Outcome)
new_rows tables = paths_of tables.fresh.0 tables.fresh.1

-- the packet lies in the row
abbrev pub IsIn : Row Outcome → Packet → Type 0
IsIn row p = IsTrue (sides_have row.sides (point_of p no_ends))

-- the leaves of the rows
abbrev pub leaves_of : {L : Type 0} → List (Row L) → List L
leaves_of rows = map (λ row. row.leaf) rows

-- no two of the values are equal
abbrev pub AreDifferent : {X : Type 0} → List X → Type 0
AreDifferent xs = AllPairs (λ x y. x ≢ y) xs

-- more than n different leaves stand in the rows
pub record ShowLeavesAbove {L : Type 0} (n : ℕ) (rows : List (Row L)) : Type 0 where
  pub leaves : List L
  pub many : length leaves ≡ n + 1
  pub different : AreDifferent leaves
  pub shown : All (Contains (leaves_of rows)) leaves

-- with the row at this place the rows first show more than n different leaves
pub record IsFirstAbove {L : Type 0} (n : ℕ) (rows : List (Row L)) (at : ℕ) : Type 0 where
  pub within : at < length rows
  pub before : ShowLeavesAbove n (take at rows) → ⊥
  pub here : ShowLeavesAbove n (take (at + 1) rows)

-- Redirects

-- the service that a packet was sent to, where a port is written over it
abbrev pub public_service : Option ℕ → Packet → Option (ℕ × ℕ)
public_service None p = None
public_service (Some port) p = Some (p.proto, p.dport)

-- where a packet was sent to that gets a destination: its address alone where no port is written
abbrev pub public_end : End → Packet → PublicEnd
public_end e p = record { addr = p.dst; service = public_service e.port p }

-- the destination that is written, and where the packet was sent to
abbrev pub redirect_of : End → Packet → Redirect
redirect_of e p = record { local = e; public = public_end e p }

-- a packet of the rows is accepted and shows the redirect
pub record IsShown (site : Site) (tables : Tables) (rows : List (Row Outcome)) (redirect : Redirect) : Type 0 where
  pub packet : Packet
  pub of_site : IsPacketOf site packet
  pub within : Any (λ row. IsIn row packet) rows
  pub rewriting : Rewrite
  pub accepted : new_of tables packet ≡ Accept rewriting
  pub written : rewriting.dst ≡ Some redirect.local
  pub same : redirect_of redirect.local packet ≡ redirect

-- one of the redirects has the public address 0.0.0.0
pub record ShowNowhere (site : Site) (tables : Tables) (rows : List (Row Outcome)) : Type 0 where
  pub redirect : Redirect
  pub shown : IsShown site tables rows redirect
  pub nowhere : redirect.public.addr ≡ 0

-- more than n different redirects are shown
pub record ShowRedirectsAbove (n : ℕ) (site : Site) (tables : Tables) (rows : List (Row Outcome)) : Type 0 where
  pub redirects : List Redirect
  pub many : length redirects ≡ n + 1
  pub different : AreDifferent redirects
  pub shown : All (IsShown site tables rows) redirects

-- the packets of the rows show more than 4,096 redirects; one with the public address 0.0.0.0 counts as that many by itself
abbrev pub ShowTooManyRedirects : Site → Tables → List (Row Outcome) → Type 0
ShowTooManyRedirects site tables rows = ShowNowhere site tables rows ⊎ ShowRedirectsAbove 4096 site tables rows

-- Where a limit is passed

-- the packet lies in the first row at which the rows so far pass a limit
pub record IsInFirst (Pass : List (Row Outcome) → Type 0) (tables : Tables) (p : Packet) : Type 0 where
  pub front : List (Row Outcome)
  pub row : Row Outcome
  pub back : List (Row Outcome)
  pub rows : new_rows tables ≡ front ++ row ∷ back
  pub before : Pass front → ⊥
  pub here : Pass (front ++ row ∷ [])
  pub within : IsIn row p
