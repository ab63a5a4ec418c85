-- Which packets go from the inside to the outside, and with which sources.
use Rattle.std.specs.Prelude.{◌≡◌, ℕ, ◌<◌, ◌^◌, Bool, List, slice_index_or, Some, if◌then◌else◌, ◌||◌, ◌↔◌, true, false}
use Rattle.fws_box.specs.Sides.{IsWithin}
use Rattle.fws_box.specs.declared.field.Field.TheVariants as fields
use Rattle.fws_iv.specs.declared.iv.Iv.{Iv}
use Rattle.fws_iv.specs.Ivs.{has}
use Rattle.fws_net.specs.declared.outcome.Outcome.{Outcome}
use Rattle.fws_net.specs.declared.outcome.Outcome.TheVariants.{Drop}
use Rattle.fws_net.specs.declared.site.Site.{Site}
use Rattle.fws_net.specs.Fates.{written_addr}
use Rattle.fws_net.specs.Points.{packet_of, tops_of}
use Rattle.fws_tree.specs.declared.tables.Tables.{Tables}
use Rattle.fws_tree.specs.Plain.{Plain, value}
use Rattle.fws_place.specs.Crossing.{is_sent_outside}
use Rattle.fws_place.specs.declared.one_end.Compared.TheVariants.{HostSources}
use Rattle.fws_place.specs.OneEnd.{alone}
use Rattle.fws_place.specs.Rewritings.{goes_outside, is_accepted_with, is_inside, side_of}
use Rattle.fws_box.specs.Fields.{value_of}

-- a packet with this outcome and destination ends with an address that is sent to the outside
abbrev pub ends_outside : Site → Outcome → ℕ → Bool
ends_outside site o dst = is_accepted_with (λ w. is_sent_outside site (written_addr w.dst dst)) o

-- the set has the addresses that are sent to the outside
abbrev pub AreOutside : Site → List Iv → Type 0
AreOutside site addrs = (a : ℕ) → a < 2 ^ 32 → has addrs a ≡ is_sent_outside site a

-- the set has the entries of the interfaces on the inside
abbrev pub AreInside : Site → List Iv → Type 0
AreInside site entries = (e : ℕ) → has entries e ≡ is_inside (side_of site e)

-- a packet of the point with this outcome goes from the inside to the outside
abbrev pub goes_out : Site → Outcome → List ℕ → Bool
goes_out site o q = is_accepted_with (goes_outside site (packet_of q)) o

-- the outcome is one of the first
abbrev pub IsAmongFirst : ℕ → List Outcome → Outcome → Type 0
IsAmongFirst k outcomes o = (j : ℕ) × (j < k) × (slice_index_or outcomes j Drop ≡ o)

-- the tree has the sources of the packets that go from the inside to the outside, and drops for the others
abbrev pub HasSources : Site → Tables → Plain Outcome → Type 0
HasSources site tables t =
    (q : List ℕ) → IsWithin (tops_of site) q
    → (o : Outcome) × (value tables.fresh.1 q ≡ Some o) × (value t q ≡ Some (if goes_out site o q then alone HostSources o else Drop))

-- What trees have that are made on the way

-- where the outcome is this one and packets come by one of the entries
abbrev pub IsComingWith : List Iv → List ℕ → Plain Outcome → Outcome → Plain Bool → Type 0
IsComingWith entries tops outcomes o t = (q : List ℕ) → IsWithin tops q
    → (b : Bool) × ((b ≡ true) ↔ (value outcomes q ≡ Some o)) × (value t q ≡ (if has entries (value_of q fields.Entry) then Some b else Some false))

-- packets of the point have the outcome and go from the inside to the outside
abbrev pub IsGoing : Site → Plain Outcome → Outcome → List ℕ → Type 0
IsGoing site outcomes o q = (value outcomes q ≡ Some o) × (goes_out site o q ≡ true)

-- where that is so
abbrev pub IsGoingWith : Site → Plain Outcome → Outcome → Plain Bool → Type 0
IsGoingWith site outcomes o t = (q : List ℕ) → IsWithin (tops_of site) q → (b : Bool) × (value t q ≡ Some b) × ((b ≡ true) ↔ IsGoing site outcomes o q)

-- where the tree is true, or that is so
abbrev pub AddsGoing : Site → Plain Outcome → Outcome → Plain Bool → Plain Bool → Type 0
AddsGoing site outcomes o all t = (q : List ℕ) → IsWithin (tops_of site) q
    → (a : Bool) × (b : Bool) × (value all q ≡ Some a) × ((b ≡ true) ↔ IsGoing site outcomes o q) × (value t q ≡ Some (a || b))

-- where packets of the outcomes go from the inside to the outside
abbrev pub TellsGoing : Site → Plain Outcome → Plain Bool → Type 0
TellsGoing site outcomes t = (q : List ℕ) → IsWithin (tops_of site) q → (o : Outcome) × (value outcomes q ≡ Some o) × (value t q ≡ Some (goes_out site o q))
