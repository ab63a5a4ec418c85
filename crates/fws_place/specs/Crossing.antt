-- How packets are found that have a source written elsewhere than on the way from the inside to the outside.
use Rattle.std.specs.Prelude.{◌≡◌, ℕ, Bool, true, ◌&&◌, not}
use Rattle.fws_net.specs.declared.packet.Packet.{Packet}
use Rattle.fws_net.specs.declared.site.Site.{Site}
use Rattle.fws_net.specs.Routes.{is_local, route_of}
use Rattle.fws_tree.specs.declared.tables.Tables.{Tables}
use Rattle.fws_place.specs.Clauses.{IsAcceptedWith}
use Rattle.fws_place.specs.Rewritings.{is_inside, is_outside, leaves_outside, new_exit, side_of, writes_source}

-- the packet comes from the inside
abbrev pub is_from_inside : Site → Packet → Bool
is_from_inside site p = is_inside (side_of site p.entry)

-- what arrives for the address leaves by an interface on the outside
abbrev pub is_sent_outside : Site → ℕ → Bool
is_sent_outside site a = site.forwarding && (not (is_local site a) && is_outside (side_of site (route_of site a)))

-- a source is written over a packet that doesn't come from the inside
abbrev pub IsWrittenElsewhere : Site → Tables → Packet → Type 0
IsWrittenElsewhere site tables p = (not (is_from_inside site p) ≡ true) × IsAcceptedWith tables writes_source p

-- a source is written over a packet that comes from the inside and doesn't leave to the outside
abbrev pub IsWrittenWithin : Site → Tables → Packet → Type 0
IsWrittenWithin site tables p =
    (is_from_inside site p ≡ true) × IsAcceptedWith tables (λ w. writes_source w && not (leaves_outside site (new_exit site p w))) p
