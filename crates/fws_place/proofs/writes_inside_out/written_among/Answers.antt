use Rattle.std.proofs.Common.{◌≡◌, ℕ, ◌+◌, None, Some, List, refl, sym, subst, ap, length, get_or, All}
use Rattle.std.proofs.lemmas.Option.{MatchOption-at_none, MatchOption-at_some}
use Rattle.fws_net.specs.declared.outcome.Outcome.{Outcome}
use Rattle.fws_net.specs.declared.packet.Packet.{Packet}
use Rattle.fws_net.specs.Points.{packet_of}
use Rattle.fws_tree.specs.declared.row.Row.{Row}
use Rattle.fws_tree.specs.Rows.{paths_of}
use Rattle.fws_place.specs.Asked.{IsSoughtPacket}
use Rattle.fws_place.specs.Crossing.{IsWrittenWithin}
use Rattle.fws_place.specs.Delivered.{IsDeliveredIn, NoneDelivered}
use Rattle.fws_place.specs.Rewritings.{is_inside, side_of}
use Rattle.fws_place.proofs.Crossings.{found_within, none_within}
use Rattle.fws_place.proofs.DeliveredRows.{AreItsRows, found_packet, found_roomy, its_rows}
use Rattle.fws_place.proofs.writes_inside_out.written_among.Goals as goal

pub packet_at-packet-requires : goal.packet_at-packet-requires
packet_at-packet-requires c =
    let site = c.args.site.now in
    let tree = c.args.within.now in
    let rest = c.in_ok-rest.rest in
    let rows : List (Row Outcome) = paths_of tree.0 tree.1 in
    let kept = c.in_ok-point.ensures in
    let its : AreItsRows site tree.1 rows = its_rows site tree rows c.requires.tops c.requires.reduced refl kept.once kept.right in
    let top : get_or c.tops.result 0 0 ≡ length site.faces + 1 = ap (λ (l : List ℕ). get_or l 0 0) c.tops.ensures in
    let found : IsDeliveredIn rest (length site.faces + 1) rows c.in-Some.point
    = subst (λ (n : ℕ). IsDeliveredIn rest n rows c.in-Some.point) top
    (MatchOption-at_some (All (NoneDelivered rest (get_or c.tops.result 0 0)) rows) (IsDeliveredIn rest (get_or c.tops.result 0 0) rows) c.in-Some.point c.in-Some.is kept.found) in
    found_roomy site tree.1 rows rest c.in-Some.point c.requires.sound its found

pub returns-in-Some : goal.returns-in-Some
returns-in-Some c =
    let site = c.args.site.now in
    let tables = c.args.tables.now in
    let tree = c.args.within.now in
    let rest = c.in_ok-rest.rest in
    let rows : List (Row Outcome) = paths_of tree.0 tree.1 in
    let kept = c.in_ok-point.ensures in
    let its : AreItsRows site tree.1 rows = its_rows site tree rows c.requires.tops c.requires.reduced refl kept.once kept.right in
    let top : get_or c.tops.result 0 0 ≡ length site.faces + 1 = ap (λ (l : List ℕ). get_or l 0 0) c.tops.ensures in
    let found : IsDeliveredIn rest (length site.faces + 1) rows c.in-Some.point
    = subst (λ (n : ℕ). IsDeliveredIn rest n rows c.in-Some.point) top
    (MatchOption-at_some (All (NoneDelivered rest (get_or c.tops.result 0 0)) rows) (IsDeliveredIn rest (get_or c.tops.result 0 0) rows) c.in-Some.point c.in-Some.is kept.found) in
    let named : Packet → Type 0 = λ p. IsSoughtPacket site (IsWrittenWithin site tables) (Some (record { packet = p; rec = None }, None)) in
    subst named (sym c.packet_at-packet.ensures)
    (found_within site tables rest (packet_of c.in-Some.point) c.in_ok-rest.ensures
    (found_packet site tables (λ entry. is_inside (side_of site entry)) tree.1 rows rest c.in-Some.point c.requires.regular c.requires.within its found))

pub returns : goal.returns
returns c =
    let site = c.args.site.now in
    let tables = c.args.tables.now in
    let tree = c.args.within.now in
    let rest = c.in_ok-rest.rest in
    let rows : List (Row Outcome) = paths_of tree.0 tree.1 in
    let kept = c.in_ok-point.ensures in
    let its : AreItsRows site tree.1 rows = its_rows site tree rows c.requires.tops c.requires.reduced refl kept.once kept.right in
    let top : get_or c.tops.result 0 0 ≡ length site.faces + 1 = ap (λ (l : List ℕ). get_or l 0 0) c.tops.ensures in
    let none : All (NoneDelivered rest (length site.faces + 1)) rows
    = subst (λ (n : ℕ). All (NoneDelivered rest n) rows) top
    (MatchOption-at_none (All (NoneDelivered rest (get_or c.tops.result 0 0)) rows) (IsDeliveredIn rest (get_or c.tops.result 0 0) rows) c.in-None.is kept.found) in
    none_within site tables tree.1 rows rest c.in_ok-rest.ensures c.requires.within its none
