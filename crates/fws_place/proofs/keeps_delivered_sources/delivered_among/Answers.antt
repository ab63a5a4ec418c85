use Rattle.std.proofs.Common.{◌≡◌, ℕ, ◌+◌, true, None, List, refl, sym, subst, ap, length, get_or, All}
use Rattle.std.proofs.lemmas.Option.{MatchOption-at_none, MatchOption-at_some}
use Rattle.fws_net.specs.declared.outcome.Outcome.{Outcome}
use Rattle.fws_net.specs.declared.packet.Packet.{Packet}
use Rattle.fws_net.specs.Points.{packet_of}
use Rattle.fws_tree.specs.declared.row.Row.{Row}
use Rattle.fws_tree.specs.Rows.{paths_of}
use Rattle.fws_place.specs.declared.clause.Clause.TheVariants.{KeepsDeliveredSources}
use Rattle.fws_place.specs.Clauses.{Breaks}
use Rattle.fws_place.specs.Delivered.{IsDeliveredIn, NoneDelivered, AreSources}
use Rattle.fws_place.proofs.DeliveredRows.{AreItsRows, found_breaks, found_packet, found_roomy, its_rows, none_meet}
use Rattle.fws_place.proofs.keeps_delivered_sources.delivered_among.Goals as goal

pub packet_at-packet-requires : goal.packet_at-packet-requires
packet_at-packet-requires c =
    let site = c.args.site.now in
    let tables = c.args.tables.now in
    let tree = c.args.sources.now in
    let local = c.in_ok-local.local in
    let rows : List (Row Outcome) = paths_of tree.0 tree.1 in
    let kept = c.in_ok-point.ensures in
    let its : AreItsRows site tree.1 rows = its_rows site tree rows c.requires.tops c.requires.reduced refl kept.once kept.right in
    let top : get_or c.tops.result 0 0 ≡ length site.faces + 1 = ap (λ (l : List ℕ). get_or l 0 0) c.tops.ensures in
    let found : IsDeliveredIn local (length site.faces + 1) rows c.in-Some.point
    = subst (λ (n : ℕ). IsDeliveredIn local n rows c.in-Some.point) top
    (MatchOption-at_some (All (NoneDelivered local (get_or c.tops.result 0 0)) rows) (IsDeliveredIn local (get_or c.tops.result 0 0) rows) c.in-Some.point c.in-Some.is kept.found) in
    found_roomy site tree.1 rows local c.in-Some.point c.requires.sound its found

pub returns-in-Some : goal.returns-in-Some
returns-in-Some c =
    let site = c.args.site.now in
    let tables = c.args.tables.now in
    let tree = c.args.sources.now in
    let local = c.in_ok-local.local in
    let rows : List (Row Outcome) = paths_of tree.0 tree.1 in
    let kept = c.in_ok-point.ensures in
    let its : AreItsRows site tree.1 rows = its_rows site tree rows c.requires.tops c.requires.reduced refl kept.once kept.right in
    let top : get_or c.tops.result 0 0 ≡ length site.faces + 1 = ap (λ (l : List ℕ). get_or l 0 0) c.tops.ensures in
    let sources : AreSources site tables (λ entry. true) tree.1 = c.requires.sources in
    let found : IsDeliveredIn local (length site.faces + 1) rows c.in-Some.point
    = subst (λ (n : ℕ). IsDeliveredIn local n rows c.in-Some.point) top
    (MatchOption-at_some (All (NoneDelivered local (get_or c.tops.result 0 0)) rows) (IsDeliveredIn local (get_or c.tops.result 0 0) rows) c.in-Some.point c.in-Some.is kept.found) in
    let named : Packet → Type 0 = λ p. Breaks site tables KeepsDeliveredSources (record { packet = p; rec = None }) None in
    subst named (sym c.packet_at-packet.ensures) (found_breaks site tables local (packet_of c.in-Some.point) c.in_ok-local.ensures.members
    (found_packet site tables (λ entry. true) tree.1 rows local c.in-Some.point c.requires.regular sources its found))

pub returns : goal.returns
returns c =
    let site = c.args.site.now in
    let tables = c.args.tables.now in
    let tree = c.args.sources.now in
    let local = c.in_ok-local.local in
    let rows : List (Row Outcome) = paths_of tree.0 tree.1 in
    let kept = c.in_ok-point.ensures in
    let its : AreItsRows site tree.1 rows = its_rows site tree rows c.requires.tops c.requires.reduced refl kept.once kept.right in
    let top : get_or c.tops.result 0 0 ≡ length site.faces + 1 = ap (λ (l : List ℕ). get_or l 0 0) c.tops.ensures in
    let sources : AreSources site tables (λ entry. true) tree.1 = c.requires.sources in
    let none : All (NoneDelivered local (length site.faces + 1)) rows
    = subst (λ (n : ℕ). All (NoneDelivered local n) rows) top
    (MatchOption-at_none (All (NoneDelivered local (get_or c.tops.result 0 0)) rows) (IsDeliveredIn local (get_or c.tops.result 0 0) rows) c.in-None.is kept.found) in
    none_meet site tables tree.1 rows local sources its c.in_ok-local.ensures.members none
