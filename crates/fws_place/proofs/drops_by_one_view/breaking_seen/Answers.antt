use Rattle.std.proofs.Common.{◌≡◌, ℕ, Bool, List, sym, subst}
use Rattle.std.proofs.lemmas.Result.{IfOk-weaker}
use Rattle.std.specs.Prelude.{Some, false, if◌then◌else◌}
use Rattle.fws_box.specs.Sides.{IsWithin}
use Rattle.fws_net.specs.Points.{tops_of}
use Rattle.fws_tree.specs.Plain.{Plain, value}
use Rattle.fws_place.specs.Clauses.{BreaksByOneView}
use Rattle.fws_place.specs.Lost.{is_lost_at}
use Rattle.fws_place.specs.Seen.{Tells}
use Rattle.fws_place.proofs.Viewing.{breaking_told, found_alone}
use Rattle.fws_place.proofs.drops_by_one_view.breaking_seen.Goals as goal

pub returns-clause-tells : goal.returns-clause-tells
returns-clause-tells c =
    let site = c.args.site.now in
    let tables = c.args.tables.now in
    let accepted = c.args.accepted.now in
    let packet = c.args.packet.now in
    let behind = c.args.behind.now in
    let dropped = c.in_ok-dropped.dropped in
    let P : List ℕ × Plain Bool → Type 0 = λ t. (q : List ℕ) → IsWithin (tops_of site) q → value t.1 q ≡ (if is_lost_at site q then Some false else value dropped.1 q) in
    let Q : List ℕ × Plain Bool → Type 0 = λ t. Tells site (BreaksByOneView site tables) t.1 in
    IfOk-weaker c.without_lost.result P Q
    (λ t h. breaking_told site tables c.requires.regular accepted.1 packet.1 behind.1 t.1 c.requires.accepted c.requires.packet c.requires.behind
    (λ q w. found_alone (is_lost_at site q) (value accepted.1 q) (value packet.1 q) (value behind.1 q) (value dropped.1 q) (value t.1 q)
    (c.in_ok-dropped.ensures.value q (subst (λ ts. IsWithin ts q) (sym c.requires.accepted_tops) w)) (h q w)))
    c.without_lost.ensures.value
