use Rattle.std.proofs.Common.{◌≡◌, ℕ, Bool, List}
use Rattle.std.proofs.lemmas.Result.{IfOk-weaker}
use Rattle.std.specs.Prelude.{Some, false, if◌then◌else◌}
use Rattle.fws_box.specs.Sides.{IsWithin}
use Rattle.fws_net.specs.Points.{tops_of}
use Rattle.fws_tree.specs.Plain.{Plain, value}
use Rattle.fws_place.specs.Clauses.{BreaksAlways}
use Rattle.fws_place.specs.Lost.{is_lost_at}
use Rattle.fws_place.specs.Seen.{Tells}
use Rattle.fws_place.proofs.AlwaysDropped.{always_told}
use Rattle.fws_place.proofs.drops_always.breaking.Goals as goal

pub returns-clause-tells : goal.returns-clause-tells
returns-clause-tells c =
    let site = c.args.site.now in
    let tables = c.args.tables.now in
    let d = c.in_ok-dropped.dropped in
    let P : List ℕ × Plain Bool → Type 0 = λ t. (q : List ℕ) → IsWithin (tops_of site) q → value t.1 q ≡ (if is_lost_at site q then Some false else value d.1 q) in
    let Q : List ℕ × Plain Bool → Type 0 = λ t. Tells site (BreaksAlways site tables) t.1 in
    IfOk-weaker c.without_lost.result P Q (λ t h. always_told site tables c.requires.regular d.1 t.1 c.in_ok-dropped.ensures.tells h) c.without_lost.ensures.value
