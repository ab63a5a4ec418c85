use Rattle.std.proofs.Common.{ℕ, Bool, true, false, ◌&&◌, not, Option, Some, List}
use Rattle.std.proofs.lemmas.Result.{IfOk-weaker}
use Rattle.std.specs.Prelude.{if◌then◌else◌}
use Rattle.fws_net.specs.Points.{tops_of}
use Rattle.fws_tree.specs.Plain.{Plain, value}
use Rattle.fws_place.specs.ByAck.{flags_pass, is_first_test, IsFirstWithAck}
use Rattle.fws_place.specs.Kept.{IsKeptWhere}
use Rattle.fws_place.proofs.ByAcks.{kept_there}
use Rattle.fws_place.proofs.ack_ahead.first_with_ack.Goals as goal

pub returns-clause-value : goal.returns-clause-value
returns-clause-value c =
    let site = c.args.site.now in
    let sometimes = c.args.sometimes.now in
    let new = c.args.new.now in
    let such = c.in_ok-such.such in
    let P : List ℕ × Plain Bool → Type 0 = λ u. IsKeptWhere (tops_of site) (flags_pass true) such.1 u.1 in
    let Q : List ℕ × Plain Bool → Type 0 = λ u. IsFirstWithAck site sometimes.1 new.1 u.1 in
    IfOk-weaker c.acknowledging_in.result P Q
    (λ u h q w.
    let f : Bool → Bool → Option Bool = λ a b. if is_first_test site q then Some (a && not b) else Some false in
    kept_there (flags_pass true q) (value sometimes.1 q) (value new.1 q) (value such.1 q) (value u.1 q) f (c.in_ok-such.ensures.value q w) (h q w))
    c.acknowledging_in.ensures.value
