use Rattle.std.proofs.Common.{ℕ, Bool, false, Some, List, ◌∙◌, ap}
use Rattle.std.proofs.lemmas.Result.{IfOk-weaker}
use Rattle.std.specs.Prelude.{if◌then◌else◌}
use Rattle.fws_net.specs.Points.{tops_of}
use Rattle.fws_tree.specs.Plain.{Plain}
use Rattle.fws_place.specs.ByAck.{flags_pass, IsArrivingWith}
use Rattle.fws_place.specs.Kept.{IsKeptWhere}
use Rattle.fws_place.proofs.by_ack.arriving_with.Goals as goal

pub returns-clause-value : goal.returns-clause-value
returns-clause-value c =
    let tops : List ℕ = tops_of c.args.site.now in
    let asked : Bool = c.args.asked in
    let arriving = c.in_ok-arriving.arriving in
    let P : List ℕ × Plain Bool → Type 0 = λ u. IsKeptWhere tops (flags_pass asked) arriving.1 u.1 in
    let Q : List ℕ × Plain Bool → Type 0 = λ u. IsArrivingWith asked tops c.args.tree.now.1 u.1 in
    IfOk-weaker c.acknowledging_in.result P Q (λ u h q w. h q w ∙ ap (λ v. if flags_pass asked q then v else Some false) (c.in_ok-arriving.ensures.value q w))
    c.acknowledging_in.ensures.value
