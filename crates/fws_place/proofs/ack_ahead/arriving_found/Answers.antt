use Rattle.std.proofs.Common.{ℕ, Bool, List}
use Rattle.std.proofs.lemmas.Result.{IfOk-weaker}
use Rattle.std.specs.Prelude.{nat_eq, slice_index}
use Rattle.fws_net.specs.Points.{tops_of}
use Rattle.fws_tree.specs.Plain.{Plain, value}
use Rattle.fws_place.specs.ByAck.{arrives_at, is_found, is_first_test}
use Rattle.fws_place.specs.Kept.{IsKeptWhere}
use Rattle.fws_place.proofs.ByAcks.{both_tests}
use Rattle.fws_place.proofs.ack_ahead.arriving_found.Goals as goal

pub returns-clause-value : goal.returns-clause-value
returns-clause-value c =
    let site = c.args.site.now in
    let tops : List ℕ = tops_of site in
    let tree = c.args.tree.now in
    let found = c.in_ok-found.found in
    let P : List ℕ × Plain Bool → Type 0 = λ t. IsKeptWhere tops arrives_at found.1 t.1 in
    let Q : List ℕ × Plain Bool → Type 0 = λ t. IsKeptWhere tops (is_first_test site) tree.1 t.1 in
    IfOk-weaker c.arriving_in.result P Q
    (λ t h q w. both_tests (arrives_at q) (nat_eq (slice_index q 1) 6) (is_found site (slice_index q 2)) (value tree.1 q) (value found.1 q) (value t.1 q) (c.in_ok-found.ensures.value q w) (h q w))
    c.arriving_in.ensures.value
