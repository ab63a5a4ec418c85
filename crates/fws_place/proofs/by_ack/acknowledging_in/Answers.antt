use Rattle.std.proofs.Common.{◌≡◌, ℕ, Bool, false, Some, List, arith}
use Rattle.std.proofs.lemmas.Result.{IfOk-weaker}
use Rattle.std.specs.Prelude.{slice_index, if◌then◌else◌}
use Rattle.fws_iv.specs.declared.iv.Iv.{Iv}
use Rattle.fws_iv.specs.Ivs.{has}
use Rattle.fws_box.specs.Sides.{IsWithin}
use Rattle.fws_net.specs.Points.{tops_of}
use Rattle.fws_tree.specs.Plain.{Plain, value}
use Rattle.fws_place.specs.ByAck.{flags_pass}
use Rattle.fws_place.specs.Kept.{IsKeptWhere}
use Rattle.fws_place.proofs.ByAcks.{kept_where}
use Rattle.fws_place.proofs.PairPoints.{within_top}
use Rattle.fws_place.proofs.by_ack.acknowledging_in.Goals as goal

pub returns-clause-value : goal.returns-clause-value
returns-clause-value c =
    let site = c.args.site.now in
    let tree = c.args.tree.now in
    let flags : List Iv = c.in_ok-flags.flags in
    let P : List ℕ × Plain Bool → Type 0 = λ t. (q : List ℕ) → IsWithin tree.0 q → value t.1 q ≡ (if has flags (slice_index q 6) then value tree.1 q else Some false) in
    let Q : List ℕ × Plain Bool → Type 0 = λ t. IsKeptWhere (tops_of site) (flags_pass c.args.asked) tree.1 t.1 in
    IfOk-weaker c.kept_in.result P Q
    (λ t h. kept_where (tops_of site) tree.0 c.requires (flags_pass c.args.asked) 6 flags tree.1 t.1
    (λ q w. c.in_ok-flags.ensures (slice_index q 6) (within_top (tops_of site) q 6 w (omega arith))) h)
    c.kept_in.ensures.value
