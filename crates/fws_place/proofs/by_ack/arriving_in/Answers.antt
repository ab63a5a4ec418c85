use Rattle.std.proofs.Common.{◌≡◌, ℕ, Bool, false, Some, List}
use Rattle.std.proofs.lemmas.Result.{IfOk-weaker}
use Rattle.std.specs.Prelude.{slice_index, if◌then◌else◌}
use Rattle.fws_iv.specs.declared.iv.Iv.{Iv}
use Rattle.fws_iv.specs.Ivs.{has}
use Rattle.fws_box.specs.Sides.{IsWithin}
use Rattle.fws_net.specs.Points.{tops_of}
use Rattle.fws_tree.specs.Plain.{Plain, value}
use Rattle.fws_place.specs.ByAck.{arrives_at}
use Rattle.fws_place.specs.Kept.{IsKeptWhere}
use Rattle.fws_place.proofs.ByAcks.{entries_are, kept_where}
use Rattle.fws_place.proofs.by_ack.arriving_in.Goals as goal

pub returns-clause-value : goal.returns-clause-value
returns-clause-value c =
    let site = c.args.site.now in
    let tree = c.args.tree.now in
    let entries : List Iv = c.in_ok-entries.entries in
    let P : List ℕ × Plain Bool → Type 0 = λ t. (q : List ℕ) → IsWithin tree.0 q → value t.1 q ≡ (if has entries (slice_index q 0) then value tree.1 q else Some false) in
    let Q : List ℕ × Plain Bool → Type 0 = λ t. IsKeptWhere (tops_of site) arrives_at tree.1 t.1 in
    IfOk-weaker c.kept_in.result P Q
    (λ t h. kept_where (tops_of site) tree.0 c.requires.tops arrives_at 0 entries tree.1 t.1 (entries_are site entries c.tops.result c.tops.ensures c.in_ok-entries.ensures) h)
    c.kept_in.ensures.value
