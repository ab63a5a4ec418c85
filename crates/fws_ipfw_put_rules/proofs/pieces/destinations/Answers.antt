use Rattle.std.proofs.Common.{◌≡◌, List}
use Rattle.std.proofs.lemmas.Result.{IfOk-weaker}
use Rattle.std.specs.Prelude.{map}
use Rattle.fws_net.specs.declared.condition.Lit.{Lit}
use Rattle.fws_tree_seen.specs.declared.field.PacketField.TheVariants.{Dst}
use Rattle.fws_ipfw_put_rules.specs.Pieces.{set_lit, ArePieces}
use Rattle.fws_ipfw_put_rules.proofs.Hitting.{dst_pieces}
use Rattle.fws_ipfw_put_rules.proofs.pieces.destinations.Goals as goal

pub returns : goal.returns
returns c =
    let P : List Lit → Type 0 = λ lits. lits ≡ map (set_lit Dst) c.in_ok-groups.groups.items in
    let Q : List Lit → Type 0 = λ lits. ArePieces Dst c.args.set.now lits in
    IfOk-weaker _ P Q (λ lits e. dst_pieces c.args.set.now c.in_ok-groups.groups.items lits c.in_ok-groups.ensures e) c.grouped.ensures
