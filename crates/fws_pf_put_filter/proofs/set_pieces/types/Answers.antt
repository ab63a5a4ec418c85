use Rattle.std.proofs.Common.{List}
use Rattle.std.proofs.lemmas.Result.{IfOk-weaker}
use Rattle.fws_net.specs.declared.condition.Lit.{Lit}
use Rattle.fws_tree_seen.specs.declared.field.PacketField.TheVariants.{Icmp}
use Rattle.fws_pf_put_filter.specs.Pieces.{ArePieces, AreValuesBelow}
use Rattle.fws_pf_put_filter.proofs.Hitting.{icmp_pieces}
use Rattle.fws_pf_put_filter.proofs.set_pieces.types.Goals as goal

pub returns : goal.returns
returns c =
    let P : List Lit → Type 0 = λ lits. AreValuesBelow Icmp c.args.set.now 256 lits in
    let Q : List Lit → Type 0 = λ lits. ArePieces Icmp c.args.set.now lits in
    IfOk-weaker _ P Q (λ lits made. icmp_pieces c.args.set.now lits made) c.values.ensures
