use Rattle.std.proofs.Common.{List}
use Rattle.std.proofs.lemmas.Result.{IfOk-weaker}
use Rattle.fws_net.specs.declared.condition.Lit.{Lit}
use Rattle.fws_tree_seen.specs.declared.field.PacketField.TheVariants.{Dport}
use Rattle.fws_pf_put_filter.specs.Pieces.{ArePieces, AreRanges}
use Rattle.fws_pf_put_filter.proofs.Hitting.{dport_pieces}
use Rattle.fws_pf_put_filter.proofs.set_pieces.destination_ports.Goals as goal

pub returns : goal.returns
returns c =
    let P : List Lit → Type 0 = λ lits. AreRanges Dport c.args.set.now lits in
    let Q : List Lit → Type 0 = λ lits. ArePieces Dport c.args.set.now lits in
    IfOk-weaker _ P Q (λ lits made. dport_pieces c.args.set.now lits c.requires made) c.ranges-2.ensures
