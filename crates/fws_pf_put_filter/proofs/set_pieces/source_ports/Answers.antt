use Rattle.std.proofs.Common.{List}
use Rattle.std.proofs.lemmas.Result.{IfOk-weaker}
use Rattle.fws_net.specs.declared.condition.Lit.{Lit}
use Rattle.fws_tree_seen.specs.declared.field.PacketField.TheVariants.{Sport}
use Rattle.fws_pf_put_filter.specs.Pieces.{ArePieces, AreRanges}
use Rattle.fws_pf_put_filter.proofs.Hitting.{sport_pieces}
use Rattle.fws_pf_put_filter.proofs.set_pieces.source_ports.Goals as goal

pub returns : goal.returns
returns c =
    let P : List Lit → Type 0 = λ lits. AreRanges Sport c.args.set.now lits in
    let Q : List Lit → Type 0 = λ lits. ArePieces Sport c.args.set.now lits in
    IfOk-weaker _ P Q (λ lits made. sport_pieces c.args.set.now lits c.requires made) c.ranges-2.ensures
