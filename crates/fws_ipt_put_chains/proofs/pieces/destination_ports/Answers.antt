use Rattle.std.proofs.Common.{◌≡◌, List, ap, ◌∙◌}
use Rattle.std.proofs.lemmas.Result.{IfOk-weaker}
use Rattle.fws_net.specs.declared.condition.Lit.{Lit}
use Rattle.fws_tree_seen.specs.declared.field.PacketField.TheVariants.{Dport}
use Rattle.fws_ipt_put_chains.specs.Conds.{port_conds}
use Rattle.fws_ipt_put_chains.specs.Pieces.{ArePieces}
use Rattle.fws_ipt_put_chains.proofs.Hits.{dport_pieces}
use Rattle.fws_ipt_put_chains.proofs.pieces.destination_ports.Goals as goal

pub returns : goal.returns
returns c =
    let P : List (List Lit) → Type 0 = λ conds. conds ≡ port_conds Dport c.args.coming c.deref.result.now in
    let Q : List (List Lit) → Type 0 = λ conds. ArePieces c.args.coming Dport c.args.set.now conds in
    IfOk-weaker _ P Q (λ conds h. dport_pieces c.args.coming c.args.set.now c.in_ok-lists.lists.items conds c.in_ok-lists.ensures (h ∙ ap (λ l. port_conds Dport c.args.coming l) c.deref.ensures.value)) c.ports.ensures
