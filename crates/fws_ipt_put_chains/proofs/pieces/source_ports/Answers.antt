use Rattle.std.proofs.Common.{◌≡◌, List, ap, ◌∙◌}
use Rattle.std.proofs.lemmas.Result.{IfOk-weaker}
use Rattle.fws_net.specs.declared.condition.Lit.{Lit}
use Rattle.fws_tree_seen.specs.declared.field.PacketField.TheVariants.{Sport}
use Rattle.fws_ipt_put_chains.specs.Conds.{port_conds}
use Rattle.fws_ipt_put_chains.specs.Pieces.{ArePieces}
use Rattle.fws_ipt_put_chains.proofs.Hits.{sport_pieces}
use Rattle.fws_ipt_put_chains.proofs.pieces.source_ports.Goals as goal

pub returns : goal.returns
returns c =
    let P : List (List Lit) → Type 0 = λ conds. conds ≡ port_conds Sport c.args.coming c.deref.result.now in
    let Q : List (List Lit) → Type 0 = λ conds. ArePieces c.args.coming Sport c.args.set.now conds in
    IfOk-weaker _ P Q (λ conds h. sport_pieces c.args.coming c.args.set.now c.in_ok-lists.lists.items conds c.in_ok-lists.ensures (h ∙ ap (λ l. port_conds Sport c.args.coming l) c.deref.ensures.value)) c.ports.ensures
