use Rattle.std.proofs.Common.{[], ◌∷◌, ◌++◌, List, ◌∙◌, ap}
use Rattle.fws_iv.specs.declared.iv.Iv.{Iv}
use Rattle.fws_net.specs.declared.condition.Lit.{Lit}
use Rattle.fws_tree_seen.specs.declared.field.PacketField.TheVariants.{Icmp}
use Rattle.fws_ipfw_put_rules.specs.Pieces.{set_lit}
use Rattle.fws_ipfw_put_rules.proofs.Hitting.{icmp_pieces}
use Rattle.fws_ipfw_put_rules.proofs.pieces.types.Goals as goal

pub returns : goal.returns
returns c =
    icmp_pieces c.args.set.now c.put.new.self c.requires c.parts-parts.ensures.regular
    (c.in_ok-put.ensures.ok ∙ ap (λ (l : List Lit). l ++ c.has_member.result ∷ []) c.new-lits.ensures ∙ ap (λ (x : Lit). x ∷ []) c.has_member.ensures
    ∙ ap (λ (s : List Iv). set_lit Icmp s ∷ []) c.in_ok-whole.ensures)
