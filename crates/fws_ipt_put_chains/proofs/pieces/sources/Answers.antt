use Rattle.std.proofs.Common.{◌≡◌, List}
use Rattle.std.specs.Prelude.{map}
use Rattle.std.proofs.lemmas.Result.{IfOk-weaker}
use Rattle.fws_net.specs.declared.condition.Lit.{Lit}
use Rattle.fws_tree_seen.specs.declared.field.PacketField.TheVariants.{Src}
use Rattle.fws_ipt_put_chains.specs.declared.coming.Coming.{Coming}
use Rattle.fws_ipt_put_chains.specs.Conds.{range_cond}
use Rattle.fws_ipt_put_chains.specs.Pieces.{ArePieces}
use Rattle.fws_ipt_put_chains.proofs.Hits.{src_pieces}
use Rattle.fws_ipt_put_chains.proofs.pieces.sources.Goals as goal

pub returns : goal.returns
returns c =
    let P : List (List Lit) → Type 0 = λ conds. conds ≡ map (range_cond Src) c.args.set.now in
    let Q : List (List Lit) → Type 0 = λ conds. (coming : Coming) → ArePieces coming Src c.args.set.now conds in
    IfOk-weaker _ P Q (λ conds h coming. src_pieces coming c.args.set.now conds c.parts-parts.ensures.regular c.requires h) c.ranges-2.ensures
