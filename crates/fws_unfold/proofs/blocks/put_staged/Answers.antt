use Rattle.std.proofs.Common.{List, sym, subst}
use Rattle.fws_ifcl.specs.declared.diagram.Chain.{Chain}
use Rattle.fws_ifcl.specs.Loops.{NamesChains}
use Rattle.fws_unfold.proofs.blocks.put_staged.Goals as goal

pub put_block-requires-clause-named : goal.put_block-requires-clause-named
put_block-requires-clause-named c = subst (λ (chains : List Chain). NamesChains chains) (sym c.as_slice.ensures) c.requires.named
