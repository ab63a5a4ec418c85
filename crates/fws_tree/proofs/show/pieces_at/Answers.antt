use Rattle.fws_tree.proofs.Showing.{pieced}
use Rattle.fws_tree.proofs.show.pieces_at.Goals as goal

pub returns : goal.returns
returns c = pieced c.args.store.now c.args.at c.args.field c.args.top c.view-last.result.1 c.view-last.result.0.now c.in_ok-pieces.pieces.items c.requires.inside c.view-last.ensures.held c.view-last.ensures.below c.view-last.ensures.last
    c.in_ok-pieces.ensures.row c.in_ok-pieces.ensures.end c.in_ok-pieces.ensures.leads c.in_ok-pieces.ensures.below
