use Rattle.fws_ipfw_put.proofs.Kept.{clauses_met}
use Rattle.fws_ipfw_put.proofs.Knowing.{known_by}
use Rattle.fws_ipfw_put.proofs.placing.known.Goals as goal

pub returns : goal.returns
returns c =
    let views = c.args._views.now in
    known_by c.args._site.now c.args._t.now views.packet.1 views.behind.1 c.requires.regular (clauses_met c.args._site.now c.args._t.now c.requires.fits).ahead c.requires.packet c.requires.behind
    c.views_are_told.ensures c.points_are_seen.ensures c.lost_pairs_are_dropped.ensures c.ipfw_pairs_are_told.ensures c.ipfw_drops_new_arrivals.ensures c.ipfw_drops_new_host.ensures
