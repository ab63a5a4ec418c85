use Rattle.std.proofs.lemmas.Option.{MatchOption-at_none}
use Rattle.fws_place.specs.Found.{IsTrueAt, IsTrueNowhere}
use Rattle.fws_place.proofs.Finding.{no_pair}
use Rattle.fws_place.proofs.naming.named_pair.Goals as goal

pub returns-in-None : goal.returns-in-None
returns-in-None c =
    let tree = c.args.tree.now in
    no_pair c.args.site.now tree c.requires.tops (MatchOption-at_none (IsTrueNowhere tree.0 tree.1) (IsTrueAt tree.0 tree.1) c.in-None.is c.in_ok-point.ensures)
