use Rattle.std.proofs.Common.{◌∙◌}
use Rattle.fws_why.proofs.Said.{same_text}
use Rattle.fws_why.proofs.saying.why.Goals as goal

pub returns-clause-walked : goal.returns-clause-walked
returns-clause-walked c walk used is = c.in_ok-text.ensures c.args.spots.now c.in_ok-numbers.ensures
    ∙ same_text c.args.site.now c.args.code.now c.args.from.now c.args.spots.now walk used c.args.labels.now c.args.conns.now c.args.packets.now is c.requires.of_site
