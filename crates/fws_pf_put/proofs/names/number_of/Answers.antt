use Rattle.std.proofs.Common.{sym, ◌∙◌}
use Rattle.fws_pf_put.proofs.Numbering.{place_is}
use Rattle.fws_pf_put.proofs.names.number_of.Goals as goal

pub returns-in-Ok : goal.returns-in-Ok
returns-in-Ok c = c.in-Ok.ensures.1 ∙ sym (place_is c.args.tags.now.keys c.args.tag c.in-Some.place (sym c.in-Some.ensures.index))
