use Rattle.std.proofs.Common.{◌∙◌, ap, is_some}
use Rattle.fws_pf_words.proofs.Placed.{place_found}
use Rattle.fws_pf_words.proofs.setting.TableList.has.Goals as goal

pub returns : goal.returns
returns c = c.is_some.ensures ∙ ap is_some c.position.ensures ∙ place_found c.args.name.now c.args.self.now
