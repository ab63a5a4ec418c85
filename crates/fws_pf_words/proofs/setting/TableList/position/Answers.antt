use Rattle.std.proofs.Common.{◌∙◌, ap, position}
use Rattle.fws_pf_words.proofs.Placed.{bears}
use Rattle.fws_pf_words.proofs.setting.TableList.position.Goals as goal

pub returns : goal.returns
returns c = c.copied.ensures ∙ c.get.ensures.value ∙ c.self.invariant c.args.name.now ∙ ap (position (bears c.args.name.now)) c.self.view_is
