use Rattle.std.proofs.Common.{sym, ◌∙◌}
use Rattle.fws_ipfw_read.proofs.Known.{put_new}
use Rattle.fws_ipfw_read.proofs.instances.Known.put.Goals as goal

pub returns : goal.returns
returns c = put_new c.args.each c.self.inside.redirects _ _ c.self.view_is (sym c.has.ensures ∙ c.if-has.false) c.in_ok-insert.ensures.entries
