use Rattle.std.proofs.Common.{arith}
use Rattle.fws_pf_put.proofs.Numbering.{tag_gathered}
use Rattle.fws_pf_put.proofs.gathering.gather_tag.Goals as goal

pub returns : goal.returns
returns c =
    tag_gathered c.args.tags.now.keys c.insert.new.self.keys c.args.tag (omega (arith, c.len.ensures.len, c.if-len-gt4000000000.false)) c.in_ok-insert.ensures.keys
