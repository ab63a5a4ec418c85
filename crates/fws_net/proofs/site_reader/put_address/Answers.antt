use Rattle.fws_net.proofs.Added.{past_last, at_face}
use Rattle.fws_net.proofs.site_reader.put_address.Goals as goal

pub returns-then-k-faces : goal.returns-then-k-faces
returns-then-k-faces c = past_last c.args.k c.args.own _ c.if-k-faces.true

pub returns : goal.returns
returns c = at_face c.args.k c.args.own _ _ _ c.if-k-faces.false c.in_ok-put.ensures.ok
