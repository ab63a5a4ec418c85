use Rattle.fws_net.proofs.LinesText.{addresses_more}
use Rattle.fws_net.proofs.site_spelling.put_addresses.Goals as goal

pub loop-face-preserved : goal.loop-face-preserved
loop-face-preserved c =
    addresses_more c.args.faces.now c.loop-face.face-index c.face-item.result _ _ c.loop-face.out _ _ c.loop-face-test.true c.face-item.is
    c.as_slice.ensures c.as_slice-in-loop-face.ensures c.in_ok-put_addresses_of.ensures c.loop-face.invariant
