use Rattle.std.proofs.Common.{arith}
use Rattle.fws_ios_print.proofs.LinesPut.{next_face_put}
use Rattle.fws_ios_print.proofs.interfaces.put_faces.Goals as goal

pub loop-face-preserved : goal.loop-face-preserved
loop-face-preserved c = record {
  counted = omega (arith, c.loop-face.invariant.counted);
  put = next_face_put c.args.c.now c.args.faces.now c.loop-face.face-index c.face-item.result c.loop-face.number _ c.loop-face.out c.put_interface.new.out _ c.loop-face.left.now _ c.loop-face-test.true
      c.face-item.is c.as_slice.ensures c.in_ok-put_interface.ensures c.groups_behind-left.ensures c.loop-face.invariant.put;
}
