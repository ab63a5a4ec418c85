use Rattle.fws_ios_print.proofs.LinesPut.{face_put}
use Rattle.fws_ios_print.proofs.interfaces.put_face.Goals as goal

pub returns : goal.returns
returns c =
    face_put c.args.c.now c.args.face c.args.groups.now c.args.out.now c.put_side.new.out c.put_side-2.new.out _ _ _ c.parts.ensures.value c.in_ok-put_side.ensures c.parts-2.ensures.value
    c.in_ok-put_side-2.ensures c.in_ok-put_groups.ensures
