use Rattle.fws_ios_print.proofs.LinesPut.{all_faces_put}
use Rattle.fws_ios_print.proofs.interfaces.put_interfaces.Goals as goal

pub returns : goal.returns
returns c =
    all_faces_put c.args.c.now c.args.site.now c.args.out.now c.put_interface.new.out _ _ _ _ _ c.as_slice-groups.ensures c.as_slice.ensures c.in_ok-put_interface.ensures c.as_slice-2.ensures
    c.groups_behind.ensures c.in_ok-put_faces.ensures
