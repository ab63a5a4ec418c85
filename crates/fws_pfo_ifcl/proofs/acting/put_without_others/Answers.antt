use Rattle.fws_pfo_ifcl.proofs.Tags.{others_put}
use Rattle.fws_pfo_ifcl.proofs.acting.put_without_others.Goals as goal

pub loop-tag-preserved : goal.loop-tag-preserved
loop-tag-preserved c =
    others_put c.args.n c.args.tags c.loop-tag.tag c.loop-tag.acts.items c.put_without_other.new.acts.items _ c.loop-tag-test.true c.in_ok-put_without_other.ensures
    c.loop-tag.invariant
