use Rattle.fws_ios_put_cover.proofs.Covered.{classes_kept}
use Rattle.fws_ios_put_cover.proofs.parts.put_classes.Goals as goal

pub returns : goal.returns
returns c =
    classes_kept c.args.site.now c.args.within.now.1 c.args.sides.now c.args.kept.now.keys c.put_class.new.kept.keys c.put_class-2.new.kept.keys c.put_class-3.new.kept.keys
    c.in_ok-put_class.ensures c.in_ok-put_class-2.ensures c.in_ok-put_class-3.ensures
