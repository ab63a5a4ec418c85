use Rattle.std.proofs.Common.{List, subst}
use Rattle.fws_ios_put_entries.specs.declared.path.Path.{Path}
use Rattle.fws_ios_put_cover.specs.Steps.{AreKept}
use Rattle.fws_ios_put_cover.proofs.Covered.{class_kept}
use Rattle.fws_ios_put_cover.proofs.parts.put_class.Goals as goal

pub returns : goal.returns
returns c =
    let old = c.args.kept.now.keys in
    let new = c.put_paths.new.kept.keys in
    class_kept c.args.site.now c.args.class c.args.within.now.1 c.args.sides.now old new c.in_ok-paths.paths
    (subst (λ (l : List Path). AreKept old new l) c.as_slice.ensures c.in_ok-put_paths.ensures) c.in_ok-paths.ensures
