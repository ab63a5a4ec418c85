use Rattle.std.proofs.Common.{List, get_or, sym, subst, take}
use Rattle.std.proofs.lemmas.List.{take_more}
use Rattle.fws_ios_put_entries.specs.declared.path.Path.{Path}
use Rattle.fws_ios_put_entries.specs.Paths.{nothing_asked}
use Rattle.fws_ios_put_cover.specs.Steps.{AreKept}
use Rattle.fws_ios_put_cover.proofs.Keeping.{kept_more}
use Rattle.fws_ios_put_cover.proofs.kept.put_paths.Goals as goal

pub loop-path-preserved : goal.loop-path-preserved
loop-path-preserved c =
    let paths = c.args.paths.now in
    let at = c.loop-path.path-index in
    let old = c.args.kept.now.keys in
    let new = c.put_new.new.kept.keys in
    subst (λ (l : List Path). AreKept old new l) (sym (take_more paths at nothing_asked c.loop-path-test.true))
    (kept_more old c.loop-path.kept.keys new (take at paths) (get_or paths at nothing_asked) c.in_ok-put_new.ensures c.loop-path.invariant)
