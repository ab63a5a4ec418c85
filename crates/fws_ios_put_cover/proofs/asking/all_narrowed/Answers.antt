use Rattle.std.proofs.Common.{◌++◌, List, get_or, sym, ◌∙◌, ap, subst, take}
use Rattle.std.proofs.lemmas.List.{take_more}
use Rattle.fws_ios_put_entries.specs.declared.path.Path.{Path}
use Rattle.fws_ios_put_entries.specs.Paths.{nothing_asked}
use Rattle.fws_ios_put_cover.specs.Steps.{AreAllNarrowed}
use Rattle.fws_ios_put_cover.proofs.Stepping.{narrowed_more}
use Rattle.fws_ios_put_cover.proofs.asking.all_narrowed.Goals as goal

pub loop-path-preserved : goal.loop-path-preserved
loop-path-preserved c =
    let paths = c.args.paths.now in
    let side = c.args.side in
    let set = c.args.set.now in
    let at = c.loop-path.path-index in
    let new = c.put_all.new.paths in
    subst (λ (l : List Path). AreAllNarrowed side set l new) (sym (take_more paths at nothing_asked c.loop-path-test.true))
    (narrowed_more side set (take at paths) (get_or paths at nothing_asked) c.in_ok-further.further c.loop-path.next new (c.in_ok-put_all.ensures ∙ ap (λ (l : List Path). c.loop-path.next ++ l) c.as_slice.ensures) c.in_ok-further.ensures c.loop-path.invariant)
