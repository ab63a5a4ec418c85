use Rattle.std.proofs.Common.{◌++◌, ◌∷◌, [], List, get_or, sym, ◌∙◌, ap, subst, take, append_assoc}
use Rattle.std.proofs.lemmas.List.{take_more}
use Rattle.fws_ios.specs.declared.config.IosEntry.{IosEntry}
use Rattle.fws_ios_put_entries.specs.declared.path.Path.{Path}
use Rattle.fws_ios_put_entries.specs.Paths.{nothing_asked}
use Rattle.fws_ios_put_cover.specs.Covers.{AreEntriesOf}
use Rattle.fws_ios_put_cover.proofs.Entering.{entries_more}
use Rattle.fws_ios_put_cover.proofs.entries.put_entries.Goals as goal

pub loop-path-preserved : goal.loop-path-preserved
loop-path-preserved c =
    let paths = c.args.paths.now in
    let at = c.loop-path.path-index in
    let act = c.args.act in
    let e : IosEntry = c.in_ok-entry_of.field-0 in
    let block : List IosEntry = c.loop-path.invariant.0 in (
      block ++ e ∷ [],
      c.in_ok-put.ensures.ok ∙ ap (λ (l : List IosEntry). l ++ e ∷ []) c.loop-path.invariant.1 ∙ append_assoc c.args.entries.now block (e ∷ []),
      subst (λ (l : List Path). AreEntriesOf act l (block ++ e ∷ [])) (sym (take_more paths at nothing_asked c.loop-path-test.true))
          (entries_more act (take at paths) (get_or paths at nothing_asked) block e c.in_ok-entry_of.ensures c.loop-path.invariant.2),
    )
