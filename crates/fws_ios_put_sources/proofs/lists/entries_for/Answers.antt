use Rattle.std.proofs.Common.{List, false, ◌++◌, sym, ◌∙◌, ap, subst}
use Rattle.fws_ios.specs.declared.config.IosEntry.{IosEntry}
use Rattle.fws_ios_put_lists.specs.FirstMatch.{IsFirstMatch}
use Rattle.fws_ios_put_sources.proofs.lists.entries_for.Goals as goal

pub returns : goal.returns
returns c =
    let put = c.in_ok-put_list.ensures in
    let block : List IosEntry = put.0 in
    subst (λ (l : List IosEntry). IsFirstMatch c.args.site.now c.args.tree.now.1 false l) (sym (put.1 ∙ ap (λ l. l ++ block) c.new-entries.ensures)) put.2
