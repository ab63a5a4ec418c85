use Rattle.std.proofs.Common.{◌++◌, List, ap, ◌∙◌, sym, subst}
use Rattle.fws_ios.specs.declared.config.IosEntry.{IosEntry}
use Rattle.fws_ios_put.specs.Blocks.{IsListOf}
use Rattle.fws_ios_put.proofs.Assembling.{list_of}
use Rattle.fws_ios_put.proofs.Joining.{two_behind}
use Rattle.fws_ios_put.proofs.blocks.list_of.Goals as goal

pub returns : goal.returns
returns c =
    let a = c.in_ok-put_front.ensures in
    let b = c.in_ok-put_back.ensures in
    let is = two_behind c.new-entries.result c.put_front.new.entries c.put_back.new.entries a.0 b.0 a.1 b.1 ∙ ap (λ (l : List IosEntry). l ++ (a.0 ++ b.0)) c.new-entries.ensures in
    subst (λ (l : List IosEntry). IsListOf c.args.site.now c.args.c.now l) (sym is) (list_of c.args.site.now c.args.c.now a.0 b.0 a.2 b.2)
