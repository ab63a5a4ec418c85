use Rattle.std.proofs.Common.{List}
use Rattle.std.proofs.lemmas.Result.{IfOk-weaker}
use Rattle.fws_ios.specs.declared.config.IosEntry.{IosEntry}
use Rattle.fws_ios_put.specs.Blocks.{IsListOf}
use Rattle.fws_ios_put.specs.Layout.{IsEntryList}
use Rattle.fws_ios_put.proofs.lists.own_entries.Goals as goal

pub returns : goal.returns
returns c =
    let site = c.args.site.now in
    let new = c.args.new.now.1 in
    let known = c.args.known.now.1 in
    let choices = c.in_ok-choices.choices in
    let P : List IosEntry → Type 0 = λ entries. IsListOf site choices entries in
    let Q : List IosEntry → Type 0 = λ entries. IsEntryList site new known c.args.entry entries in
    IfOk-weaker c.list_of.result P Q (λ entries decides. record { choices = choices; made = c.in_ok-choices.ensures.made; decides = decides }) c.list_of.ensures
