use Rattle.std.proofs.Common.{List, false}
use Rattle.std.proofs.lemmas.Result.{IfOk-weaker}
use Rattle.fws_ios.specs.declared.config.IosEntry.{IosEntry}
use Rattle.fws_ios_put_lists.specs.FirstMatch.{IsFirstMatch}
use Rattle.fws_ios_put_sources.specs.Lists.{AreEntries}
use Rattle.fws_ios_put_sources.proofs.Entries.{entries_tell}
use Rattle.fws_ios_put_sources.proofs.lists.entries_at.Goals as goal

pub returns : goal.returns
returns c =
    let site = c.args.site.now in
    let tree = c.args.crossing.now in
    let keys = c.args.addrs.now.keys in
    let sets = c.in_ok-sets.sets in
    let P : List IosEntry → Type 0 = λ block. IsFirstMatch site sets.permitted.1 false block in
    let Q : List IosEntry → Type 0 = λ block. AreEntries site tree.1 keys c.args.place block in
    IfOk-weaker c.entries_for.result P Q (λ block first. entries_tell site tree.0 tree.1 keys c.args.place sets block c.requires.tops c.in_ok-sets.ensures first) c.entries_for.ensures
