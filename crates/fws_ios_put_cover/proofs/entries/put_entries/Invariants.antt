use Rattle.std.proofs.Common.{◌≡◌, ◌++◌, List, take}
use Rattle.fws_ios.specs.declared.config.IosEntry.{IosEntry}
use Rattle.fws_ios_put_cover.specs.Covers.{AreEntriesOf}
use Rattle.fws_ios_put_cover.proofs.entries.put_entries.Given as goal

abbrev pub invariant-loop-path : goal.invariant-loop-path
invariant-loop-path l = (block : List IosEntry) × (l.entries ≡ l.initial.entries ++ block) × AreEntriesOf l.act (take l.path-index l.paths) block
