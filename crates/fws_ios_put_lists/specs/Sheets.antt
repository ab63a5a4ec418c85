-- What functions are handed, as definitions take it.
use Rattle.std.specs.Prelude.{◌-◌, false, Some, List, length}
use Rattle.fws_ios.specs.declared.config.IosEntry.{IosEntry}
use Rattle.fws_ios_put_lists.specs.declared.sheet.Sheet.{Sheet}
use Rattle.fws_ios_put_lists.specs.Blocks.{scene, AreNodeEntries, Scene}
use Rattle.fws_ios_put_entries.specs.Paths.{nothing_asked}

-- the scene of a sheet
abbrev pub scene_of : Sheet → Scene
scene_of s = scene s.tree.now.0 s.tree.now.1 s.leaves.now s.nodes.now

-- the entries of the last node, where packets come on any path and fall to being denied
abbrev pub AreAllEntries : Sheet → List IosEntry → Type 0
AreAllEntries s block = AreNodeEntries (scene_of s) s.keep (length s.nodes.now - 1) nothing_asked (Some false) block
