-- What functions are handed, as definitions take it.
use Rattle.std.specs.Prelude.{◌≡◌, ℕ, Bool, Some, List, ◌++◌, slice_get}
use Rattle.fws_net.specs.declared.outcome.End.{End}
use Rattle.fws_net.specs.declared.site.Site.{Site}
use Rattle.fws_pf.specs.declared.config.PfNat.{PfNat}
use Rattle.fws_tree.specs.declared.node.Kid.{Kid}
use Rattle.fws_tree.specs.declared.node.Node.TheVariants.{Cut}
use Rattle.fws_pf_put_nat.specs.declared.ends.Ends.{Ends}
use Rattle.fws_pf_put_nat.specs.declared.path.Path.{Path}
use Rattle.fws_pf_put_nat.specs.declared.plan.Plan.{Plan}
use Rattle.fws_pf_put_nat.specs.declared.sheet.Sheet.{Sheet}
use Rattle.fws_pf_put_nat.specs.Ends.{IsSettledAt}
use Rattle.fws_pf_put_nat.specs.Scenes.{scene, Scene}
use Rattle.fws_pf_put_nat.specs.Translations.{IsTranslations}
use Rattle.fws_pf_put_nat.specs.Writings.{nats_of, AreEndPaths, IsPrintedPath}

-- the scene of a sheet
abbrev pub scene_of : Sheet → Scene
scene_of s = scene s.site.now s.tree.now.0 s.tree.now.1 s.leaves.now s.nodes.now s.states.now s.outward s.ends.now s.start

-- the translations of a pass, by what a sheet and a plan say of it
abbrev pub IsListOf : Sheet → List PfNat → Type 0
IsListOf s block = IsTranslations s.site.now s.tree.now.0 s.tree.now.1 s.leaves.now s.nodes.now s.states.now s.outward block

abbrev pub IsPlannedList : Plan → List PfNat → Type 0
IsPlannedList p block = IsTranslations p.site.now p.tree.now.0 p.tree.now.1 p.leaves.now p.nodes.now p.states.now p.outward block

-- if the node cuts a field, its ends are settled there
abbrev pub IsSettledNode : Scene → ℕ → Type 0
IsSettledNode s at = (f : ℕ) (kids : List Kid) (e : Ends) → slice_get s.nodes at ≡ Some (Cut f kids) → slice_get s.ends at ≡ Some e → IsSettledAt s.outward f e

-- the translations that write an end over packets on a path are put behind others
abbrev pub PutsEnd : List PfNat → List PfNat → Bool → Path → End → ℕ → Type 0
PutsEnd old new outward path end tag = (paths : List Path) × (new ≡ old ++ nats_of paths end tag)
    × ((site : Site) → IsPrintedPath site path → AreEndPaths site outward end path paths)
