use Rattle.std.proofs.Common.{◌≡◌, ℕ, true, false, Some, List, slice_get, take}
use Rattle.fws_flat.specs.declared.code.Part.{Part}
use Rattle.fws_flat.specs.Walk.{sees}
use Rattle.fws_net.specs.declared.connection.Kind.{Kind}
use Rattle.fws_net.specs.declared.site.Site.{Site}
use Rattle.fws_net.specs.Conditions.{holds}
use Rattle.fws_exec.specs.declared.spot.Class.{Class}
use Rattle.fws_exec.specs.Classes.{transit_of}
use Rattle.fws_exec.specs.Sheets.{among}
use Rattle.fws_exec.specs.Views.{is_in}
use Rattle.fws_exec.proofs.roll.Roll.grouped.Given as goal

abbrev pub invariant-loop-number : goal.invariant-loop-number
invariant-loop-number l = record {
  inside : (n : ℕ) → is_in l.groups.all.items n ≡ true → among (take l.number-index l.numbers) n ≡ true;
  left : (n : ℕ) (c : Class) → among (take l.number-index l.numbers) n ≡ true → is_in l.groups.all.items n ≡ false → slice_get l.self.classes.items n ≡ Some c
      → (site : Site) (kind : Kind) (part : Part) (p : List ℕ) → holds l.cond (sees site kind part (transit_of c.progress p)) ≡ false;
}
